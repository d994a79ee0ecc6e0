-- Links that still stand.
--     standing at list     those of the list whose places are not empty
use Rattle.std.specs.Prelude.{ℕ, List, Option, filter, is_some}
use Rattle.cell_graph.specs.declared.rows.ChainRow.{ChainRow}
use Rattle.cell_graph.specs.declared.order.RowPlace.{RowPlace}

abbrev pub standing : (ℕ → Option ChainRow) → List RowPlace → List RowPlace
standing at list = filter (λ r. is_some (at r.place)) list
