-- What the lists of places say of the arenas.
--     link_at at r    the link that stands at a place of the list
use Rattle.std.specs.Prelude.{ℕ, Option}
use Rattle.std.specs.Option.{option_map_or}
use Rattle.cell_world.specs.declared.state.LinkRow.{LinkRow}
use Rattle.cell_graph.specs.declared.order.RowPlace.{RowPlace}
use Rattle.cell_graph.specs.declared.rows.ChainRow.{ChainRow}

-- the link that stands at a place of the list; one with its user for a target where none stands there
abbrev pub link_at : (ℕ → Option ChainRow) → RowPlace → LinkRow
link_at at r = record { user = r.user; entry = r.entry; target = option_map_or (λ c. c.row.target) (at r.place) r.user }
