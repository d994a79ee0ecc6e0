-- The cells that use another one, and marks of cells.
--     is_marked marks n        the number has a mark
--     leads_to sec rows n      a link of cell n leads to the section
--     is_user_of cell rows n   a link of cell n leads into the cell
use Rattle.std.specs.Prelude.{ℕ, ◌==◌, ◌&&◌, Bool, false, List, slice_index_or}
use Rattle.std.specs.List.{list_any}
use Rattle.cell_num.specs.declared.ids.SecKey.{SecKey}
use Rattle.cell_world.specs.declared.state.LinkRow.{LinkRow}
use Rattle.cell_graph.specs.Links.{is_same}

abbrev pub is_marked : List Bool → ℕ → Bool
is_marked marks n = slice_index_or marks n false

abbrev pub leads_to : SecKey → List LinkRow → ℕ → Bool
leads_to sec rows n = list_any (λ r. is_same r.target sec && r.user.cell.0 == n) rows

abbrev pub is_user_of : ℕ → List LinkRow → ℕ → Bool
is_user_of cell rows n = list_any (λ r. r.target.cell.0 == cell && r.user.cell.0 == n) rows
