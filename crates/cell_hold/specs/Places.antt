-- Sections by their addresses.
--     is_at word s                 the word lies in the section, both ends included
--     is_cells_at c word places    it lies in a section of the cell
--     HasTargets graph places      each link leads into one of the sections
use Rattle.std.specs.Prelude.{ℕ, ◌+◌, nat_le, Bool, ◌&&◌, IsTrue, List}
use Rattle.std.specs.List.{list_any, list_all}
use Rattle.cell_num.specs.declared.ids.SecKey.{SecKey}
use Rattle.cell_graph.specs.Links.{Links, is_same}
use Rattle.cell_world.specs.declared.state.Placed.{Placed}
use Rattle.cell_world.specs.Kept.{is_inside}

abbrev pub is_at : ℕ → Placed → Bool
is_at word s = nat_le s.start word && nat_le word (s.start + s.size)

abbrev pub is_cells_at : ℕ → ℕ → List Placed → Bool
is_cells_at c word places = list_any (is_inside c word) places

abbrev pub has_section : List Placed → SecKey → Bool
has_section places key = list_any (λ s. is_same s.key key) places

abbrev pub HasTargets : Links → List Placed → Type 0
HasTargets graph places = IsTrue (list_all (λ row. has_section places row.target) graph.rows)
