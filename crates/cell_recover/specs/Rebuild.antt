-- The cells that a task holds, by its root and its words.
--     is_at word s                 the word lies in the section, its end included
--     has_word c word              the word lies in a section of the cell
--     is_held_by root words c      the cell is the root, or one of the words lies in it
use Rattle.std.specs.Prelude.{ℕ, ◌+◌, ◌==◌, nat_le, Bool, ◌&&◌, ◌||◌, List}
use Rattle.std.specs.List.{list_any}
use Rattle.cell_world.specs.Kept.{placed_at}
use Rattle.cell_world.specs.World.{attached}
use Rattle.cell_world.specs.declared.state.NewCell.{NewCell}
use Rattle.cell_world.specs.declared.state.Placed.{Placed}

abbrev pub is_at : ℕ → Placed → Bool
is_at word s = nat_le s.start word && nat_le word (s.start + s.size)

abbrev pub has_word : NewCell → ℕ → Bool
has_word c word = list_any (λ s. is_at word (placed_at (attached c) s)) c.object.sections

abbrev pub is_held_by : ℕ → List ℕ → NewCell → Bool
is_held_by root words c = root == c.id.0 || list_any (has_word c) words
