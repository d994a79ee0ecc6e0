-- What is left of a begun undo.
--     begun writes regions       at its beginning, by how many writes it may note and the regions then
--     noted_in x u               after the write whose record is x
--     noted x undo               the same where an undo is begun
--     with_mapped r undo         after a region was mapped meanwhile
--     with_unmapped start undo   after the region that starts there was unmapped meanwhile
use Rattle.std.specs.Prelude.{ℕ, ◌-◌, List, [], ◌∷◌, ◌++◌, Option, option_map}
use Rattle.cell_lemmas.specs.Undo.{undone_in}
use Rattle.cell_world.specs.declared.transfer.Record.{Record}
use Rattle.cell_world.specs.Placed.Place.{with_region}
use Rattle.cell_world.specs.Running.Turn.{without_region}
use Rattle.cell_world.specs.World.{Region}

-- how many writes may still be noted, and the records of those that are
pub record Noted : Type 0 where
  pub left : ℕ
  pub journal : List Record

-- `before` are the regions as the undo gives them back: those of its beginning as they were then, without those that were
-- unmapped since; with them, in their places, those that were mapped since
pub record UndoState : Type 0 where
  pub left : ℕ
  pub journal : List Record
  pub before : List Region

abbrev pub begun : ℕ → List Region → UndoState
begun writes regions = record { left = writes; journal = []; before = regions }

abbrev pub noted_in : Record → UndoState → UndoState
noted_in x u = record u { left = u.left - 1; journal = u.journal ++ x ∷ [] }

abbrev pub noted : Record → Option UndoState → Option UndoState
noted x undo = option_map (noted_in x) undo

-- what stood at its place in a region that is gone by now comes back into it
abbrev pub mapped_in : Region → UndoState → UndoState
mapped_in r u = record u { before = with_region (undone_in r u.journal) u.before }

abbrev pub with_mapped : Region → Option UndoState → Option UndoState
with_mapped r undo = option_map (mapped_in r) undo

abbrev pub unmapped_in : ℕ → UndoState → UndoState
unmapped_in start u = record u { before = without_region start u.before }

abbrev pub with_unmapped : ℕ → Option UndoState → Option UndoState
with_unmapped start undo = option_map (unmapped_in start) undo
