use Rattle.std.proofs.Common.{◌≡◌, map, drop}
use Rattle.cell_world.specs.Outcome.{each}
use Rattle.cell_routines.specs.Begins.{begin_as, begins_by, with_begin}
use Rattle.cell_routines.proofs.begins.begins_by.Given as goal

-- the words that are left make of the places so far what all words make
abbrev pub invariant-loop-word : goal.invariant-loop-word
invariant-loop-word l = each (with_begin l.table) (map begin_as l.begins.items) (drop l.word-index l.words) ≡ begins_by l.table l.words
