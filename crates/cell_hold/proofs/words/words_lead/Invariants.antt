use Rattle.std.proofs.Common.{◌≡◌, length}
use Rattle.cell_world.specs.Running.Words.{words_in}
use Rattle.cell_hold.specs.Reached.{touches}
use Rattle.cell_hold.proofs.words.words_lead.Given as goal

abbrev pub invariant-loop-rest : goal.invariant-loop-rest
invariant-loop-rest l = touches l.places (words_in l.bytes) l.fn.cell.0 ≡ touches l.places (words_in l.rest) l.fn.cell.0

abbrev pub decreases-loop-rest : goal.decreases-loop-rest
decreases-loop-rest l = length l.rest
