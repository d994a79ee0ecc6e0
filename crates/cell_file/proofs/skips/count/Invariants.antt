use Rattle.std.proofs.Common.{ℕ, ◌+◌, get_or}
use Rattle.cell_file.specs.Cover.{IsSkip, reach}
use Rattle.cell_file.proofs.skips.count.Given as goal

abbrev pub invariant-loop-at : goal.invariant-loop-at
invariant-loop-at l = (q : ℕ) → IsSkip l.bytes (l.from + q) (reach (get_or l.counts q 0))
