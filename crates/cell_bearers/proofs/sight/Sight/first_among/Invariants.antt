use Rattle.std.proofs.Common.{◌≡◌, ◌<◌, length, take}
use Rattle.std.specs.Prelude.{IfSome}
use Rattle.cell_bearers.specs.Bearers.{answer_of}
use Rattle.cell_bearers.specs.Found.{found_by}
use Rattle.cell_bearers.proofs.sight.Sight.first_among.Given as goal

-- the first of those so far
abbrev pub invariant-loop-index : goal.invariant-loop-index
invariant-loop-index l = record {
  found : l.first ≡ found_by l.self (answer_of (take l.index l.bearers));
  there : IfSome l.first (λ b. b.cell < length l.self.cells.now);
}
