use Rattle.std.proofs.Common.{◌≡◌, ◌+◌, ◌<◌, ◌^◌, drop}
use Rattle.cell_plan.specs.Rising.{rises}
use Rattle.cell_plan.proofs.rising.rises.Given as goal

-- those that are left decide
abbrev pub invariant-loop-index : goal.invariant-loop-index
invariant-loop-index l = record {
  left : rises l.least (drop l.index l.entries) ≡ rises 0 l.entries;
  small : l.least < 2 ^ 48 + 1;
}
