use Rattle.std.proofs.Common.{◌≡◌, ◌++◌, drop}
use Rattle.std.specs.Prelude.{filter_map}
use Rattle.cell_bearers.specs.Namings.{bearer_of, distinct, distinct_after}
use Rattle.cell_bearers.proofs.index.add_bearers.Given as goal

-- the bearers so far, and those that are left, are all
abbrev pub invariant-loop-index : goal.invariant-loop-index
invariant-loop-index l = l.bearers.items ++ distinct_after l.last (filter_map bearer_of (drop l.index l.namings)) ≡ l.fn.bearers.items ++ distinct (filter_map bearer_of l.namings)
