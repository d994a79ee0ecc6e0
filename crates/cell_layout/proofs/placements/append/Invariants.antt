use Rattle.std.proofs.Common.{◌≡◌, ◌++◌}
use Rattle.cell_layout.proofs.placements.append.Given as goal

-- the regions so far, with those that are left, are all
abbrev pub invariant-loop-region : goal.invariant-loop-region
invariant-loop-region l = l.into.items ++ l.region-iterator.rest.items ≡ l.fn.into.items ++ l.fn.regions.items
