use Rattle.std.proofs.Common.{◌≡◌, None, fold, filter, drop}
use Rattle.cell_plan.specs.Spans.{is_in, lower_span}
use Rattle.cell_plan.proofs.torn.lowest_at.Given as goal

-- the lowest so far, and those that are left, give the lowest of all
abbrev pub invariant-loop-span : goal.invariant-loop-span
invariant-loop-span l = fold lower_span l.lowest (filter (is_in l.pc) (drop l.span-index l.spans)) ≡ fold lower_span None (filter (is_in l.pc) l.spans)
