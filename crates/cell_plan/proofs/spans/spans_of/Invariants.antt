use Rattle.std.proofs.Common.{◌≡◌, map, take}
use Rattle.cell_plan.specs.Spans.{span_in}
use Rattle.cell_plan.proofs.spans.spans_of.Given as goal

-- those of the fields so far
abbrev pub invariant-loop-field : goal.invariant-loop-field
invariant-loop-field l = l.spans.items ≡ map (span_in l.cell) (take l.field-index l.fields)
