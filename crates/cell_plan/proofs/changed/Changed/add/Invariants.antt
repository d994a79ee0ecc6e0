use Rattle.std.proofs.Common.{◌≡◌, ◌++◌, map, take}
use Rattle.cell_plan.specs.Spans.{span_in}
use Rattle.cell_plan.proofs.changed.Changed.add.Given as goal

-- the fields so far
abbrev pub invariant-loop-change : goal.invariant-loop-change
invariant-loop-change l = record {
  patches : l.self.patches.items ≡ l.fn.self.patches.items ++ map (λ f. f.value) (take l.change-index l.changes);
  links : l.self.links ≡ l.fn.self.links;
  spans : l.self.spans.items ≡ l.fn.self.spans.items ++ map (span_in l.cell) (map (λ f. f.field) (take l.change-index l.changes));
}
