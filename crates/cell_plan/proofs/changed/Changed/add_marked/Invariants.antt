use Rattle.std.proofs.Common.{◌≡◌, ◌++◌, Bool, map, take}
use Rattle.std.specs.Prelude.{filter}
use Rattle.cell_object.specs.declared.object.Entry.{Entry}
use Rattle.cell_link.specs.declared.value.FieldValue.{FieldValue}
use Rattle.cell_plan.specs.Spans.{span_in}
use Rattle.cell_plan.proofs.changed.Changed.add_marked.Given as goal

-- those of the entries so far
abbrev pub invariant-loop-index : goal.invariant-loop-index
invariant-loop-index l = record {
  patches : (value : Entry → FieldValue) (kept : Entry → Bool) → l.values ≡ map value l.entries → l.marks ≡ map kept l.entries → l.self.patches.items ≡ l.initial.self.patches.items ++ map value (filter kept (take l.index l.entries));
  spans : (kept : Entry → Bool) → l.marks ≡ map kept l.entries → l.self.spans.items ≡ l.initial.self.spans.items ++ map (span_in l.lasts.cell.now) (filter kept (take l.index l.entries));
  links : l.self.links ≡ l.initial.self.links;
}
