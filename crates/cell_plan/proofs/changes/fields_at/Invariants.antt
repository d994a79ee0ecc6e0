use Rattle.std.proofs.Common.{◌≡◌, map, take}
use Rattle.std.specs.Prelude.{filter}
use Rattle.std.specs.BTreeSet.{contains}
use Rattle.cell_object.specs.declared.object.Entry.{Entry}
use Rattle.cell_link.specs.Tables.{spot_cmp}
use Rattle.cell_link.specs.Applied.{spot_of}
use Rattle.cell_link.specs.declared.value.FieldValue.{FieldValue}
use Rattle.cell_plan.specs.Changes.{change_by}
use Rattle.cell_plan.proofs.changes.fields_at.Given as goal

-- those of the fields so far
abbrev pub invariant-loop-index : goal.invariant-loop-index
invariant-loop-index l = (value : Entry → FieldValue) → l.values ≡ map value l.firsts → l.changes.items ≡ map (change_by value) (filter (λ f. contains spot_cmp l.spots (spot_of f)) (take l.index l.firsts))
