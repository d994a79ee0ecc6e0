-- A cell as commands link it: its fields, or the refusal of the first entry that doesn't fit.
--     entry_overflow c e          the refusal for an entry that doesn't fit
--     LinksBy c targets result    all fields, that refusal, or want of memory
use Rattle.std.specs.Prelude.{◌≡◌, List, Some, None, Result, Ok, Err, option_map}
use Rattle.cell_object.specs.declared.object.Entry.{Entry}
use Rattle.cell_world.specs.declared.fail.Fail.{Fail}
use Rattle.cell_world.specs.declared.fail.Fail.TheVariants.{Refused, OutOfMemory}
use Rattle.cell_world.specs.declared.refusal.Refusal.{Refusal}
use Rattle.cell_world.specs.declared.refusal.Refusal.TheVariants.{Overflow}
use Rattle.cell_world.specs.declared.state.NewCell.{NewCell}
use Rattle.cell_world.specs.declared.state.Target.{Target}
use Rattle.cell_world.specs.World.{attached}
use Rattle.cell_world.specs.Linked.Field.{misfit_of}
use Rattle.cell_world.specs.Linked.Fit.{overflow_at}
use Rattle.cell_link.specs.declared.value.FieldValue.{FieldValue}
use Rattle.cell_link.specs.Linked.{bound_in, field_values}

abbrev pub entry_overflow : NewCell → Entry → Refusal
entry_overflow c e = Overflow c.id e.section e.offset e.kind

abbrev pub LinksBy : NewCell → List Target → Result (List FieldValue) Fail → Type 0
LinksBy c targets (Ok fields) = (misfit_of c (bound_in c targets) ≡ None) × (fields ≡ field_values c targets)
LinksBy c targets (Err (Refused refusal)) = option_map (overflow_at (attached c)) (misfit_of c (bound_in c targets)) ≡ Some refusal
LinksBy c targets (Err OutOfMemory) = Unit {0}
