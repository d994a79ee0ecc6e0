-- What linking a cell gives, once each of its entries has a target.
use Rattle.std.specs.Prelude.{◌≡◌, ℕ, not, List, Option, Some, None, Result, Ok, Err, map, position, ◌&&◌}
use Rattle.cell_num.specs.Kinds.{width_of}
use Rattle.cell_object.specs.declared.object.Entry.{Entry}
use Rattle.cell_world.specs.declared.state.NewCell.{NewCell}
use Rattle.cell_world.specs.declared.state.Target.{Target}
use Rattle.cell_world.specs.Linked.Field.{Bound, bound_by, fields_of, field_value_of, fits, is_at, place_of}
use Rattle.cell_link.specs.declared.value.FieldValue.{FieldValue}
use Rattle.cell_link.specs.declared.fail.Overflow.{Overflow as EntryOverflow}
use Rattle.cell_link.specs.declared.fail.LinkFail.{LinkFail}
use Rattle.cell_link.specs.declared.fail.LinkFail.TheVariants.{Overflow, OutOfMemory}

abbrev pub bound_in : NewCell → List Target → List Bound
bound_in c targets = bound_by c.object.entries targets

abbrev pub value_at : NewCell → List Target → Entry → FieldValue
value_at c targets f =
    record { addr = place_of c f; width = width_of f.kind; value = field_value_of c (bound_in c targets) f }

-- the fields in the order of their first entries
abbrev pub field_values : NewCell → List Target → List FieldValue
field_values c targets = map (value_at c targets) (fields_of c.object)

-- the place of the first entry that doesn't fit
abbrev pub first_unfit : NewCell → List Target → Option ℕ
first_unfit c targets = position (λ b. not (fits c (bound_in c targets) b)) (bound_in c targets)

-- all fields where each entry fits, or the first entry that doesn't
abbrev pub IsLinked : NewCell → List Target → Result (List FieldValue) LinkFail → Type 0
IsLinked c targets (Ok fields) = (first_unfit c targets ≡ None) × (fields ≡ field_values c targets)
IsLinked c targets (Err (Overflow entry)) = first_unfit c targets ≡ Some entry
IsLinked c targets (Err OutOfMemory) = Unit {0}

-- the place of the first entry at the field of f that doesn't fit
abbrev pub first_unfit_at : NewCell → List Target → Entry → Option ℕ
first_unfit_at c targets f =
    position (λ b. is_at f b.entry && not (fits c (bound_in c targets) b)) (bound_in c targets)

-- the field whose first entry is f, where each entry at it fits, or the first that doesn't
abbrev pub IsFieldValue : NewCell → List Target → Entry → Result FieldValue EntryOverflow → Type 0
IsFieldValue c targets f (Ok field) = (first_unfit_at c targets f ≡ None) × (field ≡ value_at c targets f)
IsFieldValue c targets f (Err overflow) = first_unfit_at c targets f ≡ Some overflow.entry
