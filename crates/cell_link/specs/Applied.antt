-- What fields hold, as the entries are applied one after the other.
--     spot_of e                            the section and offset that the entry is at
--     applied c bound v b                  what a field that held v holds after the entry
--     held_among c bound some q            what the field at q holds after some of the entries, where one of them is there
--     IsHeld c bound some held             the map has that for each place
--     IsHeldAfter c bound b old new        the map after one more entry
--     field_at c held f                    the field by its first entry and what the fields hold
--     IsAppliedAt c bound f b place v r    what the field of f holds after the entry at that place
--     IsValueAt c targets f r              what the field of f holds after all entries
use Rattle.std.specs.Prelude.{◌≡◌, ◌==◌, ◌&&◌, ℕ, Bool, false, cond, List, Option, Some, filter, find, fold, option_map, unwrap_or, not, Result, Ok, Err, true, None}
use Rattle.std.specs.BTreeMap.{BTreeMap, get}
use Rattle.cell_num.specs.Kinds.{width_of}
use Rattle.cell_reloc.specs.Relocation.{inserted}
use Rattle.cell_object.specs.declared.object.Entry.{Entry}
use Rattle.cell_world.specs.declared.state.NewCell.{NewCell}
use Rattle.cell_world.specs.declared.state.Target.{Target}
use Rattle.cell_world.specs.Linked.Field.{Bound, fits, is_at, number_of, own_number, field_value_of, place_of}
use Rattle.cell_link.specs.declared.fail.LinkFail.{LinkFail}
use Rattle.cell_link.specs.declared.fail.LinkFail.TheVariants.{Overflow as EntryOverflow, OutOfMemory}
use Rattle.cell_link.specs.declared.fail.Overflow.{Overflow}
use Rattle.cell_link.specs.declared.value.FieldValue.{FieldValue}
use Rattle.cell_link.specs.Linked.{bound_in, first_unfit, first_unfit_at}
use Rattle.cell_link.specs.Tables.{spot_cmp}

abbrev pub spot_of : Entry → ℕ × ℕ
spot_of e = (e.section, e.offset)

abbrev pub stands_at : ℕ × ℕ → Bound → Bool
stands_at q b = b.entry.section == q.0 && b.entry.offset == q.1

-- what the field holds after one more entry
abbrev pub applied : NewCell → List Bound → ℕ → Bound → ℕ
applied c bound v b = inserted b.entry.kind v (number_of c bound b v)

abbrev pub held_among : NewCell → List Bound → List Bound → ℕ × ℕ → Option ℕ
held_among c bound some q =
    option_map (λ b. fold (applied c bound) (own_number c.object b.entry) (filter (stands_at q) some)) (find (stands_at q) some)

abbrev pub Held : Type 0
Held = BTreeMap (ℕ × ℕ) ℕ

abbrev pub IsHeld : NewCell → List Bound → List Bound → Held → Type 0
IsHeld c bound some held = (q : ℕ × ℕ) → get spot_cmp held q ≡ held_among c bound some q

-- the entry is applied to the field at its place, which is the object's own where no entry was there before
abbrev pub IsHeldAfter : NewCell → List Bound → Bound → Held → Held → Type 0
IsHeldAfter c bound b old new =
    (q : ℕ × ℕ) → get spot_cmp new q ≡ cond (stands_at q b) (Some (applied c bound (unwrap_or (get spot_cmp old (spot_of b.entry)) (own_number c.object b.entry)) b)) (get spot_cmp old q)

abbrev pub field_at : NewCell → Held → Entry → FieldValue
field_at c held f =
    record { addr = place_of c f; width = width_of f.kind; value = unwrap_or (get spot_cmp held (spot_of f)) 0 }

-- where it is not for want of memory, the entry at that place doesn't fit
abbrev pub IsMisfit : NewCell → List Bound → Bound → ℕ → LinkFail → Type 0
IsMisfit c bound b place (EntryOverflow entry) = (fits c bound b ≡ false) × (entry ≡ place)
IsMisfit c bound b place OutOfMemory = Unit {0}

abbrev pub IsFirstMisfit : NewCell → List Target → LinkFail → Type 0
IsFirstMisfit c targets (EntryOverflow entry) = first_unfit c targets ≡ Some entry
IsFirstMisfit c targets OutOfMemory = Unit {0}

-- the entry is at the field of f, and doesn't fit
abbrev pub is_unfit_at : NewCell → List Bound → Entry → Bound → Bool
is_unfit_at c bound f b = is_at f b.entry && not (fits c bound b)

-- what the field of f holds after the entry at that place, if the entry is at the field
abbrev pub IsAppliedAt : NewCell → List Bound → Entry → Bound → ℕ → ℕ → Result ℕ Overflow → Type 0
IsAppliedAt c bound f b place v (Ok w) =
    (is_unfit_at c bound f b ≡ false) × (w ≡ cond (is_at f b.entry) (applied c bound v b) v)
IsAppliedAt c bound f b place v (Err overflow) = (is_unfit_at c bound f b ≡ true) × (overflow.entry ≡ place)

-- what the field holds where each entry at it fits, or the first that doesn't
abbrev pub IsValueAt : NewCell → List Target → Entry → Result ℕ Overflow → Type 0
IsValueAt c targets f (Ok value) = (first_unfit_at c targets f ≡ None) × (value ≡ field_value_of c (bound_in c targets) f)
IsValueAt c targets f (Err overflow) = first_unfit_at c targets f ≡ Some overflow.entry
