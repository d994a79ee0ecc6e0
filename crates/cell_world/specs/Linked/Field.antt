-- The value of a field: the object's own bytes with the entries at that place applied in table order.
--     Bound                        an entry and what it names
--     bound_by entries targets     each entry with its target
--     number_of c bound b v        the number that the entry stands for, in a field that holds v
--     fits c bound b               that number is in the kind's range
--     is_at f e                    the entries are at one place
--     fields_of object             the first entry of each field
--     field_value_of c bound f     what the field holds
--     misfit_of c bound            the first entry that doesn't fit
use Rattle.std.specs.Prelude.{ℕ, ◌+◌, ◌==◌, Bool, true, false, not, ◌&&◌, ℤ, pos, List, [], ◌∷◌, Option, filter, find, fold, slice_range, unwrap_or, option_map, option_and_then}
use Rattle.std.specs.List.{list_any}
use Rattle.cell_object.specs.declared.object.Object.{Object}
use Rattle.cell_object.specs.declared.object.Entry.{Entry}
use Rattle.cell_world.specs.declared.state.NewCell.{NewCell}
use Rattle.cell_world.specs.declared.state.Target.{Target}
use Rattle.cell_num.specs.Bits.{little}
use Rattle.cell_num.specs.Kinds.{width_of, is_pcrel_lo12, is_pcrel_hi20}
use Rattle.cell_reloc.specs.Relocation.{value_of, does_fit, inserted}
use Rattle.cell_object.specs.Parts.{section_of, label_of}
use Rattle.cell_world.specs.Linked.Target.{start_of, address_of}

pub record Bound : Type 0 where
  pub entry : Entry
  pub target : Target

abbrev pub bound_by : List Entry → List Target → List Bound
bound_by [] targets = []
bound_by (e ∷ entries) [] = []
bound_by (e ∷ entries) (t ∷ targets) = record { entry = e; target = t } ∷ bound_by entries targets

-- the address of the field that the entry is at
abbrev pub place_of : NewCell → Entry → ℕ
place_of c e = start_of c e.section + e.offset

-- by target, addend and place of the entry itself
abbrev pub number_at : NewCell → Bound → ℕ → ℤ
number_at c b v = value_of b.entry.kind (address_of b.target) b.entry.addend (place_of c b.entry) v

-- the PCREL_HI20 entry at the label of a PCREL_LO12 entry
abbrev pub bound_high_of : NewCell → List Bound → Entry → Option Bound
bound_high_of c bound e =
    option_and_then
    (λ label. find (λ h. is_pcrel_hi20 h.entry.kind && h.entry.section == label.0 && h.entry.offset == label.1) bound)
    (label_of c.object e)

-- a PCREL_LO12 entry stands for the number of its PCREL_HI20 entry, at that entry's place
abbrev pub number_of : NewCell → List Bound → Bound → ℕ → ℤ
number_of c bound b v =
    elim (is_pcrel_lo12 b.entry.kind) [
      | true ↦ unwrap_or (option_map (λ high. number_at c high v) (bound_high_of c bound b.entry)) (pos 0)
      | false ↦ number_at c b v
    ]

-- what a field holds before matters only to kinds that always fit
abbrev pub fits : NewCell → List Bound → Bound → Bool
fits c bound b = does_fit b.entry.kind (number_of c bound b 0)

abbrev pub misfit_of : NewCell → List Bound → Option Bound
misfit_of c bound = find (λ b. not (fits c bound b)) bound

abbrev pub is_at : Entry → Entry → Bool
is_at f e = e.section == f.section && e.offset == f.offset

-- a field is known by its first entry
abbrev pub fields_among : List Entry → List Entry → List Entry
fields_among before [] = []
fields_among before (e ∷ entries) =
    elim (list_any (is_at e) before) [
      | true ↦ fields_among before entries
      | false ↦ e ∷ fields_among (e ∷ before) entries
    ]

abbrev pub fields_of : Object → List Entry
fields_of object = fields_among [] object.entries

-- what the object itself has at the field
abbrev pub own_number : Object → Entry → ℕ
own_number object f =
    little
    (unwrap_or (option_map (λ s. slice_range s.bytes f.offset (f.offset + width_of f.kind)) (section_of object f.section)) [])

abbrev pub field_value_of : NewCell → List Bound → Entry → ℕ
field_value_of c bound f =
    fold (λ v b. inserted b.entry.kind v (number_of c bound b v)) (own_number c.object f)
    (filter (λ b. is_at f b.entry) bound)
