-- Where the sections of an object end, class by class.
use Rattle.std.specs.Prelude.{ℕ, ◌+◌, ◌≡◌, ◌<◌, ◌^◌, List, [], ◌∷◌, Option, Some, None, filter, map, unwrap_or}
use Rattle.cell_object.specs.declared.object.Section.{Section as ObjectSection}
use Rattle.cell_world.specs.declared.state.SecPlace.{SecPlace}
use Rattle.cell_world.specs.Placed.Layout.{is_in_class, gap, class_of, offset_in, laid_end}
use Rattle.cell_world.specs.declared.layout.Class.TheVariants.{Text, ReadOnly, Writable}
use Rattle.cell_world.specs.declared.layout.Class.{Class}
use Rattle.cell_layout.specs.declared.layout.Ends.{Ends}

abbrev pub in_class : Class → List ObjectSection → List ObjectSection
in_class class sections = filter (is_in_class class) sections

abbrev pub end_for : Ends → Class → Option ℕ
end_for ends Text = ends.text
end_for ends ReadOnly = ends.read_only
end_for ends Writable = ends.writable

abbrev pub with_end : Ends → Class → ℕ → Ends
with_end ends Text end = record ends { text = Some end }
with_end ends ReadOnly end = record ends { read_only = Some end }
with_end ends Writable end = record ends { writable = Some end }

-- where the last of the sections ends, where there is one
abbrev pub end_of : List ObjectSection → Option ℕ
end_of [] = None
end_of (s ∷ sections) = Some (laid_end (s ∷ sections))

-- the ends are those of the sections
abbrev pub AreEnds : Ends → List ObjectSection → Type 0
AreEnds ends sections = (class : Class) → end_for ends class ≡ end_of (in_class class sections)

-- where the next section of the class begins
abbrev pub next_in : Ends → ObjectSection → ℕ
next_in ends s = let n = unwrap_or (end_for ends (class_of s)) 0 in n + gap n s.align

-- where each section stands in its class
abbrev pub offset_among : List ObjectSection → ObjectSection → ℕ
offset_among sections s = offset_in (in_class (class_of s) sections) s.number

abbrev pub offset_place : List ObjectSection → ObjectSection → SecPlace
offset_place sections s = record { section = s.number; start = offset_among sections s }

abbrev pub offsets_of : List ObjectSection → List SecPlace
offsets_of sections = map (offset_place sections) sections

-- a class's sections end far below the numbers of 64 bits
abbrev pub IsSmall : Option ℕ → Type 0
IsSmall end = unwrap_or end 0 < 2 ^ 42

pub record AreSmall (ends : Ends) : Type 0 where
  pub text : IsSmall ends.text
  pub read_only : IsSmall ends.read_only
  pub writable : IsSmall ends.writable
