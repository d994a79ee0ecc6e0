-- A place of a cell, by its section and where that starts in its class.
use Rattle.std.proofs.Common.{◌≡◌, refl, sym, ◌∙◌, ap, subst, arith, ℕ, ◌+◌, ◌<◌, Bool, true, false, ◌&&◌, List, Option, Some, None, length, get_or}
use Rattle.std.specs.Prelude.{◌%◌, ◌==◌, find, nat_le, nat_lt, option_map, unwrap_or, if◌then◌else◌}
use Rattle.std.proofs.lemmas.List.{get_or-map}
use Rattle.std.proofs.lemmas.Bool.Decides.{nat_tests}
use Rattle.cell_num.specs.Lists.{each_pair, where_true}
use Rattle.cell_object.specs.declared.object.Object.{Object}
use Rattle.cell_object.specs.declared.object.Section.{Section as ObjectSection}
use Rattle.cell_object.specs.Parts.{section_of}
use Rattle.cell_layout.specs.Layout.{in_class, offset_among, offset_place, offsets_of}
use Rattle.cell_world.specs.declared.layout.Class.TheVariants.{Text, ReadOnly, Writable}
use Rattle.cell_world.specs.declared.state.NewCell.{NewCell}
use Rattle.cell_world.specs.declared.state.SecPlace.{SecPlace}
use Rattle.cell_world.proofs.InOrder.{none_there, other_there, this_there}
use Rattle.cell_world.specs.Before.{AreBefore}
use Rattle.cell_world.specs.Placed.Layout.{offset_in, sections_in}
use Rattle.cell_world.specs.Commands.SpawnCommand.{is_entry_in}
use Rattle.cell_routines.specs.declared.entries.Begin.{Begin}
use Rattle.cell_routines.specs.Begins.{begin_at, section_number}

abbrev pub place : NewCell → ℕ → ℕ → Begin
place c number offset = record { cell = c.id; section = number; offset = offset }

abbrev tested : NewCell → ℕ → ℕ → Option ObjectSection → Option Begin
tested c number offset o = where_true (unwrap_or (option_map (is_entry_in c.object offset) o) false) (place c number offset)

-- there is no such section
nothing_there : (c : NewCell) (number offset : ℕ) → section_of c.object number ≡ None → begin_at c number offset ≡ None
nothing_there c number offset e = ap (tested c number offset) e

executable : (x a b z : Bool) → (x ≡ true → a ≡ b) → (x && a && z) ≡ (x && b && z)
executable true a b z f = ap (λ t. t && z) (f refl)
executable false a b z f = refl

in_text : (sections : List ObjectSection) (s : ObjectSection) → s.exec ≡ true → offset_among sections s ≡ offset_in (in_class Text sections) s.number
in_text sections s e = ap (λ b. offset_in (in_class (if b then Text else if s.write then Writable else ReadOnly) sections) s.number) e

-- the test by the offset in the section's own class, since only text can be executed
same_test : (object : Object) (s : ObjectSection) (start offset : ℕ) → start ≡ offset_among object.sections s
    → (s.exec && (start + offset) % 4 == 0 && nat_le (offset + 4) s.size) ≡ is_entry_in object offset s
same_test object s start offset at =
    executable s.exec ((start + offset) % 4 == 0) ((offset_in (sections_in Text object) s.number + offset) % 4 == 0) (nat_le (offset + 4) s.size)
    (λ x. ap (λ (n : ℕ). (n + offset) % 4 == 0) (at ∙ in_text object.sections s x))

begin_there : (c : NewCell) (number offset : ℕ) (s : ObjectSection) (start : ℕ) (b : Bool) → section_of c.object number ≡ Some s → start ≡ offset_among c.object.sections s
    → (s.exec && (start + offset) % 4 == 0 && nat_le (offset + 4) s.size) ≡ b → begin_at c number offset ≡ where_true b (place c number offset)
begin_there c number offset s start b there at test =
    ap (tested c number offset) there
    ∙ ap (λ t. where_true t (place c number offset)) (sym (same_test c.object s start offset at) ∙ test)

-- the offsets are in the order of the sections
starts_there : (sections : List ObjectSection) (offsets : List SecPlace) (i : ℕ) (s : ObjectSection) (p : SecPlace)
    → offsets ≡ offsets_of sections → i < length sections → s ≡ get_or sections i s → p ≡ get_or offsets i p → p.start ≡ offset_among sections s
starts_there sections offsets i s p are lt item at =
    ap (λ (q : SecPlace). q.start)
    (at ∙ ap (λ (ps : List SecPlace). get_or ps i p) are ∙ get_or-map (offset_place sections) sections i s p lt ∙ ap (offset_place sections) (sym item))

-- the sections, which are in the order of their numbers, and where those of lower numbers end
module _ (c : NewCell) (number offset : ℕ) (sections : List ObjectSection) (are : sections ≡ c.object.sections) (rising : each_pair (λ a b. nat_lt a.number b.number) c.object.sections ≡ true)
    (i : ℕ) (before : AreBefore section_number number sections i) where
  rises : each_pair (λ a b. nat_lt a.number b.number) sections ≡ true
  rises = subst (λ (ss : List ObjectSection). each_pair (λ a b. nat_lt a.number b.number) ss ≡ true) (sym are) rising

  found_there : (o : Option ObjectSection) → find (λ s. s.number == number) sections ≡ o → section_of c.object number ≡ o
  found_there o e = ap (find (λ s. s.number == number)) (sym are) ∙ e

  pub none_at : false ≡ nat_lt i (length sections) → begin_at c number offset ≡ None
  none_at past = nothing_there c number offset (found_there None (none_there section_number number sections rises i before past))

  module _ (s : ObjectSection) (there : true ≡ nat_lt i (length sections)) (item : s ≡ get_or sections i s) where
    pub other_at : (s.number ≡ number → ⊥) → begin_at c number offset ≡ None
    other_at other = nothing_there c number offset (found_there None (other_there section_number number sections rises i before s there item other))

    pub this_at : s.number ≡ number → (offsets : List SecPlace) → offsets ≡ offsets_of c.object.sections → (p : SecPlace) → p ≡ get_or offsets i p
        → (b : Bool) → (s.exec && (p.start + offset) % 4 == 0 && nat_le (offset + 4) s.size) ≡ b → begin_at c number offset ≡ where_true b (place c number offset)
    this_at this offsets laid p at b test =
        let within : i < length sections = grind (arith, nat_tests) in
        begin_there c number offset s p.start b (found_there (Some s) (this_there section_number number sections rises i before s there item this))
        (starts_there c.object.sections offsets i s p laid (subst (λ (ss : List ObjectSection). i < length ss) are within) (item ∙ ap (λ (ss : List ObjectSection). get_or ss i s) are) at) test
