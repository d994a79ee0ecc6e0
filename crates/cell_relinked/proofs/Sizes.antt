-- The fields of a described cell lie in its sections, and what the sections hold has their sizes.
use Rattle.std.proofs.Common.{◌≡◌, refl, sym, ◌∙◌, ap, subst, arith, ℕ, zero, suc, ◌+◌, ◌%◌, ◌^◌, ◌<◌, ◌≤◌, inl, inr, ◌⊎◌, Bool, true, false, true≢false, cond, not, ◌&&◌, ◌||◌, List, [], ◌∷◌, length, map}
use Rattle.std.specs.Prelude.{Option, Some, None, option_map, unwrap_or, nat_le, nat_lt, ◌==◌}
use Rattle.std.specs.List.{list_any}
use Rattle.std.proofs.lemmas.Bool.{and_parts, eqb-true, leb-true, ltb-true}
use Rattle.std.proofs.lemmas.List.{length-map}
use Rattle.cell_num.specs.Kinds.{is_instruction, width_of}
use Rattle.cell_num.specs.Limits.{max_section_bytes}
use Rattle.cell_num.specs.Lists.{In, from_on, upto}
use Rattle.cell_num.proofs.Elements.{all-In, found-In, map_same, pairs-In}
use Rattle.cell_object.specs.declared.object.Entry.{Entry}
use Rattle.cell_object.specs.declared.object.Object.{Object}
use Rattle.cell_object.specs.declared.object.Section.{Section as ObjectSection}
use Rattle.cell_object.specs.Parts.{section_of}
use Rattle.cell_object.specs.Sound.{IsSoundObject, is_sound_entry_in, is_sound_section, is_zero}
use Rattle.cell_audit.specs.Told.{byte_told}
use Rattle.cell_audit.specs.declared.told_bytes.Told.{Told}
use Rattle.cell_described.specs.Faults.{object_at}
use Rattle.cell_described.specs.declared.cell.DescribedCell.{DescribedCell}
use Rattle.cell_lemmas.proofs.Fields.FieldsInside.{among-In, own_length}
use Rattle.cell_lemmas.proofs.Targeting.Targets.{entry_parts}
use Rattle.cell_link.specs.Linked.{bound_in, field_values}
use Rattle.cell_link.specs.declared.value.FieldValue.{FieldValue}
use Rattle.cell_world.specs.Linked.Field.{field_value_of, fields_of}
use Rattle.cell_world.specs.Placed.Layout.{own_bytes}
use Rattle.cell_world.specs.Linked.Target.{targets_of}
use Rattle.cell_world.specs.World.{Cell, World}
use Rattle.cell_world.specs.declared.state.Target.{Target}
use Rattle.cell_relinked.specs.Contents.{AreInside, first_bytes, with_fields}
use Rattle.cell_relinked.specs.Fit.{IsFit, placed_in, start_among}

map_map : {X Y Z : Type 0} (f : Y → Z) (g : X → Y) (xs : List X) → map f (map g xs) ≡ map (λ x. f (g x)) xs
map_map f g [] = refl
map_map {Z = Z} f g (x ∷ xs) = ap (λ (zs : List Z). f (g x) ∷ zs) (map_map f g xs)

from_length : (a n : ℕ) → length (from_on a n) ≡ n
from_length a zero = refl
from_length a (suc n) = ap suc (from_length (suc a) n)

four : (a b c d : Bool) → (a && b && c && d) ≡ true → (c ≡ true) × (d ≡ true)
four true true true true h = (refl, refl)
four true true true false h = absurd (true≢false (sym h))
four true true false d h = absurd (true≢false (sym h))
four true false c d h = absurd (true≢false (sym h))
four false b c d h = absurd (true≢false (sym h))

module _ (o : Object) (sound : IsSoundObject o) where
  -- what is asked of a section's size and its bytes
  section_parts : (s : ObjectSection) → In s o.sections → (nat_le s.size max_section_bytes ≡ true) × ((is_zero s.fill || length s.bytes == s.size) ≡ true)
  section_parts s i = four (not (s.write && s.exec)) (list_any (λ k. s.align == 2 ^ k) (upto 13)) (nat_le s.size max_section_bytes) (is_zero s.fill || length s.bytes == s.size) (all-In is_sound_section o.sections sound.sections s i)

  pub small : (s : ObjectSection) → In s o.sections → s.size ≤ 16777216
  small s i = leb-true s.size max_section_bytes (section_parts s i).0

  -- a number is that of one section
  one_section : (s t : ObjectSection) → In s o.sections → In t o.sections → s.number ≡ t.number → s ≡ t
  one_section s t i j same = go (pairs-In (λ (a b : ObjectSection). nat_lt a.number b.number) o.sections sound.numbers s t i j)
    where
      go : (s ≡ t) ⊎ ((nat_lt s.number t.number ≡ true) ⊎ (nat_lt t.number s.number ≡ true)) → s ≡ t
      go (inl e) = e
      go (inr (inl h)) = let lt = ltb-true s.number t.number h in absurd (omega (arith, lt, same))
      go (inr (inr h)) = let lt = ltb-true t.number s.number h in absurd (omega (arith, lt, same))

  -- each field ends in its section
  pub all_inside : AreInside (fields_of o) o.sections
  all_inside f s i m same = go (section_of o f.section) refl (entry_parts o sound f (among-In o.entries [] f i)).0
    where
      ends : (t : ObjectSection) → section_of o f.section ≡ Some t → is_sound_entry_in f t ≡ true → f.offset + width_of f.kind ≤ s.size
      ends t found h =
          let at = found-In (λ (x : ObjectSection). x.number == f.section) o.sections t found in
          let is : t ≡ s = one_section t s at.0 m (eqb-true t.number f.section at.1 ∙ sym same) in
          let parts = and_parts (not (is_zero t.fill) && nat_le (f.offset + width_of f.kind) t.size) (not (is_instruction f.kind) || t.exec && (f.offset % 4 == 0)) h in
          let le = leb-true (f.offset + width_of f.kind) t.size (and_parts (not (is_zero t.fill)) (nat_le (f.offset + width_of f.kind) t.size) parts.0).1 in
          subst (λ (x : ObjectSection). f.offset + width_of f.kind ≤ x.size) is le

      go : (found : Option ObjectSection) → section_of o f.section ≡ found → unwrap_or (option_map (is_sound_entry_in f) found) false ≡ true → f.offset + width_of f.kind ≤ s.size
      go None e h = absurd (true≢false (sym h))
      go (Some t) e h = ends t e h

  pub first_size : (told : Told) (start : ℕ) (s : ObjectSection) → In s o.sections → length (first_bytes told start s) ≡ s.size
  first_size told start s i = go s.write
    where
      go : (b : Bool) → length (cond b (map (λ k. byte_told told (start + k)) (upto s.size)) (own_bytes s s.fill)) ≡ s.size
      go true = length-map (upto s.size) (λ k. byte_told told (start + k)) ∙ from_length 0 s.size
      go false = own_length s s.fill (section_parts s i).1

  pub first_sizes : (told : Told) (start : ObjectSection → ℕ) (contents : List (List ℕ)) → contents ≡ map (λ s. first_bytes told (start s) s) o.sections → map (λ bytes. length bytes) contents ≡ map (λ s. s.size) o.sections
  first_sizes told start contents are =
      ap (map (λ (bytes : List ℕ). length bytes)) are
      ∙ (map_map (λ (bytes : List ℕ). length bytes) (λ (s : ObjectSection). first_bytes told (start s) s) o.sections
      ∙ map_same (λ (s : ObjectSection). length (first_bytes told (start s) s)) (λ (s : ObjectSection). s.size) o.sections (λ s i. first_size told (start s) s i))

module _ (objects : List Object) (c : DescribedCell) (fit : IsFit objects c) where
  pub start_low : (s : ObjectSection) → In s (object_at objects c.object).sections → start_among c.places s.number + s.size < 2 ^ 64
  start_low s i =
      let start = fit.low.starts s.number in
      let size = small (object_at objects c.object) fit.loadable.sound s i in
      omega (arith, start, size)

  -- what the sections hold with the fields is what they hold once the cell is linked anew
  pub all_written : (w : World) (seen : Cell) → seen.placed ≡ placed_in objects c → (told : Told) (targets : List Target) → targets ≡ targets_of w seen → (firsts : List Entry) (values : List FieldValue)
      → firsts ≡ fields_of (object_at objects c.object) → values ≡ field_values (placed_in objects c) targets → (sections : List ObjectSection) → sections ≡ (object_at objects c.object).sections
      → (old new : List (List ℕ)) → old ≡ map (λ s. first_bytes told (start_among c.places s.number) s) sections
      → ((value : Entry → ℕ) (own : ObjectSection → List ℕ) → map (λ v. v.value) values ≡ map value firsts → old ≡ map own sections → new ≡ map (λ s. with_fields value firsts s (own s)) sections)
      → new ≡ map (λ s. with_fields (field_value_of (placed_in objects c) (bound_in (placed_in objects c) (targets_of w seen))) (fields_of (object_at objects c.object)) s (first_bytes told (start_among c.places s.number) s)) (object_at objects c.object).sections
  all_written w seen placed told targets t firsts values f v sections ss old new o written =
      written (field_value_of (placed_in objects c) (bound_in (placed_in objects c) targets)) (λ s. first_bytes told (start_among c.places s.number) s)
      (ap (map (λ (x : FieldValue). x.value)) v ∙ (map_map (λ (x : FieldValue). x.value) _ (fields_of (object_at objects c.object)) ∙ ap (map (field_value_of (placed_in objects c) (bound_in (placed_in objects c) targets))) (sym f))) o
      ∙ (ap (λ (ts : List Target). map (λ s. with_fields (field_value_of (placed_in objects c) (bound_in (placed_in objects c) ts)) firsts s (first_bytes told (start_among c.places s.number) s)) sections) t
      ∙ (ap (λ (fs : List Entry). map (λ s. with_fields (field_value_of (placed_in objects c) (bound_in (placed_in objects c) (targets_of w seen))) fs s (first_bytes told (start_among c.places s.number) s)) sections) f
      ∙ ap (map (λ s. with_fields (field_value_of (placed_in objects c) (bound_in (placed_in objects c) (targets_of w seen))) (fields_of (object_at objects c.object)) s (first_bytes told (start_among c.places s.number) s))) ss))
