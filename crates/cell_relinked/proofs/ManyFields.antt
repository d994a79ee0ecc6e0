-- Fields that are written into what sections hold, one more.
use Rattle.std.proofs.Common.{◌≡◌, refl, sym, ◌∙◌, ap, ℕ, ◌+◌, Bool, true, false, cond, List, [], ◌∷◌, ◌++◌, map, take}
use Rattle.std.specs.Prelude.{Some, filter, fold, option_map, slice_get, ◌==◌}
use Rattle.std.proofs.lemmas.List.{take_more}
use Rattle.std.proofs.lemmas.List.Elements.{filter-append}
use Rattle.std.proofs.lemmas.List.Sums.{fold-append}
use Rattle.std.proofs.lemmas.Option.{get_or_from_slice_get, slice_get-map}
use Rattle.cell_link.specs.declared.value.FieldValue.{FieldValue}
use Rattle.cell_num.specs.Bits.{bytes_of}
use Rattle.cell_num.specs.Kinds.{width_of}
use Rattle.cell_num.proofs.Elements.{map_same}
use Rattle.cell_object.specs.declared.object.Entry.{Entry}
use Rattle.cell_object.specs.declared.object.Section.{Section as ObjectSection}
use Rattle.cell_world.specs.Running.Memory.{pasted}
use Rattle.cell_relinked.specs.Contents.{with_field, with_fields, written_in}
use Rattle.cell_relinked.proofs.OneField.{below}

module _ (value : Entry → ℕ) where
  one_field : (fields : List Entry) (f : Entry) (s : ObjectSection) (own : List ℕ)
      → with_fields value (fields ++ f ∷ []) s own ≡ cond (f.section == s.number) (with_field value (with_fields value fields s own) f) (with_fields value fields s own)
  one_field fields f s own =
      ap (fold (with_field value) own) (filter-append (λ (g : Entry). g.section == s.number) fields (f ∷ []))
      ∙ (fold-append (with_field value) own (filter (λ (g : Entry). g.section == s.number) fields) (filter (λ (g : Entry). g.section == s.number) (f ∷ []))
      ∙ go (f.section == s.number))
    where
      go : (b : Bool) → fold (with_field value) (with_fields value fields s own) (cond b (f ∷ []) []) ≡ cond b (with_field value (with_fields value fields s own) f) (with_fields value fields s own)
      go true = refl
      go false = refl

  value_there : (values : List FieldValue) (fields : List Entry) (i : ℕ) (v : FieldValue) (f : Entry) → map (λ v. v.value) values ≡ map value fields → slice_get values i ≡ Some v → slice_get fields i ≡ Some f → v.value ≡ value f
  value_there values fields i v f same e h =
      some_same (sym (slice_get-map (λ (v : FieldValue). v.value) values i ∙ ap (option_map (λ (v : FieldValue). v.value)) e)
      ∙ (ap (λ (ns : List ℕ). slice_get ns i) same ∙ (slice_get-map value fields i ∙ ap (option_map value) h)))
    where
      some_same : Some v.value ≡ Some (value f) → v.value ≡ value f
      some_same k = cc

  module _ (values : List FieldValue) (fields : List Entry) (i : ℕ) (f : Entry) (v : FieldValue) (at : slice_get fields i ≡ Some f) (there : slice_get values i ≡ Some v) (same : map (λ v. v.value) values ≡ map value fields) where
    next : take (i + 1) fields ≡ take i fields ++ f ∷ []
    next = take_more fields i f (below fields i f at) ∙ ap (λ (x : Entry). take i fields ++ x ∷ []) (get_or_from_slice_get fields i f f at)

    -- one more field is written
    pub fields_more : (sections : List ObjectSection) (own : ObjectSection → List ℕ) (old new : List (List ℕ)) → old ≡ map (λ s. with_fields value (take i fields) s (own s)) sections
        → ((o : ObjectSection → List ℕ) → old ≡ map o sections → new ≡ map (written_in f.section f.offset (bytes_of (width_of f.kind) v.value) o) sections)
        → new ≡ map (λ s. with_fields value (take (i + 1) fields) s (own s)) sections
    fields_more sections own old new far w =
        w so_far far ∙ map_same (written_in f.section f.offset (bytes_of (width_of f.kind) v.value) so_far) (λ s. with_fields value (take (i + 1) fields) s (own s)) sections (λ s m. step s)
      where
        so_far : ObjectSection → List ℕ
        so_far s = with_fields value (take i fields) s (own s)

        step : (s : ObjectSection) → written_in f.section f.offset (bytes_of (width_of f.kind) v.value) (λ s. with_fields value (take i fields) s (own s)) s ≡ with_fields value (take (i + 1) fields) s (own s)
        step s =
            ap (λ (n : ℕ). cond (f.section == s.number) (pasted (with_fields value (take i fields) s (own s)) f.offset (bytes_of (width_of f.kind) n)) (with_fields value (take i fields) s (own s))) (value_there values fields i v f same there at)
            ∙ (sym (one_field (take i fields) f s (own s)) ∙ ap (λ (fs : List Entry). with_fields value fs s (own s)) (sym next))
