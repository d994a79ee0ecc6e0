-- A field that is written into what sections hold.
use Rattle.std.proofs.Common.{◌≡◌, sym, ◌∙◌, ap, ap₂, arith, ℕ, zero, suc, ◌+◌, ◌<◌, ◌≤◌, Bool, true, false, cond, List, [], ◌∷◌, length, get_or, map}
use Rattle.std.specs.Prelude.{Some, None, option_map, find, slice_get, slice_set, nat_lt, ◌==◌}
use Rattle.std.specs.List.{list_all}
use Rattle.std.proofs.lemmas.Bool.{and_parts, eq-eqb, ltb-true, ne_eqb}
use Rattle.std.proofs.lemmas.List.{length-map, map-set, set-get_or}
use Rattle.std.proofs.lemmas.Option.{get_or_from_slice_get, slice_get-map}
use Rattle.cell_num.specs.Bits.{bytes_of}
use Rattle.cell_num.specs.Lists.{In, each_pair}
use Rattle.cell_num.proofs.Elements.{all-In, get-In, map_same, unfound-In}
use Rattle.cell_lemmas.proofs.Fields.FieldsInside.{length-bytes_of}
use Rattle.cell_lemmas.proofs.Fields.Patches.{length-pasted}
use Rattle.cell_object.specs.declared.object.Section.{Section as ObjectSection}
use Rattle.cell_world.specs.Running.Memory.{pasted}
use Rattle.cell_relinked.specs.Contents.{written_in}

abbrev pub rises : ObjectSection → ObjectSection → Bool
rises a b = nat_lt a.number b.number

pub below : {X : Type 0} (xs : List X) (i : ℕ) (x : X) → slice_get xs i ≡ Some x → i < length xs
below [] i x e = absurd cc
below (y ∷ ys) zero x e = omega arith
below (y ∷ ys) (suc i) x e = let k = below ys i x e in omega (arith, k)

-- ---- sizes
abbrev pub sizes_of : List (List ℕ) → List ℕ
sizes_of contents = map (λ bytes. length bytes) contents

abbrev pub section_sizes : List ObjectSection → List ℕ
section_sizes sections = map (λ s. s.size) sections

module _ (contents : List (List ℕ)) (sections : List ObjectSection) (sizes : sizes_of contents ≡ section_sizes sections) where
  as_many : length contents ≡ length sections
  as_many = sym (length-map contents (λ bytes. length bytes)) ∙ (ap length sizes ∙ length-map sections (λ s. s.size))

  module _ (place : ℕ) (x : ObjectSection) (there : slice_get sections place ≡ Some x) where
    pub place_below : place < length contents
    place_below = let k = below sections place x there in omega (arith, k, as_many)

    pub size_there : (bytes : List ℕ) → slice_get contents place ≡ Some bytes → length bytes ≡ x.size
    size_there bytes e = some_same (sym (slice_get-map (λ (bs : List ℕ). length bs) contents place ∙ ap (option_map (λ (bs : List ℕ). length bs)) e)
        ∙ (ap (λ (ns : List ℕ). slice_get ns place) sizes ∙ (slice_get-map (λ (s : ObjectSection). s.size) sections place ∙ ap (option_map (λ (s : ObjectSection). s.size)) there)))
      where
        some_same : Some (length bytes) ≡ Some x.size → length bytes ≡ x.size
        some_same h = cc

-- bytes of the same number come in place of others
pub sizes_kept : (contents : List (List ℕ)) (place : ℕ) (old new : List ℕ) → slice_get contents place ≡ Some old → length new ≡ length old → sizes_of (slice_set contents place new) ≡ sizes_of contents
sizes_kept contents place old new e same =
    map-set (λ (bs : List ℕ). length bs) contents place new
    ∙ (ap (slice_set (sizes_of contents) place) (same ∙ sym at) ∙ set-get_or (sizes_of contents) place 0)
  where
    at : get_or (sizes_of contents) place 0 ≡ length old
    at = get_or_from_slice_get (sizes_of contents) place (length old) 0 (slice_get-map (λ (bs : List ℕ). length bs) contents place ∙ ap (option_map (λ (bs : List ℕ). length bs)) e)

pub pasted_size : (old : List ℕ) (offset width value : ℕ) → offset + width ≤ length old → length (pasted old offset (bytes_of width value)) ≡ length old
pasted_size old offset width value le = let n = length-bytes_of width value in length-pasted old (bytes_of width value) offset (omega (arith, le, n))

-- ---- bytes
module _ (number offset : ℕ) (bytes : List ℕ) (own : ObjectSection → List ℕ) where
  abbrev new : ObjectSection → List ℕ
  new = written_in number offset bytes own

  -- sections of other numbers hold what they did
  others : (sections : List ObjectSection) → ((s : ObjectSection) → In s sections → number ≡ s.number → ⊥) → map own sections ≡ map new sections
  others sections f = map_same own new sections (λ s i. sym (ap (λ (b : Bool). cond b (pasted (own s) offset bytes) (own s)) (ne_eqb number s.number (f s i))))

  pub none_there : (sections : List ObjectSection) → find (λ s. s.number == number) sections ≡ None → map own sections ≡ map new sections
  none_there sections e = others sections (λ s i same. differs (s.number == number) (unfound-In (λ (s : ObjectSection). s.number == number) sections e s i) (eq-eqb s.number number (sym same)))
    where
      differs : (b : Bool) → b ≡ false → b ≡ true → ⊥
      differs b f t = let h : false ≡ true = sym f ∙ t in absurd (cc h)

  here : (s : ObjectSection) (sections : List ObjectSection) → list_all (rises s) sections ≡ true → s.number ≡ number → pasted (own s) offset bytes ∷ map own sections ≡ map new (s ∷ sections)
  here s sections above n =
      ap₂ (λ (x : List ℕ) (xs : List (List ℕ)). x ∷ xs) (sym (ap (λ (b : Bool). cond b (pasted (own s) offset bytes) (own s)) (eq-eqb number s.number (sym n))))
      (others sections (λ t i same. let lt = ltb-true s.number t.number (all-In (rises s) sections above t i) in absurd (omega (arith, lt, n, same))))

  -- the one of that number holds more, and no other
  pub set_one : (sections : List ObjectSection) (place : ℕ) (x : ObjectSection) → each_pair rises sections ≡ true → slice_get sections place ≡ Some x → x.number ≡ number
      → slice_set (map own sections) place (pasted (own x) offset bytes) ≡ map new sections
  set_one [] place x r e n = absurd cc
  set_one (s ∷ sections) zero x r e n =
      let same : s ≡ x = cc in
      let parts = and_parts (list_all (rises s) sections) (each_pair rises sections) r in
      ap (λ (y : ObjectSection). pasted (own y) offset bytes ∷ map own sections) (sym same)
      ∙ here s sections parts.0 (ap (λ (y : ObjectSection). y.number) same ∙ n)
  set_one (s ∷ sections) (suc place) x r e n =
      let parts = and_parts (list_all (rises s) sections) (each_pair rises sections) r in
      let lt = ltb-true s.number x.number (all-In (rises s) sections parts.0 x (get-In sections place x e)) in
      ap₂ (λ (y : List ℕ) (ys : List (List ℕ)). y ∷ ys)
      (sym (ap (λ (b : Bool). cond b (pasted (own s) offset bytes) (own s)) (ne_eqb number s.number (λ same. absurd (omega (arith, lt, n, same))))))
      (set_one sections place x parts.1 e n)

  pub set_in : (contents : List (List ℕ)) (sections : List ObjectSection) (place : ℕ) (x : ObjectSection) (old : List ℕ) → each_pair rises sections ≡ true → slice_get sections place ≡ Some x → x.number ≡ number
      → slice_get contents place ≡ Some old → contents ≡ map own sections → slice_set contents place (pasted old offset bytes) ≡ map new sections
  set_in contents sections place x old r e n h are =
      ap (λ (cs : List (List ℕ)). slice_set cs place (pasted old offset bytes)) are
      ∙ (ap (λ (y : List ℕ). slice_set (map own sections) place (pasted y offset bytes)) same ∙ set_one sections place x r e n)
    where
      same : old ≡ own x
      same = some_same (sym h ∙ (ap (λ (cs : List (List ℕ)). slice_get cs place) are ∙ (slice_get-map own sections place ∙ ap (option_map own) e)))
        where
          some_same : Some old ≡ Some (own x) → old ≡ own x
          some_same k = cc
