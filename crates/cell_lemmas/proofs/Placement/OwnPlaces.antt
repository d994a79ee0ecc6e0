-- A cell whose sections have their places by the starts of its classes stands by the rule of places.
use Rattle.std.proofs.Common.{◌≡◌, refl, sym, ◌∙◌, ap, subst, arith, ℕ, zero, suc, ◌+◌, ◌-◌, ◌⊎◌, inl, inr, Bool, true, false, cond, not, ◌&&◌, List, [], ◌∷◌, map, length, true≢false, Option, Some, None}
use Rattle.std.specs.Prelude.{◌%◌, ◌==◌, max, find, option_map, unwrap_or, nat_lt}
use Rattle.std.proofs.Math.Nat.{mod_self}
use Rattle.std.proofs.lemmas.Bool.{and_from, eqb-true, eq-eqb, ltb-true}
use Rattle.std.proofs.lemmas.Slice.Eq.{bytes_eq-Decides}
use Rattle.cell_num.specs.Lists.{first, In}
use Rattle.cell_object.specs.declared.object.Object.{Object}
use Rattle.cell_object.specs.declared.object.Section.{Section as ObjectSection}
use Rattle.cell_object.specs.Sound.{IsSoundObject}
use Rattle.cell_world.specs.declared.state.SecPlace.{SecPlace}
use Rattle.cell_world.specs.World.{Cell}
use Rattle.cell_world.specs.Linked.Target.{start_of}
use Rattle.cell_world.specs.Linked.Relink.{class_start}
use Rattle.cell_world.specs.Placed.Layout.{is_in_class, sections_in, image_of, permission_of, gap, class_of, start_in, place_in, places_in, offset_from, offset_in}
use Rattle.cell_world.specs.declared.layout.Starts.{Starts}
use Rattle.cell_world.specs.declared.layout.Class.TheVariants.{Text, ReadOnly, Writable}
use Rattle.cell_world.specs.declared.layout.Class.{Class}
use Rattle.cell_world.specs.Coherent.{Shape, class_shape, stands_by_rule, is_placed}
use Rattle.cell_num.proofs.Elements.{In-all, In-filtered, filter-Passes, pairs-In}
use Rattle.cell_lemmas.proofs.Fields.Relinked.{map_twice}
use Rattle.cell_lemmas.proofs.Fields.FieldsInside.{classes}

-- nothing is missing at the beginning
gap_zero : (align : ℕ) → gap 0 align ≡ 0
gap_zero zero = refl
gap_zero (suc n) =
    let m : max 1 (suc n) ≡ suc n = omega arith in
    let z : 0 % suc n ≡ 0 = omega arith in
    let d : suc n - 0 ≡ suc n = omega arith in
    ap (λ (x : ℕ). (suc n - 0 % x) % x) m ∙ (ap (λ (x : ℕ). (suc n - x) % suc n) z ∙ (ap (λ (x : ℕ). x % suc n) d ∙ mod_self (suc n)))

first_offset : (s : ObjectSection) (rest : List ObjectSection) → offset_in (s ∷ rest) s.number ≡ 0
first_offset s rest =
    ap (λ b. cond b (0 + gap 0 s.align) (offset_from (0 + gap 0 s.align + s.size) rest s.number)) (eq-eqb s.number s.number refl)
    ∙ (ap (λ (n : ℕ). 0 + n) (gap_zero s.align) ∙ refl)

class_one : (class : Class) (s : ObjectSection) → is_in_class class s ≡ true → class_of s ≡ class
class_one Text s h = ap (λ b. cond b Text (cond s.write Writable ReadOnly)) h
class_one ReadOnly s h = go s.exec s.write h
  where
    go : (e v : Bool) → (not e && not v) ≡ true → cond e Text (cond v Writable ReadOnly) ≡ ReadOnly
    go true v p = absurd (true≢false (sym p))
    go false true p = absurd (true≢false (sym p))
    go false false p = refl
class_one Writable s h = go s.exec s.write h
  where
    go : (e v : Bool) → (v && not e) ≡ true → cond e Text (cond v Writable ReadOnly) ≡ Writable
    go true true p = absurd (true≢false (sym p))
    go true false p = absurd (true≢false (sym p))
    go false true p = refl
    go false false p = absurd (true≢false (sym p))

-- the place of a section is found by its number
place_found : (starts : Starts) (object : Object) (sections : List ObjectSection) (s : ObjectSection) → In s sections → ((t : ObjectSection) → In t sections → t.number ≡ s.number → t ≡ s)
    → find (λ (p : SecPlace). p.section == s.number) (map (place_in starts object) sections) ≡ Some (place_in starts object s)
place_found starts object [] s k u = absurd k
place_found starts object (t ∷ sections) s k u = go (t.number == s.number) refl (λ m. place_found starts object sections s m (λ v i. u v (inr i)))
  where
    later : (t.number == s.number) ≡ false → (s ≡ t) ⊎ In s sections → In s sections
    later e (inl i) = absurd (true≢false (sym (eq-eqb t.number s.number (ap (λ (x : ObjectSection). x.number) (sym i))) ∙ e))
    later e (inr i) = i

    go : (b : Bool) → (t.number == s.number) ≡ b → (In s sections → find (λ (p : SecPlace). p.section == s.number) (map (place_in starts object) sections) ≡ Some (place_in starts object s))
        → cond b (Some (place_in starts object t)) (find (λ (p : SecPlace). p.section == s.number) (map (place_in starts object) sections)) ≡ Some (place_in starts object s)
    go true e f = ap (λ (x : ObjectSection). Some (place_in starts object x)) (u t (inl refl) (eqb-true t.number s.number e))
    go false e f = f (later e k)

-- the shape of a class that has sections, where it starts there
abbrev pub shape_at : Class → ℕ → List ObjectSection → List Shape
shape_at class start [] = []
shape_at class start (s ∷ rest) = record { start = start; permission = permission_of class; size = length (image_of (s ∷ rest)) } ∷ []

module _ (c : Cell) (starts : Starts) (sound : IsSoundObject c.object) (by : c.places ≡ places_in starts c.object) where
  unique : (s : ObjectSection) → In s c.object.sections → (t : ObjectSection) → In t c.object.sections → t.number ≡ s.number → t ≡ s
  unique s m t i e = pick (pairs-In (λ (a : ObjectSection) (b : ObjectSection). nat_lt a.number b.number) c.object.sections sound.numbers t s i m)
    where
      pick : (t ≡ s) ⊎ ((nat_lt t.number s.number ≡ true) ⊎ (nat_lt s.number t.number ≡ true)) → t ≡ s
      pick (inl x) = x
      pick (inr (inl x)) = absurd (omega (arith, ltb-true t.number s.number x, e))
      pick (inr (inr x)) = absurd (omega (arith, ltb-true s.number t.number x, e))

  start_is : (s : ObjectSection) → In s c.object.sections → start_of c.placed s.number ≡ start_in starts (class_of s) + offset_in (sections_in (class_of s) c.object) s.number
  start_is s m =
      ap (λ (ps : List SecPlace). unwrap_or (option_map (λ (p : SecPlace). p.start) (find (λ (p : SecPlace). p.section == s.number) ps)) 0) by
      ∙ ap (λ (o : Option SecPlace). unwrap_or (option_map (λ (p : SecPlace). p.start) o) 0) (place_found starts c.object c.object.sections s m (unique s m))

  start_of_class : (class : Class) (s : ObjectSection) → In s (sections_in class c.object) → start_of c.placed s.number ≡ start_in starts class + offset_in (sections_in class c.object) s.number
  start_of_class class s m =
      start_is s (In-filtered (is_in_class class) c.object.sections s m)
      ∙ ap (λ (k : Class). start_in starts k + offset_in (sections_in k c.object) s.number) (class_one class s (filter-Passes (is_in_class class) c.object.sections s m))

  first_start : (class : Class) (s : ObjectSection) (rest : List ObjectSection) → sections_in class c.object ≡ s ∷ rest → start_of c.placed s.number ≡ start_in starts class
  first_start class s rest e =
      start_of_class class s (subst (λ (xs : List ObjectSection). In s xs) (sym e) (inl refl))
      ∙ (ap (λ (xs : List ObjectSection). start_in starts class + offset_in xs s.number) e
      ∙ (ap (λ (n : ℕ). start_in starts class + n) (first_offset s rest) ∙ omega arith))

  -- a class with a section starts where it was put
  pub class_starts : (class : Class) (s : ObjectSection) → In s (sections_in class c.object) → class_start c class ≡ Some (start_in starts class)
  class_starts class s m = go (sections_in class c.object) refl m
    where
      go : (ss : List ObjectSection) → sections_in class c.object ≡ ss → In s ss → option_map (λ (x : ObjectSection). start_of c.placed x.number) (first ss) ≡ Some (start_in starts class)
      go [] e k = absurd k
      go (t ∷ rest) e k = ap (λ (n : ℕ). Some n) (first_start class t rest e)

  pub shape_is : (class : Class) → class_shape c class ≡ shape_at class (start_in starts class) (sections_in class c.object)
  shape_is class = go (sections_in class c.object) refl
    where
      go : (ss : List ObjectSection) → sections_in class c.object ≡ ss
          → elim (option_map (λ (x : ObjectSection). start_of c.placed x.number) (first ss)) as (λ _. List Shape) [
            | None ↦ []
            | Some start ↦ record { start = start; permission = permission_of class; size = length (image_of (sections_in class c.object)) } ∷ []
          ] ≡ shape_at class (start_in starts class) ss
      go [] e = refl
      go (t ∷ rest) e =
          ap (λ (n : ℕ). record { start = n; permission = permission_of class; size = length (image_of (sections_in class c.object)) } ∷ []) (first_start class t rest e)
          ∙ ap (λ (xs : List ObjectSection). record { start = start_in starts class; permission = permission_of class; size = length (image_of xs) } ∷ []) e

  by_rule : (class : Class) → stands_by_rule c class ≡ true
  by_rule class = In-all _ (sections_in class c.object) (λ s m. eq-eqb _ _ (start_of_class class s m
      ∙ ap (λ (o : Option ℕ). unwrap_or o 0 + offset_in (sections_in class c.object) s.number) (sym (class_starts class s m))))

  pub placed_by_rule : is_placed c ≡ true
  placed_by_rule = and_from _ _
      ((bytes_eq-Decides (map (λ p. p.section) c.places) (map (λ s. s.number) c.object.sections)).1
      (ap (λ (ps : List SecPlace). map (λ p. p.section) ps) by ∙ map_twice (λ (p : SecPlace). p.section) (place_in starts c.object) c.object.sections))
      (In-all (stands_by_rule c) classes (λ class k. by_rule class))
