-- Two fields of present cells are at one place of one cell, or have no byte in common.
use Rattle.std.proofs.Common.{◌≡◌, refl, sym, ◌∙◌, ap, subst, arith, ◌+◌, ◌≤◌, ◌⊎◌, inl, inr, Bool, true, false, not, ◌&&◌, ◌||◌, length, true≢false, Option, Some, None}
use Rattle.std.specs.Prelude.{nat_lt, nat_le, ◌==◌, option_map, unwrap_or}
use Rattle.std.proofs.lemmas.Bool.{and_parts, and_from, eqb-true, eq-eqb, leb-true, ltb-true}
use Rattle.cell_num.specs.Kinds.{width_of}
use Rattle.cell_object.specs.declared.object.Section.{Section as ObjectSection}
use Rattle.cell_object.specs.declared.object.Entry.{Entry}
use Rattle.cell_object.specs.Parts.{section_of}
use Rattle.cell_object.specs.Sound.{IsSoundObject, is_sound_entry_in, may_share}
use Rattle.cell_world.specs.World.{World, Cell, Region}
use Rattle.cell_world.specs.Linked.Target.{start_of}
use Rattle.cell_world.specs.Linked.Field.{place_of, is_at}
use Rattle.cell_world.specs.Linked.Relink.{class_start}
use Rattle.cell_world.specs.Placed.Layout.{sections_in, is_in_class, class_of, offset_in}
use Rattle.cell_world.specs.declared.layout.Class.{Class}
use Rattle.cell_world.specs.Coherent.{IsReady, ends_before}
use Rattle.cell_num.specs.Lists.{In}
use Rattle.cell_num.proofs.Elements.{found-In, filter-In, In-filtered, pairs-In}
use Rattle.cell_lemmas.proofs.Naming.Known.{object_sound}
use Rattle.cell_lemmas.proofs.Targeting.Targets.{entry_parts}
use Rattle.cell_lemmas.proofs.Fields.FieldsInside.{class_In, stands, section_class}
use Rattle.cell_lemmas.proofs.Placement.Distinct.{one_class}
use Rattle.cell_lemmas.proofs.Placement.Offsets.{Apart, IsUnique, two_offsets}

-- the section that the field of the entry is in
pub record Within (c : Cell) (e : Entry) : Type 0 where
  pub section : ObjectSection
  pub there : In section c.object.sections
  pub number : section.number ≡ e.section
  pub ends : e.offset + width_of e.kind ≤ section.size

pub within : (c : Cell) → IsSoundObject c.object → (e : Entry) → In e c.object.entries → Within c e
within c sound e m = go (section_of c.object e.section) refl (entry_parts c.object sound e m).0
  where
    fits : (s : ObjectSection) → is_sound_entry_in e s ≡ true → e.offset + width_of e.kind ≤ s.size
    fits s h = leb-true (e.offset + width_of e.kind) s.size (and_parts _ (nat_le (e.offset + width_of e.kind) s.size) (and_parts _ _ h).0).1

    go : (o : Option ObjectSection) → section_of c.object e.section ≡ o → unwrap_or (option_map (is_sound_entry_in e) o) false ≡ true → Within c e
    go None g h = absurd (true≢false (sym h))
    go (Some s) g h =
        let i : In s c.object.sections × ((s.number == e.section) ≡ true) = found-In (λ s. s.number == e.section) c.object.sections s g in
        record { section = s; there = i.0; number = eqb-true s.number e.section i.1; ends = fits s h }

-- section numbers rise, so none stands twice
pub unique : (c : Cell) → IsSoundObject c.object → (class : Class) (s : ObjectSection) → In s c.object.sections → IsUnique (sections_in class c.object) s
unique c sound class s m t i e = pick (pairs-In (λ a b. nat_lt a.number b.number) c.object.sections sound.numbers t s (In-filtered (is_in_class class) c.object.sections t i) m)
  where
    pick : (t ≡ s) ⊎ ((nat_lt t.number s.number ≡ true) ⊎ (nat_lt s.number t.number ≡ true)) → t ≡ s
    pick (inl x) = x
    pick (inr (inl x)) = absurd (omega (arith, ltb-true t.number s.number x, e))
    pick (inr (inr x)) = absurd (omega (arith, ltb-true s.number t.number x, e))

-- one of four tests holds
four_ways : {A : Type 0} (a b c d : Bool) → (a || b || c || d) ≡ true → (a ≡ true → A) → (b ≡ true → A) → (c ≡ true → A) → (d ≡ true → A) → A
four_ways true b c d h f g k l = f refl
four_ways false true c d h f g k l = g refl
four_ways false false true d h f g k l = k refl
four_ways false false false d h f g k l = l h

first_of_four : (a b c d : Bool) → (a && b && c && d) ≡ true → a ≡ true
first_of_four a b c d k = (and_parts a b (and_parts (a && b) c (and_parts (a && b && c) d k).0).0).0

-- the places of two entries in one section
shared : (e f : Entry) → e.section ≡ f.section → may_share e f ≡ true → (is_at f e ≡ true) ⊎ Apart e.offset (width_of e.kind) f.offset (width_of f.kind)
shared e f s h =
    four_ways (not (e.section == f.section)) (nat_le (e.offset + width_of e.kind) f.offset) (nat_le (f.offset + width_of f.kind) e.offset) _ h
    (λ n. absurd (other (e.section == f.section) refl n))
    (λ l. inr (inl (leb-true (e.offset + width_of e.kind) f.offset l)))
    (λ l. inr (inr (leb-true (f.offset + width_of f.kind) e.offset l)))
    (λ k. inl (and_from (e.section == f.section) (e.offset == f.offset) (eq-eqb e.section f.section s) (first_of_four (e.offset == f.offset) _ _ _ k)))
  where
    other : (b : Bool) → (e.section == f.section) ≡ b → not b ≡ true → ⊥
    other true k n = true≢false (sym n)
    other false k n = true≢false (sym (eq-eqb e.section f.section s) ∙ k)

abbrev pub AreSectionsApart : Cell → Cell → ObjectSection → ObjectSection → Type 0
AreSectionsApart c d s t = ((c ≡ d) × (s.number ≡ t.number)) ⊎ Apart (start_of c.placed s.number) s.size (start_of d.placed t.number) t.size

-- the second is at the place of the first, in the same cell
abbrev pub AreFieldsApart : Cell → Cell → Entry → Entry → Type 0
AreFieldsApart c d e f = ((c ≡ d) × (is_at f e ≡ true)) ⊎ Apart (place_of c.placed e) (width_of e.kind) (place_of d.placed f) (width_of f.kind)

module _ (w : World) (ready : IsReady w) where
  -- sections of two cells, or two of one, don't meet
  pub sections_apart : (c d : Cell) → In c w.cells → In d w.cells → (s t : ObjectSection) → In s c.object.sections → In t d.object.sections
      → AreSectionsApart c d s t
  sections_apart c d i j s t m n =
      let p = section_class w ready.regions ready.apart ready.placed ready.objects c i s m in
      let q = section_class w ready.regions ready.apart ready.placed ready.objects d j t n in
      go p.0 q.0 p.2 p.3 q.2 q.3 p.4 q.4 (pairs-In ends_before w.regions ready.apart p.0 q.0 p.1 q.1)
    where
      numbered : (c ≡ d) → (class_of s ≡ class_of t) → (b : Bool) → (s.number == t.number) ≡ b → AreSectionsApart c d s t
      numbered e k true h = inl (e, eqb-true s.number t.number h)
      numbered e k false h = inr (subst (λ (x : Cell). Apart (start_of c.placed s.number) s.size (start_of x.placed t.number) t.size) e
          (by_offsets (subst (λ (x : Cell). In t x.object.sections) (sym e) n)))
        where
          by_offsets : In t c.object.sections → Apart (start_of c.placed s.number) s.size (start_of c.placed t.number) t.size
          by_offsets n = far (two_offsets (sections_in (class_of s) c.object) 0 s t here there (unique c sound (class_of s) s m) (unique c sound (class_of s) t n)
              (λ x. true≢false (sym (eq-eqb s.number t.number x) ∙ h)))
            where
              sound : IsSoundObject c.object
              sound = object_sound w ready.objects c i

              here : In s (sections_in (class_of s) c.object)
              here = filter-In (is_in_class (class_of s)) c.object.sections s m (class_In s)

              there : In t (sections_in (class_of s) c.object)
              there = filter-In (is_in_class (class_of s)) c.object.sections t n (subst (λ (x : Class). is_in_class x t ≡ true) (sym k) (class_In t))

              at_s : start_of c.placed s.number ≡ unwrap_or (class_start c (class_of s)) 0 + offset_in (sections_in (class_of s) c.object) s.number
              at_s = stands w ready.regions ready.apart ready.placed ready.objects c i (class_of s) s here

              at_t : start_of c.placed t.number ≡ unwrap_or (class_start c (class_of s)) 0 + offset_in (sections_in (class_of s) c.object) t.number
              at_t = stands w ready.regions ready.apart ready.placed ready.objects c i (class_of s) t there

              far : Apart (offset_in (sections_in (class_of s) c.object) s.number) s.size (offset_in (sections_in (class_of s) c.object) t.number) t.size → Apart (start_of c.placed s.number) s.size (start_of c.placed t.number) t.size
              far (inl l) = inl (omega (arith, at_s, at_t, l))
              far (inr l) = inr (omega (arith, at_s, at_t, l))

      go : (p q : Region) → p.start ≤ start_of c.placed s.number → start_of c.placed s.number + s.size ≤ p.start + length p.bytes → q.start ≤ start_of d.placed t.number → start_of d.placed t.number + t.size ≤ q.start + length q.bytes
          → class_start c (class_of s) ≡ Some p.start → class_start d (class_of t) ≡ Some q.start → (p ≡ q) ⊎ ((ends_before p q ≡ true) ⊎ (ends_before q p ≡ true)) → AreSectionsApart c d s t
      go p q a b x y k l (inl e) =
          let o = one_class w ready.regions ready.in_space ready.apart c d i j (class_of s) (class_of t) p.start k (l ∙ ap (λ (r : Region). Some r.start) (sym e)) in
          numbered o.0 o.1 (s.number == t.number) refl
      go p q a b x y k l (inr (inl e)) = inr (inl (omega (arith, a, b, x, y, leb-true (p.start + length p.bytes) q.start e)))
      go p q a b x y k l (inr (inr e)) = inr (inr (omega (arith, a, b, x, y, leb-true (q.start + length q.bytes) p.start e)))

  pub fields_apart : (c d : Cell) → In c w.cells → In d w.cells → (e f : Entry) → In e c.object.entries → In f d.object.entries
      → AreFieldsApart c d e f
  fields_apart c d i j e f m n = go (sections_apart c d i j x.section y.section x.there y.there)
    where
      x : Within c e
      x = within c (object_sound w ready.objects c i) e m

      y : Within d f
      y = within d (object_sound w ready.objects d j) f n

      at_x : start_of c.placed x.section.number ≡ start_of c.placed e.section
      at_x = ap (start_of c.placed) x.number

      at_y : start_of d.placed y.section.number ≡ start_of d.placed f.section
      at_y = ap (start_of d.placed) y.number

      in_one : (c ≡ d) → e.section ≡ f.section → (is_at f e ≡ true) ⊎ Apart e.offset (width_of e.kind) f.offset (width_of f.kind) → AreFieldsApart c d e f
      in_one k s (inl h) = inl (k, h)
      in_one k s (inr l) = inr (turn l)
        where
          same : start_of c.placed e.section ≡ start_of d.placed f.section
          same = ap (λ (q : Cell). start_of q.placed e.section) k ∙ ap (start_of d.placed) s

          turn : Apart e.offset (width_of e.kind) f.offset (width_of f.kind) → Apart (place_of c.placed e) (width_of e.kind) (place_of d.placed f) (width_of f.kind)
          turn (inl z) = inl (omega (arith, same, z))
          turn (inr z) = inr (omega (arith, same, z))

      turned : (is_at e f ≡ true) ⊎ Apart f.offset (width_of f.kind) e.offset (width_of e.kind) → e.section ≡ f.section → (is_at f e ≡ true) ⊎ Apart e.offset (width_of e.kind) f.offset (width_of f.kind)
      turned (inr (inl z)) s = inr (inr z)
      turned (inr (inr z)) s = inr (inl z)
      turned (inl h) s = inl (and_from (e.section == f.section) (e.offset == f.offset) (eq-eqb e.section f.section s) (eq-eqb e.offset f.offset (sym (eqb-true f.offset e.offset (and_parts (f.section == e.section) (f.offset == e.offset) h).1))))

      entries : (c ≡ d) → e.section ≡ f.section → (e ≡ f) ⊎ ((may_share e f ≡ true) ⊎ (may_share f e ≡ true)) → (is_at f e ≡ true) ⊎ Apart e.offset (width_of e.kind) f.offset (width_of f.kind)
      entries k s (inl h) = inl (and_from (e.section == f.section) (e.offset == f.offset) (eq-eqb e.section f.section s) (eq-eqb e.offset f.offset (ap (λ (z : Entry). z.offset) h)))
      entries k s (inr (inl h)) = shared e f s h
      entries k s (inr (inr h)) = turned (shared f e (sym s) h) s

      go : ((c ≡ d) × (x.section.number ≡ y.section.number)) ⊎ Apart (start_of c.placed x.section.number) x.section.size (start_of d.placed y.section.number) y.section.size → AreFieldsApart c d e f
      go (inl k) =
          let s : e.section ≡ f.section = sym x.number ∙ (k.1 ∙ y.number) in
          in_one k.0 s (entries k.0 s (pairs-In may_share c.object.entries (object_sound w ready.objects c i).apart e f m (subst (λ (z : Cell). In f z.object.entries) (sym k.0) n)))
      go (inr (inl l)) = inr (inl (omega (arith, l, at_x, at_y, x.ends, y.ends)))
      go (inr (inr l)) = inr (inr (omega (arith, l, at_x, at_y, x.ends, y.ends)))
