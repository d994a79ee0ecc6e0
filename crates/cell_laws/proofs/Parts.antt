-- What a coherent machine has in n bytes of a region, of which each field has all of its own or none.
use Rattle.std.proofs.Common.{◌≡◌, refl, sym, ◌∙◌, ap, subst, arith, ℕ, ◌+◌, ◌-◌, ◌≤◌, ◌<◌, ◌⊎◌, inl, inr, Bool, true, false, List, [], ◌∷◌, ◌++◌, map, length, true≢false, Option, Some, None}
use Rattle.std.specs.Prelude.{filter, flat_map, fold, nat_le, nat_lt, option_and_then, slice_range, ◌==◌}
use Rattle.std.specs.List.{list_all}
use Rattle.std.proofs.lemmas.Bool.{and_parts, and_from, eq-eqb, leb-true, ltb-true, le-leb, lt-ltb}
use Rattle.std.proofs.lemmas.List.{append-nil}
use Rattle.cell_num.specs.Kinds.{width_of}
use Rattle.cell_num.specs.Lists.{each_pair, where_true, In}
use Rattle.cell_object.specs.declared.object.Entry.{Entry}
use Rattle.cell_world.specs.World.{World, Cell, Region}
use Rattle.cell_world.specs.Coherent.{IsCoherent}
use Rattle.cell_world.specs.Linked.Field.{fields_of, place_of}
use Rattle.cell_world.specs.Placed.Layout.{sections_in, image_of, permission_of}
use Rattle.cell_world.specs.declared.layout.Class.{Class}
use Rattle.cell_world.specs.declared.layout.Class.TheVariants.{Text, ReadOnly, Writable}
use Rattle.cell_world.specs.Running.Memory.{covers, pasted, part_of, read, region_at}
use Rattle.cell_world.specs.Linked.Relink.{Patch, patch_of, patches_of, bound_entries, class_start, is_region_of, images_for, restored}
use Rattle.cell_num.proofs.Elements.{all-In, In-left, In-right, In-append, In-map, In-flat_map, In-filtered, filter-In, filter_none, filter-Passes, find_there, found-In, first-In, first_has, map-In}
use Rattle.cell_lemmas.proofs.Placement.Distinct.{one_class}
use Rattle.cell_lemmas.proofs.Fields.FieldsInside.{fields_end_in, length-bytes_of}
use Rattle.cell_lemmas.proofs.Placement.ImagesInside.{images_fit}
use Rattle.cell_lemmas.proofs.Placement.Inside.{wide}
use Rattle.cell_lemmas.proofs.Placement.Regions.{starts_at}
use Rattle.cell_lemmas.proofs.Fields.Patches.{HasShape}
use Rattle.cell_lemmas.proofs.Fields.Relinked.{patches, own_image, restore, restored_is}
use Rattle.cell_lemmas.proofs.Placement.Bare.{covers_once}
use Rattle.cell_lemmas.proofs.Fields.Fixed.{remade_fixed}
use Rattle.cell_num.proofs.Sublists.{map_filter}
use Rattle.cell_lemmas.proofs.Fields.Pastes.{over}
use Rattle.cell_lemmas.proofs.Fields.Slices.{slice}
use Rattle.cell_lemmas.proofs.Placement.Offsets.{Apart}
use Rattle.cell_lemmas.proofs.Fields.Regrown.{filter_flat}
use Rattle.cell_laws.proofs.Windows.{window, begins_in, IsIn, IsOut, pasted_here, window_by}

-- where all other elements give nothing, only the one's list is left
pub one_left : {X Y : Type 0} (f : X → List Y) (t : X → X → Bool) (xs : List X) (x : X) → each_pair t xs ≡ true → In x xs → ((y : X) → In y xs → (t x y ≡ true) ⊎ (t y x ≡ true) → f y ≡ []) → flat_map f xs ≡ f x
one_left f t [] x h i none = absurd i
one_left {X = X} f t (y ∷ ys) x h i none =
    go i (λ j. one_left f t ys x (and_parts (list_all (t y) ys) (each_pair t ys) h).1 j (λ z k. none z (inr k)))
  where
    p : (list_all (t y) ys ≡ true) × (each_pair t ys ≡ true)
    p = and_parts (list_all (t y) ys) (each_pair t ys) h

    nothing : (zs : List X) → ((z : X) → In z zs → f z ≡ []) → flat_map f zs ≡ []
    nothing [] n = refl
    nothing (z ∷ zs) n = ap (λ l. l ++ flat_map f zs) (n z (inl refl)) ∙ nothing zs (λ v j. n v (inr j))

    later : In x ys → flat_map f ys ≡ f x → f y ++ flat_map f ys ≡ f x
    later j e = ap (λ l. l ++ flat_map f ys) (none y (inl refl) (inr (all-In (t y) ys p.0 x j))) ∙ e

    go : (x ≡ y) ⊎ In x ys → (In x ys → flat_map f ys ≡ f x) → f y ++ flat_map f ys ≡ f x
    go (inl e) rest =
        ap (λ l. f y ++ l) (nothing ys (λ z k. none z (inr k) (inl (subst (λ v. t v z ≡ true) (sym e) (all-In (t y) ys p.0 z k)))))
        ∙ (append-nil (f y) ∙ ap f (sym e))
    go (inr j) rest = later j (rest j)

pub paste_whole : (bytes new : List ℕ) → length bytes ≡ length new → pasted bytes 0 new ≡ new
paste_whole bytes new h = ap (λ b. pasted b 0 new) (sym (append-nil bytes)) ∙ (over [] bytes [] new h ∙ append-nil new)

abbrev pub patch : World → Cell → Entry → Patch
patch w c f = patch_of c (bound_entries w c) f

module _ (w : World) (h : IsCoherent w) where
  -- what is read is what the region has there
  pub read_window : (q : Region) → In q w.regions → (x n : ℕ) → 0 < n → q.start ≤ x → x + n ≤ q.start + length q.bytes → read w x n ≡ Some (window x n q)
  read_window q i x n pos low high =
      let c : covers q x ≡ true = and_from _ _ (le-leb q.start x low) (lt-ltb x (q.start + length q.bytes) (omega (arith, pos, high))) in
      let f = find_there (λ r. covers r x) w.regions q i c in
      let g = found-In (λ r. covers r x) w.regions f.0 f.1 in
      let e : region_at w x ≡ Some q = f.1 ∙ ap (λ (r : Region). Some r) (covers_once w h f.0 q x g.0 i g.1 c) in
      ap (λ (o : Option Region). option_and_then (λ r. part_of r x n) o) e
      ∙ (ap (λ b. where_true b (slice_range q.bytes (x - q.start) (x - q.start + n))) (le-leb (x + n) (q.start + length q.bytes) high)
      ∙ ap (λ (m : ℕ). Some (slice q.bytes (x - q.start) m)) (omega arith))

  pub restored_shape : (q : Region) → In q w.regions → HasShape q.start (length q.bytes) (restored w q)
  restored_shape q i = subst (HasShape q.start (length q.bytes)) (sym (restored_is w q)) (go (own_image w q) refl)
    where
      go : (o : Option (List ℕ)) → own_image w q ≡ o → HasShape q.start (length q.bytes) (restore o q)
      go None e = (refl, refl)
      go (Some bytes) e = (refl, images_fit w h.ready.regions h.ready.in_space h.ready.apart h.ready.placed h.ready.objects q i bytes e)

  -- the region of a class that isn't writable holds the cell's own bytes before the fields are written
  pub image_there : (c : Cell) → In c w.cells → (class : Class) → (permission_of class).write ≡ false → (q : Region) → class_start c class ≡ Some q.start → own_image w q ≡ Some (image_of (sections_in class c.object))
  image_there c i class fixed q e =
      let x = first_has (images_for w.cells q Text ++ images_for w.cells q ReadOnly) (image_of (sections_in class c.object)) (there class fixed own) in
      x.1 ∙ ap (λ (b : List ℕ). Some b) (same x.0 (In-append (images_for w.cells q Text) (images_for w.cells q ReadOnly) x.0 (first-In _ x.0 x.1)))
    where
      is_here : is_region_of class q c ≡ true
      is_here = subst (λ (o : Option ℕ). elim o as (λ _. Bool) [ None ↦ false | Some start ↦ start == q.start ] ≡ true) (sym e) (eq-eqb q.start q.start refl)

      own : In (image_of (sections_in class c.object)) (images_for w.cells q class)
      own = map-In (λ (d : Cell). image_of (sections_in class d.object)) (filter (is_region_of class q) w.cells) c (filter-In (is_region_of class q) w.cells c i is_here)

      there : (other : Class) → (permission_of other).write ≡ false → In (image_of (sections_in class c.object)) (images_for w.cells q other) → In (image_of (sections_in class c.object)) (images_for w.cells q Text ++ images_for w.cells q ReadOnly)
      there Text f m = In-left (images_for w.cells q Text) (images_for w.cells q ReadOnly) _ m
      there ReadOnly f m = In-right (images_for w.cells q Text) (images_for w.cells q ReadOnly) _ m
      there Writable f m = absurd (true≢false f)

      of : (other : Class) (bytes : List ℕ) → In bytes (images_for w.cells q other) → bytes ≡ image_of (sections_in class c.object)
      of other bytes m =
          let d = In-map (λ (c : Cell). image_of (sections_in other c.object)) (filter (is_region_of other q) w.cells) bytes m in
          let s = one_class w h.ready.regions h.ready.in_space h.ready.apart c d.0 i (In-filtered (is_region_of other q) w.cells d.0 d.1) class other q.start e
          (starts_at other d.0 q (filter-Passes (is_region_of other q) w.cells d.0 d.1)) in
          d.2 ∙ (ap (λ (c : Cell). image_of (sections_in other c.object)) (sym s.0) ∙ ap (λ (x : Class). image_of (sections_in x c.object)) (sym s.1))

      same : (bytes : List ℕ) → In bytes (images_for w.cells q Text) ⊎ In bytes (images_for w.cells q ReadOnly) → bytes ≡ image_of (sections_in class c.object)
      same bytes (inl m) = of Text bytes m
      same bytes (inr m) = of ReadOnly bytes m

  -- n bytes of a region, of which each field has all of its own or none
  module _ (q : Region) (there : In q w.regions) (x n : ℕ) (pos : 0 < n) (low : q.start ≤ x) (high : x + n ≤ q.start + length q.bytes) where
    pub out : (d : Cell) (g : Entry) → Apart (place_of d.placed g) (width_of g.kind) x n → IsOut x n (patch w d g)
    out d g a = record { begins = go (begins_in x n (patch w d g)) refl; apart = wider a }
      where
        size : length (patch w d g).bytes ≡ width_of g.kind
        size = length-bytes_of (width_of g.kind) _

        wider : Apart (place_of d.placed g) (width_of g.kind) x n → Apart (patch w d g).addr (length (patch w d g).bytes) x n
        wider (inl l) = inl (omega (arith, size, l))
        wider (inr l) = inr l

        neither : x ≤ place_of d.placed g → place_of d.placed g < x + n → Apart (place_of d.placed g) (width_of g.kind) x n → ⊥
        neither l m (inl k) = omega (arith, l, k, wide g.kind)
        neither l m (inr k) = omega (arith, m, k)

        go : (b : Bool) → begins_in x n (patch w d g) ≡ b → b ≡ false
        go true e = let k = and_parts (nat_le x (place_of d.placed g)) (nat_lt (place_of d.placed g) (x + n)) e in absurd (neither (leb-true x _ k.0) (ltb-true _ (x + n) k.1) a)
        go false e = refl

    pub inside : (d : Cell) (g : Entry) → x ≤ place_of d.placed g → place_of d.placed g + width_of g.kind ≤ x + n → IsIn x n (patch w d g)
    inside d g l m =
        let size : length (patch w d g).bytes ≡ width_of g.kind = length-bytes_of (width_of g.kind) _ in
        record {
          begins = and_from _ _ (le-leb x (place_of d.placed g) l) (lt-ltb (place_of d.placed g) (x + n) (omega (arith, m, wide g.kind)));
          ends = omega (arith, m, size);
        }

    abbrev pub Parts : Type 0
    Parts = (d : Cell) → In d w.cells → (g : Entry) → In g (fields_of d.object) → IsIn x n (patch w d g) ⊎ IsOut x n (patch w d g)

    -- they are what the objects have there, with the fields in them written
    pub window_is : Parts → window x n q ≡ fold (pasted_here x n) (window x n (restored w q)) (filter (begins_in x n) (patches w))
    window_is parts =
        ap (window x n) (sym (remade_fixed w h.linked q there))
        ∙ window_by x n q.start (length q.bytes) low high (patches w) (fields_end_in w h.ready.regions h.ready.apart h.ready.placed h.ready.objects q there)
        (λ p m. let c = In-flat_map (patches_of w) w.cells p m in
        let f = In-map (patch w c.0) (fields_of c.0.object) p c.2 in
        subst (λ (y : Patch). IsIn x n y ⊎ IsOut x n y) (sym f.2) (parts c.0 c.1 f.0 f.1))
        (restored w q) (restored_shape q there)

    -- where the fields of other cells have none of them, those of the cell are left
    pub only_own : (c : Cell) → In c w.cells → ((d : Cell) → In d w.cells → (c ≡ d → ⊥) → (g : Entry) → In g (fields_of d.object) → begins_in x n (patch w d g) ≡ false)
        → filter (begins_in x n) (patches w) ≡ filter (begins_in x n) (patches_of w c)
    only_own c i others =
        filter_flat (begins_in x n) (patches_of w) w.cells
        ∙ one_left (λ (d : Cell). filter (begins_in x n) (patches_of w d)) (λ (a b : Cell). nat_lt a.id.0 b.id.0) w.cells c h.ready.cell_order i
        (λ d j o. sym (map_filter (patch w d) (begins_in x n) (fields_of d.object)) ∙ ap (map (patch w d)) (none_of d j (apart d o)))
      where
        apart : (d : Cell) → (nat_lt c.id.0 d.id.0 ≡ true) ⊎ (nat_lt d.id.0 c.id.0 ≡ true) → c ≡ d → ⊥
        apart d (inl l) e = let k : c.id.0 ≡ d.id.0 = ap (λ (z : Cell). z.id.0) e in omega (arith, ltb-true c.id.0 d.id.0 l, k)
        apart d (inr l) e = let k : c.id.0 ≡ d.id.0 = ap (λ (z : Cell). z.id.0) e in omega (arith, ltb-true d.id.0 c.id.0 l, k)

        none_of : (d : Cell) → In d w.cells → (c ≡ d → ⊥) → filter (λ g. begins_in x n (patch w d g)) (fields_of d.object) ≡ []
        none_of d j a = filter_none (λ g. begins_in x n (patch w d g)) (fields_of d.object) (others d j a)
