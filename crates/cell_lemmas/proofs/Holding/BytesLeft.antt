-- A region that stays holds what it held where cells are removed.
use Rattle.std.proofs.Common.{◌≡◌, refl, sym, ◌∙◌, ap, arith, ℕ, ◌+◌, ◌≤◌, ◌<◌, ◌⊎◌, inl, inr, Bool, true, false, cond, List, [], ◌∷◌, ◌++◌, length, map, true≢false, Option, Some, None}
use Rattle.std.specs.Prelude.{filter, flat_map, fold, not}
use Rattle.std.proofs.lemmas.Bool.{leb-true}
use Rattle.std.proofs.lemmas.List.Sums.{fold-append}
use Rattle.cell_num.specs.Lists.{holds, first, In}
use Rattle.cell_object.specs.declared.object.Entry.{Entry}
use Rattle.cell_world.specs.World.{World, Cell, Region}
use Rattle.cell_world.specs.Running.Memory.{covers}
use Rattle.cell_world.specs.Linked.Field.{Bound, fields_of, place_of}
use Rattle.cell_world.specs.Linked.Relink.{class_start, is_region_of, images_for, Patch, patch_of, patched, patches_of, bound_entries, remade}
use Rattle.cell_world.specs.Placed.Layout.{image_of, sections_in}
use Rattle.cell_world.specs.declared.layout.Class.TheVariants.{Text, ReadOnly}
use Rattle.cell_world.specs.declared.layout.Class.{Class}
use Rattle.cell_world.specs.Commands.UnloadCommand.{without_cells}
use Rattle.cell_world.specs.Coherent.{IsCoherent, ends_before}
use Rattle.cell_num.proofs.Elements.{In-map, In-left, In-right, In-filtered, filter-Passes, filter_all, flat_same, pairs-In}
use Rattle.cell_lemmas.proofs.Fields.FieldsInside.{among-In, field_region, fields_end_in}
use Rattle.cell_lemmas.proofs.Placement.ImagesInside.{images_fit}
use Rattle.cell_lemmas.proofs.Placement.Inside.{wide}
use Rattle.cell_lemmas.proofs.Placement.Regions.{passed_by, starts_at, uncovered}
use Rattle.cell_lemmas.proofs.Fields.Patches.{HasShape, AllEndIn, shape_by}
use Rattle.cell_lemmas.proofs.Fields.Relinked.{patches, own_image, restore, remade_is}
use Rattle.cell_lemmas.proofs.Fields.Fixed.{remade_fixed}
use Rattle.cell_lemmas.proofs.Naming.Lookups.{filter_swap, unnot, unnot_false}
use Rattle.cell_lemmas.proofs.Targeting.TargetsLeft.{Closed}
use Rattle.cell_lemmas.proofs.Links.LinksLeft.{bound_same}
use Rattle.cell_lemmas.proofs.Placement.ShapesLeft.{lost_starts, start_lost}

-- patches that begin in no region of the shape may be left out
module _ {A : Type 0} (a n : ℕ) (f : A → List Patch) (stay : A → Bool) where
  abbrev Passes : List A → Type 0
  Passes xs = (x : A) → In x xs → stay x ≡ false → (q : Region) → HasShape a n q → (p : Patch) → In p (f x) → covers q p.addr ≡ false

  patches_left_out : (xs : List A) → AllEndIn a n (flat_map f xs) → Passes xs → (q : Region) → HasShape a n q → fold patched q (flat_map f (filter stay xs)) ≡ fold patched q (flat_map f xs)
  patches_left_out [] e m q s = refl
  patches_left_out (x ∷ xs) e m q s = go (stay x) refl (patches_left_out xs (λ p i. e p (In-right (f x) (flat_map f xs) p i)) (λ y i. m y (inr i)))
    where
      shape : HasShape a n (fold patched q (f x))
      shape = shape_by a n (f x) (λ p i. e p (In-left (f x) (flat_map f xs) p i)) q s

      go : (b : Bool) → stay x ≡ b → ((r : Region) → HasShape a n r → fold patched r (flat_map f (filter stay xs)) ≡ fold patched r (flat_map f xs))
          → fold patched q (flat_map f (cond b (x ∷ filter stay xs) (filter stay xs))) ≡ fold patched q (f x ++ flat_map f xs)
      go true t rec =
          fold-append patched q (f x) (flat_map f (filter stay xs))
          ∙ (rec (fold patched q (f x)) shape ∙ sym (fold-append patched q (f x) (flat_map f xs)))
      go false t rec =
          rec q s
          ∙ (ap (λ (r : Region). fold patched r (flat_map f xs)) (sym (passed_by q (f x) (m x (inl refl) t q s)))
          ∙ sym (fold-append patched q (f x) (flat_map f xs)))

shape_restored : (o : Option (List ℕ)) (r : Region) → ((bytes : List ℕ) → o ≡ Some bytes → length bytes ≡ length r.bytes) → HasShape r.start (length r.bytes) (restore o r)
shape_restored None r f = (refl, refl)
shape_restored (Some bytes) r f = (refl, f bytes refl)

module _ (w : World) (h : IsCoherent w) (numbers : List ℕ) (closed : Closed w numbers) (r : Region) (here : In r w.regions) (stays : holds (lost_starts w h numbers) r.start ≡ false) where
  abbrev left : World
  left = without_cells w numbers

  abbrev stay : Cell → Bool
  stay c = not (holds numbers c.id.0)

  -- no class of a removed cell starts at the region
  not_lost : (c : Cell) → In c w.cells → holds numbers c.id.0 ≡ true → (class : Class) → class_start c class ≡ Some r.start → ⊥
  not_lost c i g class e = true≢false (sym (start_lost w h numbers c i g class r.start e) ∙ stays)

  images_left : (class : Class) → images_for left.cells r class ≡ images_for w.cells r class
  images_left class =
      ap (map (λ c. image_of (sections_in class c.object)))
      (filter_swap (is_region_of class r) stay w.cells
      ∙ filter_all stay (filter (is_region_of class r) w.cells) (λ c j. go c (In-filtered (is_region_of class r) w.cells c j) (starts_at class c r (filter-Passes (is_region_of class r) w.cells c j))))
    where
      go : (c : Cell) → In c w.cells → class_start c class ≡ Some r.start → stay c ≡ true
      go c i e = pick (holds numbers c.id.0) refl
        where
          pick : (b : Bool) → holds numbers c.id.0 ≡ b → not b ≡ true
          pick true g = absurd (not_lost c i g class e)
          pick false g = refl

  image_left : own_image left r ≡ own_image w r
  image_left =
      ap (λ (l : List (List ℕ)). first (l ++ images_for left.cells r ReadOnly)) (images_left Text)
      ∙ ap (λ (l : List (List ℕ)). first (images_for w.cells r Text ++ l)) (images_left ReadOnly)

  patches_left : patches left ≡ flat_map (patches_of w) (filter stay w.cells)
  patches_left = flat_same (patches_of left) (patches_of w) (filter stay w.cells)
      (λ c j. same c (In-filtered stay w.cells c j) (unnot (holds numbers c.id.0) (filter-Passes stay w.cells c j)))
    where
      same : (c : Cell) → In c w.cells → holds numbers c.id.0 ≡ false → patches_of left c ≡ patches_of w c
      same c i s = ap (λ (bound : List Bound). map (patch_of c bound) (fields_of c.object)) (bound_same w h numbers closed c i s)

  -- a removed cell has no field in the region
  lost_passes : (c : Cell) → In c w.cells → holds numbers c.id.0 ≡ true → (q : Region) → HasShape r.start (length r.bytes) q → (p : Patch) → In p (patches_of w c) → covers q p.addr ≡ false
  lost_passes c i g q s p m = uncovered q p.addr (λ a b. field (In-map (patch_of c (bound_entries w c)) (fields_of c.object) p m) a b)
    where
      field : (f : Entry) × In f (fields_of c.object) × (p ≡ patch_of c (bound_entries w c) f) → q.start ≤ p.addr → p.addr < q.start + length q.bytes → ⊥
      field f a b =
          let t = field_region w h.ready.regions h.ready.apart h.ready.placed h.ready.objects c i f.0 (among-In c.object.entries [] f.0 f.1) in
          let at : p.addr ≡ place_of c.placed f.0 = ap (λ (x : Patch). x.addr) f.2 in
          go t.0 t.4.0 t.4.1 (omega (arith, t.2, at)) (omega (arith, t.3, at, wide f.0.kind)) (omega (arith, a, s.0)) (omega (arith, b, s.0, s.1))
          (pairs-In ends_before w.regions h.ready.apart t.0 r t.1 here)
        where
          go : (t : Region) (class : Class) → class_start c class ≡ Some t.start → t.start ≤ p.addr → p.addr < t.start + length t.bytes → r.start ≤ p.addr → p.addr < r.start + length r.bytes
              → (t ≡ r) ⊎ ((ends_before t r ≡ true) ⊎ (ends_before r t ≡ true)) → ⊥
          go t class e x y a b (inl z) = not_lost c i g class (e ∙ ap (λ (v : Region). Some v.start) z)
          go t class e x y a b (inr (inl z)) = omega (arith, leb-true (t.start + length t.bytes) r.start z, y, a)
          go t class e x y a b (inr (inr z)) = omega (arith, leb-true (r.start + length r.bytes) t.start z, x, b)

  pub remade_left : remade left r ≡ r
  remade_left =
      remade_is left r
      ∙ (ap (λ (o : Option (List ℕ)). fold patched (restore o r) (patches left)) image_left
      ∙ (ap (λ (ps : List Patch). fold patched (restore (own_image w r) r) ps) patches_left
      ∙ (patches_left_out r.start (length r.bytes) (patches_of w) stay w.cells (fields_end_in w h.ready.regions h.ready.apart h.ready.placed h.ready.objects r here)
      (λ c i g q s p m. lost_passes c i (unnot_false (holds numbers c.id.0) g) q s p m)
      (restore (own_image w r) r) (shape_restored (own_image w r) r (images_fit w h.ready.regions h.ready.in_space h.ready.apart h.ready.placed h.ready.objects r here))
      ∙ (sym (remade_is w r) ∙ remade_fixed w h.linked r here))))
