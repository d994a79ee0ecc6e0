-- Linking after cells have come and others have changed writes the new cells' fields and those that change, and no more.
use Rattle.std.proofs.Common.{◌≡◌, refl, sym, ◌∙◌, ap, subst, arith, ℕ, ◌+◌, ◌≤◌, ◌<◌, ◌⊎◌, inl, inr, Bool, true, false, not, ◌&&◌, ◌||◌, List, [], ◌∷◌, ◌++◌, map, length, true≢false, Option, Some, None}
use Rattle.std.specs.Prelude.{filter, filter_map, fold, flat_map, nat_lt, ◌==◌}
use Rattle.std.specs.List.{list_any, list_all}
use Rattle.std.proofs.lemmas.Bool.{and_parts, and_from, eqb-true, eq-eqb, leb-true, ltb-true}
use Rattle.std.proofs.lemmas.List.{append-nil, map-append}
use Rattle.std.proofs.lemmas.List.Elements.{filter-append}
use Rattle.std.proofs.lemmas.List.Concat.{flat_map-append}
use Rattle.std.proofs.lemmas.List.Folds.{flat_map-map}
use Rattle.std.proofs.lemmas.List.Sums.{fold-append}
use Rattle.cell_num.specs.Lists.{first, each_pair, numbered, In}
use Rattle.cell_num.specs.Kinds.{width_of}
use Rattle.cell_object.specs.declared.object.Entry.{Entry}
use Rattle.cell_world.specs.declared.state.LinkRow.{LinkRow}
use Rattle.cell_world.specs.declared.state.NewCell.{NewCell}
use Rattle.cell_world.specs.World.{World, Cell, Region}
use Rattle.cell_world.specs.declared.state.Standing.TheVariants.{Attached}
use Rattle.cell_world.specs.Running.Memory.{covers}
use Rattle.cell_world.specs.Linked.Field.{is_at, fields_of, fields_among, place_of}
use Rattle.cell_world.specs.Linked.Relink.{is_region_of, images_for, bound_entries, Patch, patch_of, patched, patches_of, restored, remade, link_of, links_of, relink}
use Rattle.cell_world.specs.Placed.Layout.{sections_in, image_of}
use Rattle.cell_world.specs.declared.layout.Class.TheVariants.{Text, ReadOnly}
use Rattle.cell_world.specs.declared.layout.Class.{Class}
use Rattle.cell_world.specs.Changed.{FieldAt, now_in, is_changed, changed_in, changed_fields}
use Rattle.cell_world.specs.Coherent.{IsReady, IsCoherent, ends_before}
use Rattle.cell_lemmas.specs.Grown.{IsOwn, links_from, IsRegrown, patch_at, with_changes}
use Rattle.cell_num.proofs.Elements.{all-In, In-all, In-right, In-append, In-map, In-flat_map, In-filtered, filter-Passes, first-In, pairs-In, flat_same, map_same}
use Rattle.cell_lemmas.proofs.Fields.FieldsInside.{among-In, field_inside, fields_end_in, length-bytes_of}
use Rattle.cell_lemmas.proofs.Placement.Distinct.{one_class}
use Rattle.cell_lemmas.proofs.Fields.Patches.{AllEndIn}
use Rattle.cell_lemmas.proofs.Fields.Relinked.{patches, own_image, restore, restored_is, map_twice}
use Rattle.cell_lemmas.proofs.Placement.ImagesInside.{images_fit}
use Rattle.cell_lemmas.proofs.Placement.Regions.{none_there, passed_by, starts_at, restore_same, uncovered}
use Rattle.cell_num.proofs.Sublists.{fixed-In, map_filter, filter_same, pairs-append}
use Rattle.cell_lemmas.proofs.Placement.Offsets.{Apart}
use Rattle.cell_lemmas.proofs.Fields.FieldsApart.{AreFieldsApart, fields_apart}
use Rattle.cell_lemmas.proofs.Fields.Overwritten.{IsUpdate, overwritten}
use Rattle.cell_lemmas.proofs.Fields.Unchanged.{placed_same, patch_same}
use Rattle.cell_lemmas.specs.Linkable.{IsLinkable}
use Rattle.cell_lemmas.proofs.Placement.Inside.{ready_linkable, wide}

map_flat : {X Y Z : Type 0} (g : Y → Z) (f : X → List Y) (xs : List X) → map g (flat_map f xs) ≡ flat_map (λ x. map g (f x)) xs
map_flat g f [] = refl
map_flat g f (x ∷ xs) = map-append g (f x) (flat_map f xs) ∙ ap (λ ys. map g (f x) ++ ys) (map_flat g f xs)

pub filter_flat : {X Y : Type 0} (p : Y → Bool) (f : X → List Y) (xs : List X) → filter p (flat_map f xs) ≡ flat_map (λ x. filter p (f x)) xs
filter_flat p f [] = refl
filter_flat p f (x ∷ xs) = filter-append p (f x) (flat_map f xs) ∙ ap (λ ys. filter p (f x) ++ ys) (filter_flat p f xs)

-- of lists in a row: each by itself, and one against a later one
pairs_flat : {X Y : Type 0} (t : Y → Y → Bool) (u : X → X → Bool) (f : X → List Y) (xs : List X) → each_pair u xs ≡ true → ((x : X) → In x xs → each_pair t (f x) ≡ true)
    → ((x y : X) → u x y ≡ true → (p q : Y) → In p (f x) → In q (f y) → t p q ≡ true) → each_pair t (flat_map f xs) ≡ true
pairs_flat t u f [] h own far = refl
pairs_flat t u f (x ∷ xs) h own far =
    let p = and_parts (list_all (u x) xs) (each_pair u xs) h in
    pairs-append t (f x) (flat_map f xs) (own x (inl refl)) (pairs_flat t u f xs p.1 (λ y m. own y (inr m)) far)
    (λ a b m n. let r = In-flat_map f xs b n in far x r.0 (all-In (u x) xs p.0 r.0 r.1) a b m r.2)

-- the fields of an object are at different places
among_new : (entries before : List Entry) (f : Entry) → In f (fields_among before entries) → list_any (is_at f) before ≡ false
among_new [] before f m = absurd m
among_new (e ∷ entries) before f m = go (list_any (is_at e) before) refl m (among_new entries before f) (among_new entries (e ∷ before) f)
  where
    go : (b : Bool) → list_any (is_at e) before ≡ b → In f (elim b as (λ _. List Entry) [ true ↦ fields_among before entries | false ↦ e ∷ fields_among (e ∷ before) entries ])
        → (In f (fields_among before entries) → list_any (is_at f) before ≡ false) → (In f (fields_among (e ∷ before) entries) → list_any (is_at f) (e ∷ before) ≡ false) → list_any (is_at f) before ≡ false
    go true k m a b = a m
    go false k (inl h) a b = subst (λ (x : Entry). list_any (is_at x) before ≡ false) (sym h) k
    go false k (inr n) a b = later (is_at f e) (list_any (is_at f) before) (b n)
      where
        later : (x y : Bool) → (x || y) ≡ false → y ≡ false
        later true y h = absurd (true≢false h)
        later false y h = h

abbrev pub is_elsewhere : Entry → Entry → Bool
is_elsewhere e f = not (is_at f e)

pub among_apart : (entries before : List Entry) → each_pair is_elsewhere (fields_among before entries) ≡ true
among_apart [] before = refl
among_apart (e ∷ entries) before = go (list_any (is_at e) before) (among_apart entries before) (among_apart entries (e ∷ before))
  where
    first_false : (x y : Bool) → (x || y) ≡ false → not x ≡ true
    first_false true y h = absurd (true≢false h)
    first_false false y h = refl

    go : (b : Bool) → each_pair is_elsewhere (fields_among before entries) ≡ true → each_pair is_elsewhere (fields_among (e ∷ before) entries) ≡ true
        → each_pair is_elsewhere (elim b as (λ _. List Entry) [ true ↦ fields_among before entries | false ↦ e ∷ fields_among (e ∷ before) entries ]) ≡ true
    go true h k = h
    go false h k = and_from (list_all (is_elsewhere e) (fields_among (e ∷ before) entries)) (each_pair is_elsewhere (fields_among (e ∷ before) entries))
        (In-all (is_elsewhere e) (fields_among (e ∷ before) entries) (λ f m. first_false (is_at f e) (list_any (is_at f) before) (among_new entries (e ∷ before) f m))) k

-- all fields of the cells
abbrev pub fields_at : Cell → List FieldAt
fields_at c = map (λ f. record { cell = c; field = f }) (fields_of c.object)

-- the second isn't at the place of the first, in the cell of that number
abbrev is_other_field : FieldAt → FieldAt → Bool
is_other_field x y = not (x.cell.id.0 == y.cell.id.0 && is_at y.field x.field)

module _ (v w : World) (new : List Cell) (coherent : IsCoherent v) (after : IsReady w) (g : IsRegrown v w new) where
  before : IsReady v
  before = coherent.ready

  linkable : IsLinkable w
  linkable = ready_linkable w after

  abbrev all_fields : List FieldAt
  all_fields = flat_map fields_at v.cells

  abbrev then_patch : FieldAt → Patch
  then_patch x = patch_of x.cell (bound_entries v x.cell) x.field

  abbrev now_patch : FieldAt → Patch
  now_patch x = patch_of (now_in w x.cell) (bound_entries w (now_in w x.cell)) x.field

  abbrev changes : FieldAt → Bool
  changes x = is_changed v w x.cell x.field

  -- what a field is of
  record IsField (x : FieldAt) : Type 0 where
    there : In x.cell v.cells
    entry : In x.field x.cell.object.entries

  is_field : (x : FieldAt) → In x all_fields → IsField x
  is_field x m =
      let c = In-flat_map fields_at v.cells x m in
      let f = In-map (λ (f : Entry). record { cell = c.0; field = f }) (fields_of c.0.object) x c.2 in
      subst IsField (sym f.2) (record { there = c.1; entry = among-In c.0.object.entries [] f.0 f.1 })

  then_patches : patches v ≡ map then_patch all_fields
  then_patches = sym (map_flat then_patch fields_at v.cells ∙ flat_same (λ c. map then_patch (fields_at c)) (patches_of v) v.cells (λ c i. map_twice then_patch (λ (f : Entry). record { cell = c; field = f }) (fields_of c.object)))

  now_patches : flat_map (patches_of w) (map (now_in w) v.cells) ≡ map now_patch all_fields
  now_patches =
      flat_map-map (patches_of w) (now_in w) v.cells
      ∙ (flat_same (λ c. patches_of w (now_in w c)) (λ c. map now_patch (fields_at c)) v.cells
      (λ c i. ap (λ (p : NewCell). map (patch_of (now_in w c) (bound_entries w (now_in w c))) (fields_of p.object)) (placed_same v w new before linkable g c i)
      ∙ sym (map_twice now_patch (λ (f : Entry). record { cell = c; field = f }) (fields_of c.object)))
      ∙ sym (map_flat now_patch fields_at v.cells))

  changed_patches : map (patch_at w) (changed_fields v w) ≡ map now_patch (filter changes all_fields)
  changed_patches =
      map_flat (patch_at w) (changed_in v w) v.cells
      ∙ (flat_same (λ c. map (patch_at w) (changed_in v w c)) (λ c. map now_patch (filter changes (fields_at c))) v.cells
      (λ c i. map_twice (patch_at w) (λ (f : Entry). record { cell = now_in w c; field = f }) (filter (is_changed v w c) (fields_of c.object))
      ∙ (sym (map_twice now_patch (λ (f : Entry). record { cell = c; field = f }) (filter (is_changed v w c) (fields_of c.object)))
      ∙ ap (map now_patch) (map_filter (λ (f : Entry). record { cell = c; field = f }) changes (fields_of c.object))))
      ∙ (sym (map_flat now_patch (λ c. filter changes (fields_at c)) v.cells) ∙ ap (map now_patch) (sym (filter_flat changes fields_at v.cells))))

  size_then : (x : FieldAt) → length (then_patch x).bytes ≡ width_of x.field.kind
  size_then x = length-bytes_of (width_of x.field.kind) _

  size_now : (x : FieldAt) → length (now_patch x).bytes ≡ width_of x.field.kind
  size_now x = length-bytes_of (width_of x.field.kind) _

  is_update : (x : FieldAt) → In x all_fields → IsUpdate then_patch now_patch changes x
  is_update x m =
      let f : IsField x = is_field x m in
      record {
        addr = ap (λ (p : NewCell). place_of p x.field) (placed_same v w new before linkable g x.cell f.there);
        size = size_then x ∙ sym (size_now x);
        kept = λ h. patch_same v w new before linkable g x.cell f.there x.field h;
      }

  far : (x y : FieldAt) → In x all_fields → In y all_fields → is_other_field x y ≡ true → Apart (now_patch x).addr (length (now_patch x).bytes) (then_patch y).addr (length (then_patch y).bytes)
  far x y m n h =
      let a : IsField x = is_field x m in
      let b : IsField y = is_field y n in
      let p : (now_patch x).addr ≡ place_of x.cell.placed x.field = (is_update x m).addr in
      turn p (size_now x) (size_then y) (fields_apart v before x.cell y.cell a.there b.there x.field y.field a.entry b.entry)
    where
      turn : (now_patch x).addr ≡ place_of x.cell.placed x.field → length (now_patch x).bytes ≡ width_of x.field.kind → length (then_patch y).bytes ≡ width_of y.field.kind
          → AreFieldsApart x.cell y.cell x.field y.field → Apart (now_patch x).addr (length (now_patch x).bytes) (then_patch y).addr (length (then_patch y).bytes)
      turn p s t (inl k) = absurd (true≢false (sym h ∙ ap not (and_from (x.cell.id.0 == y.cell.id.0) (is_at y.field x.field) (eq-eqb x.cell.id.0 y.cell.id.0 (ap (λ (c : Cell). c.id.0) k.0)) k.1)))
      turn p s t (inr (inl l)) = inl (omega (arith, p, s, t, l))
      turn p s t (inr (inr l)) = inr (omega (arith, p, s, t, l))

  others : each_pair is_other_field all_fields ≡ true
  others = pairs_flat is_other_field (λ (c d : Cell). nat_lt c.id.0 d.id.0) fields_at v.cells before.cell_order own between
    where
      mapped : (c : Cell) (fs : List Entry) → each_pair is_elsewhere fs ≡ true → each_pair is_other_field (map (λ f. record { cell = c; field = f }) fs) ≡ true
      mapped c [] h = refl
      mapped c (f ∷ fs) h =
          let p = and_parts (list_all (is_elsewhere f) fs) (each_pair is_elsewhere fs) h in
          and_from _ _
          (In-all (is_other_field (record { cell = c; field = f })) (map (λ f. record { cell = c; field = f }) fs) (λ y m. at y (In-map (λ (f : Entry). record { cell = c; field = f }) fs y m) p.0))
          (mapped c fs p.1)
        where
          not_and : (a b : Bool) → not b ≡ true → not (a && b) ≡ true
          not_and true b k = k
          not_and false b k = refl

          at : (y : FieldAt) → (e : Entry) × In e fs × (y ≡ record { cell = c; field = e }) → list_all (is_elsewhere f) fs ≡ true → is_other_field (record { cell = c; field = f }) y ≡ true
          at y e a = subst (λ (z : FieldAt). is_other_field (record { cell = c; field = f }) z ≡ true) (sym e.2) (not_and (c.id.0 == c.id.0) (is_at e.0 f) (all-In (is_elsewhere f) fs a e.0 e.1))

      own : (c : Cell) → In c v.cells → each_pair is_other_field (fields_at c) ≡ true
      own c i = mapped c (fields_of c.object) (among_apart c.object.entries [])

      between : (c d : Cell) → nat_lt c.id.0 d.id.0 ≡ true → (p q : FieldAt) → In p (fields_at c) → In q (fields_at d) → is_other_field p q ≡ true
      between c d l p q m n =
          let a = In-map (λ (f : Entry). record { cell = c; field = f }) (fields_of c.object) p m in
          let b = In-map (λ (f : Entry). record { cell = d; field = f }) (fields_of d.object) q n in
          go (p.cell.id.0 == q.cell.id.0) refl (ap (λ (x : FieldAt). x.cell.id.0) a.2) (ap (λ (x : FieldAt). x.cell.id.0) b.2)
        where
          go : (b : Bool) → (p.cell.id.0 == q.cell.id.0) ≡ b → p.cell.id.0 ≡ c.id.0 → q.cell.id.0 ≡ d.id.0 → not (b && is_at q.field p.field) ≡ true
          go true e x y = absurd (omega (arith, eqb-true p.cell.id.0 q.cell.id.0 e, x, y, ltb-true c.id.0 d.id.0 l))
          go false e x y = refl

  -- all patches that linking makes
  patches_after : patches w ≡ map now_patch all_fields ++ flat_map (patches_of w) new
  patches_after =
      ap (flat_map (patches_of w)) g.cells
      ∙ (flat_map-append (patches_of w) (map (now_in w) v.cells) new
      ∙ ap (λ (ps : List Patch). ps ++ flat_map (patches_of w) new) now_patches)

  remade_by : (r : Region) → remade w r ≡ fold patched (fold patched (restored w r) (map now_patch all_fields)) (flat_map (patches_of w) new)
  remade_by r = ap (λ (ps : List Patch). fold patched (restored w r) ps) patches_after ∙ fold-append patched (restored w r) (map now_patch all_fields) (flat_map (patches_of w) new)

  changes_by : (r : Region) → with_changes v w new r ≡ fold patched (fold patched r (map now_patch (filter changes all_fields))) (flat_map (patches_of w) new)
  changes_by r =
      ap (λ (ps : List Patch). fold patched r (ps ++ flat_map (patches_of w) new)) changed_patches
      ∙ fold-append patched r (map now_patch (filter changes all_fields)) (flat_map (patches_of w) new)

  -- a region that was there
  module _ (r : Region) (here : In r v.regions) where
    old_images : (class : Class) → images_for (map (now_in w) v.cells) r class ≡ images_for v.cells r class
    old_images class =
        ap (map (λ c. image_of (sections_in class c.object))) (sym (map_filter (now_in w) (is_region_of class r) v.cells))
        ∙ (map_twice (λ c. image_of (sections_in class c.object)) (now_in w) (filter (λ c. is_region_of class r (now_in w c)) v.cells)
        ∙ (ap (map (λ c. image_of (sections_in class (now_in w c).object)))
        (filter_same (λ c. is_region_of class r (now_in w c)) (is_region_of class r) v.cells (λ c i. region_same c i))
        ∙ map_same (λ c. image_of (sections_in class (now_in w c).object)) (λ c. image_of (sections_in class c.object)) (filter (is_region_of class r) v.cells)
        (λ c i. ap (λ (p : NewCell). image_of (sections_in class p.object)) (placed_same v w new before linkable g c (In-filtered (is_region_of class r) v.cells c i)))))
      where
        region_same : (c : Cell) → In c v.cells → is_region_of class r (now_in w c) ≡ is_region_of class r c
        region_same c i = ap (λ (p : NewCell). is_region_of class r (record { placed = p; aliases = []; standing = Attached })) (placed_same v w new before linkable g c i)

    same_images : (class : Class) → images_for w.cells r class ≡ images_for v.cells r class
    same_images class =
        ap (λ (cells : List Cell). images_for cells r class) g.cells
        ∙ (ap (map (λ c. image_of (sections_in class c.object))) (filter-append (is_region_of class r) (map (now_in w) v.cells) new
        ∙ (ap (λ (cells : List Cell). filter (is_region_of class r) (map (now_in w) v.cells) ++ cells) (none_there class r new (λ c k start e. g.starts c k class start e r here)) ∙ append-nil (filter (is_region_of class r) (map (now_in w) v.cells))))
        ∙ old_images class)

    same_restored : restored w r ≡ restored v r
    same_restored =
        restored_is w r
        ∙ (ap (λ (o : Option (List ℕ)). restore o r) (ap (λ (l : List (List ℕ)). first (l ++ images_for w.cells r ReadOnly)) (same_images Text) ∙ ap (λ (l : List (List ℕ)). first (images_for v.cells r Text ++ l)) (same_images ReadOnly))
        ∙ sym (restored_is v r))

    r_is : fold patched (restored v r) (map then_patch all_fields) ≡ r
    r_is = ap (fold patched (restored v r)) (sym then_patches) ∙ fixed-In (remade v) v.regions (ap (λ (x : World). x.regions) coherent.linked) r here

    ends : AllEndIn (restored v r).start (length (restored v r).bytes) (map then_patch all_fields)
    ends =
        subst (λ (q : Region). AllEndIn q.start (length q.bytes) (map then_patch all_fields)) (sym (restored_is v r))
        (shaped (own_image v r) (images_fit v before.regions before.in_space before.apart before.placed before.objects r here)
        (subst (AllEndIn r.start (length r.bytes)) then_patches (fields_end_in v before.regions before.apart before.placed before.objects r here)))
      where
        shaped : (o : Option (List ℕ)) → ((bytes : List ℕ) → o ≡ Some bytes → length bytes ≡ length r.bytes) → AllEndIn r.start (length r.bytes) (map then_patch all_fields)
            → AllEndIn (restore o r).start (length (restore o r).bytes) (map then_patch all_fields)
        shaped None f e = e
        shaped (Some bytes) f e = subst (λ (n : ℕ). AllEndIn r.start n (map then_patch all_fields)) (sym (f bytes refl)) e

    old_remade : remade w r ≡ with_changes v w new r
    old_remade =
        remade_by r
        ∙ (ap (λ (q : Region). fold patched q (flat_map (patches_of w) new))
        (ap (λ (q : Region). fold patched q (map now_patch all_fields)) same_restored
        ∙ (overwritten then_patch now_patch changes is_other_field all_fields others far is_update (restored v r) ends
        ∙ ap (λ (q : Region). fold patched q (map now_patch (filter changes all_fields))) r_is))
        ∙ sym (changes_by r))

  -- a region of a new cell
  module _ (r : Region) (here : In r w.regions) (own : IsOwn new r) where
    present : In own.cell w.cells
    present = subst (λ (cells : List Cell). In own.cell cells) (sym g.cells) (In-right (map (now_in w) v.cells) new own.cell own.new_cell)

    image_same : (other : Class) (bytes : List ℕ) → In bytes (images_for w.cells r other) → bytes ≡ r.bytes
    image_same other bytes m =
        let d = In-map (λ c. image_of (sections_in other c.object)) (filter (is_region_of other r) w.cells) bytes m in
        let e = one_class w after.regions after.in_space after.apart own.cell d.0 present (In-filtered (is_region_of other r) w.cells d.0 d.1) own.class other r.start own.start
        (starts_at other d.0 r (filter-Passes (is_region_of other r) w.cells d.0 d.1)) in
        d.2
        ∙ (ap (λ (c : Cell). image_of (sections_in other c.object)) (sym e.0)
        ∙ (ap (λ (x : Class). image_of (sections_in x own.cell.object)) (sym e.1) ∙ sym own.bytes))

    own_restored : restored w r ≡ r
    own_restored = restored_is w r ∙ restore_same (own_image w r) r (λ bytes h. go bytes (In-append (images_for w.cells r Text) (images_for w.cells r ReadOnly) bytes (first-In _ bytes h)))
      where
        go : (bytes : List ℕ) → In bytes (images_for w.cells r Text) ⊎ In bytes (images_for w.cells r ReadOnly) → bytes ≡ r.bytes
        go bytes (inl m) = image_same Text bytes m
        go bytes (inr m) = image_same ReadOnly bytes m

    -- what lies in a region that was there is not in this one
    elsewhere : (q : Region) → In q v.regions → (x : ℕ) → q.start ≤ x → x < q.start + length q.bytes → covers r x ≡ false
    elsewhere q k x a b = uncovered r x (λ c d. go c d (pairs-In ends_before w.regions after.apart r q here (g.old q k)))
      where
        go : r.start ≤ x → x < r.start + length r.bytes → (r ≡ q) ⊎ ((ends_before r q ≡ true) ⊎ (ends_before q r ≡ true)) → ⊥
        go c d (inl e) = g.starts own.cell own.new_cell own.class r.start own.start q k (ap (λ (s : Region). s.start) e)
        go c d (inr (inl e)) = omega (arith, leb-true (r.start + length r.bytes) q.start e, a, d)
        go c d (inr (inr e)) = omega (arith, leb-true (q.start + length q.bytes) r.start e, b, c)

    no_old_field : (x : FieldAt) → In x all_fields → covers r (now_patch x).addr ≡ false
    no_old_field x m =
        let f : IsField x = is_field x m in
        let q = field_inside v before.regions before.apart before.placed before.objects x.cell f.there x.field f.entry in
        let a : (now_patch x).addr ≡ place_of x.cell.placed x.field = (is_update x m).addr in
        elsewhere q.0 q.1 (now_patch x).addr (omega (arith, q.2, a)) (omega (arith, q.3, a, wide x.field.kind))

    passes : (xs : List FieldAt) → ((x : FieldAt) → In x xs → In x all_fields) → fold patched r (map now_patch xs) ≡ r
    passes xs f = passed_by r (map now_patch xs) (λ p m. let x = In-map now_patch xs p m in subst (λ (q : Patch). covers r q.addr ≡ false) (sym x.2) (no_old_field x.0 (f x.0 x.1)))

    own_remade : remade w r ≡ with_changes v w new r
    own_remade =
        remade_by r
        ∙ (ap (λ (q : Region). fold patched q (flat_map (patches_of w) new))
        (ap (λ (q : Region). fold patched q (map now_patch all_fields)) own_restored
        ∙ (passes all_fields (λ x m. m) ∙ sym (passes (filter changes all_fields) (λ x m. In-filtered changes all_fields x m))))
        ∙ sym (changes_by r))

  remade_after : (r : Region) → In r w.regions → remade w r ≡ with_changes v w new r
  remade_after r k = go (g.regions r k)
    where
      go : In r v.regions ⊎ IsOwn new r → remade w r ≡ with_changes v w new r
      go (inl h) = old_remade r h
      go (inr own) = own_remade r k own

  links_after : links_of w ≡ links_from w (map (now_in w) v.cells) ++ links_from w new
  links_after = ap (links_from w) g.cells ∙ flat_map-append (λ c. filter_map (link_of w c) (numbered c.object.entries)) (map (now_in w) v.cells) new

  pub relinked_writes : relink w ≡ record w { regions = map (with_changes v w new) w.regions; links = links_from w (map (now_in w) v.cells) ++ links_from w new }
  relinked_writes =
      ap (λ (regions : List Region). record w { regions = regions; links = links_of w }) (map_same (remade w) (with_changes v w new) w.regions remade_after)
      ∙ ap (λ (links : List LinkRow). record w { regions = map (with_changes v w new) w.regions; links = links }) links_after
