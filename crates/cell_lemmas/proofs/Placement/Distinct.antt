-- The classes of all cells start at different places, where the regions are theirs and stand apart.
use Rattle.std.proofs.Common.{◌≡◌, refl, sym, ◌∙◌, ap, subst, arith, ℕ, ◌+◌, ◌<◌, ◌⊎◌, inl, inr, Bool, true, false, cond, not, List, [], ◌∷◌, ◌++◌, map, length, true≢false, Some, None}
use Rattle.std.specs.Prelude.{fold, flat_map, nat_lt, ◌==◌}
use Rattle.std.specs.List.{list_all}
use Rattle.std.proofs.lemmas.List.Folds.{list_all-map}
use Rattle.std.proofs.lemmas.Bool.{and_parts, and_from, leb-true, eqb-true, eq-eqb}
use Rattle.cell_num.specs.Lists.{each_pair, In}
use Rattle.cell_world.specs.World.{World, Cell, Region}
use Rattle.cell_world.specs.Linked.Relink.{class_start}
use Rattle.cell_world.specs.Placed.Layout.{image_of, sections_in, permission_of}
use Rattle.cell_world.specs.declared.layout.Class.{Class}
use Rattle.cell_world.specs.Coherent.{Shape, shape_of, with_shape, class_shape, stack_shape, wanted_shapes, is_in_space, ends_before}
use Rattle.cell_num.proofs.Elements.{all-In, In-all, In-left, In-right, pairs_same, flat_map-In}
use Rattle.cell_lemmas.proofs.Placement.Places.{whole_region}
use Rattle.cell_lemmas.proofs.Fields.FieldsInside.{In-with_shape, classes, class-In}

-- the test of pairs of two lists in a row
module _ {X : Type 0} where
  pub pairs_first : (t : X → X → Bool) (xs ys : List X) → each_pair t (xs ++ ys) ≡ true → each_pair t xs ≡ true
  pairs_first t [] ys h = refl
  pairs_first t (x ∷ xs) ys h =
      let k : (list_all (t x) (xs ++ ys) ≡ true) × (each_pair t (xs ++ ys) ≡ true) = and_parts (list_all (t x) (xs ++ ys)) (each_pair t (xs ++ ys)) h in
      and_from (list_all (t x) xs) (each_pair t xs) (In-all (t x) xs (λ y m. all-In (t x) (xs ++ ys) k.0 y (In-left xs ys y m))) (pairs_first t xs ys k.1)

  pub pairs_second : (t : X → X → Bool) (xs ys : List X) → each_pair t (xs ++ ys) ≡ true → each_pair t ys ≡ true
  pairs_second t [] ys h = h
  pairs_second t (x ∷ xs) ys h = pairs_second t xs ys (and_parts (list_all (t x) (xs ++ ys)) (each_pair t (xs ++ ys)) h).1

  pub pairs_across : (t : X → X → Bool) (xs ys : List X) → each_pair t (xs ++ ys) ≡ true → (x y : X) → In x xs → In y ys → t x y ≡ true
  pairs_across t [] ys h x y m n = absurd m
  pairs_across t (z ∷ xs) ys h x y (inl e) n =
      subst (λ v. t v y ≡ true) (sym e) (all-In (t z) (xs ++ ys) (and_parts (list_all (t z) (xs ++ ys)) (each_pair t (xs ++ ys)) h).0 y (In-right xs ys y n))
  pairs_across t (z ∷ xs) ys h x y (inr m) n = pairs_across t xs ys (and_parts (list_all (t z) (xs ++ ys)) (each_pair t (xs ++ ys)) h).1 x y m n

-- of two elements of a list in a row of lists: they are of one list, or the test holds of them
module _ {X Y : Type 0} (t : Y → Y → Bool) (f : X → List Y) where
  pub pairs_own : (xs : List X) → each_pair t (flat_map f xs) ≡ true → (x : X) → In x xs → each_pair t (f x) ≡ true
  pairs_own [] h x m = absurd m
  pairs_own (z ∷ xs) h x (inl e) = subst (λ v. each_pair t (f v) ≡ true) (sym e) (pairs_first t (f z) (flat_map f xs) h)
  pairs_own (z ∷ xs) h x (inr m) = pairs_own xs (pairs_second t (f z) (flat_map f xs) h) x m

  pub pairs_between : (xs : List X) → each_pair t (flat_map f xs) ≡ true → (x y : X) → In x xs → In y xs → (a b : Y) → In a (f x) → In b (f y) → (x ≡ y) ⊎ ((t a b ≡ true) ⊎ (t b a ≡ true))
  pairs_between [] h x y m n a b k l = absurd m
  pairs_between (z ∷ xs) h x y (inl e) (inl d) a b k l = inl (e ∙ sym d)
  pairs_between (z ∷ xs) h x y (inl e) (inr n) a b k l =
      inr (inl (pairs_across t (f z) (flat_map f xs) h a b (subst (λ v. In a (f v)) e k) (flat_map-In f xs y b n l)))
  pairs_between (z ∷ xs) h x y (inr m) (inl d) a b k l =
      inr (inr (pairs_across t (f z) (flat_map f xs) h b a (subst (λ v. In b (f v)) d l) (flat_map-In f xs x a m k)))
  pairs_between (z ∷ xs) h x y (inr m) (inr n) a b k l = pairs_between xs (pairs_second t (f z) (flat_map f xs) h) x y m n a b k l

-- the two start at different places
abbrev pub start_apart : Shape → Shape → Bool
start_apart s t = not (s.start == t.start)

pub apart_not : (s t : Shape) → start_apart s t ≡ true → s.start ≡ t.start → ⊥
apart_not s t h e = true≢false (sym (subst (λ b. not b ≡ true) (eq-eqb s.start t.start e) h))

apart_from : (s t : Shape) → (s.start ≡ t.start → ⊥) → start_apart s t ≡ true
apart_from s t f = go (s.start == t.start) refl
  where
    go : (b : Bool) → (s.start == t.start) ≡ b → not b ≡ true
    go true e = absurd (f (eqb-true s.start t.start e))
    go false e = refl

-- apart in the order of starts, apart in any order
apart_put : (s : Shape) (xs : List Shape) → each_pair start_apart (with_shape s xs) ≡ true → (list_all (start_apart s) xs ≡ true) × (each_pair start_apart xs ≡ true)
apart_put s [] h = (refl, refl)
apart_put s (t ∷ xs) h = go (nat_lt s.start t.start) h (apart_put s xs)
  where
    turned : start_apart t s ≡ true → start_apart s t ≡ true
    turned k = apart_from s t (λ e. apart_not t s k (sym e))

    go : (b : Bool) → each_pair start_apart (cond b (s ∷ t ∷ xs) (t ∷ with_shape s xs)) ≡ true → (each_pair start_apart (with_shape s xs) ≡ true → (list_all (start_apart s) xs ≡ true) × (each_pair start_apart xs ≡ true))
        → (list_all (start_apart s) (t ∷ xs) ≡ true) × (each_pair start_apart (t ∷ xs) ≡ true)
    go true k f = and_parts (list_all (start_apart s) (t ∷ xs)) (each_pair start_apart (t ∷ xs)) k
    go false k f =
        let p : (list_all (start_apart t) (with_shape s xs) ≡ true) × (each_pair start_apart (with_shape s xs) ≡ true) = and_parts (list_all (start_apart t) (with_shape s xs)) (each_pair start_apart (with_shape s xs)) k in
        let q : (list_all (start_apart s) xs ≡ true) × (each_pair start_apart xs ≡ true) = f p.1 in (
          and_from (start_apart s t) (list_all (start_apart s) xs) (turned (all-In (start_apart t) (with_shape s xs) p.0 s (In-with_shape s s xs (inl refl)))) q.0,
          and_from (list_all (start_apart t) xs) (each_pair start_apart xs) (In-all (start_apart t) xs (λ u m. all-In (start_apart t) (with_shape s xs) p.0 u (In-with_shape s u xs (inr m)))) q.1,
        )

-- those that are put in are apart from each other and from those that were there
record ApartPut (acc shapes : List Shape) : Type 0 where
  there : each_pair start_apart acc ≡ true
  new : each_pair start_apart shapes ≡ true
  across : (s t : Shape) → In s acc → In t shapes → start_apart s t ≡ true

apart_puts : (shapes acc : List Shape) → each_pair start_apart (fold (λ shapes s. with_shape s shapes) acc shapes) ≡ true → ApartPut acc shapes
apart_puts [] acc h = record { there = h; new = refl; across = λ s t k l. absurd l }
apart_puts (u ∷ shapes) acc h =
    let p : ApartPut (with_shape u acc) shapes = apart_puts shapes (with_shape u acc) h in
    let q : (list_all (start_apart u) acc ≡ true) × (each_pair start_apart acc ≡ true) = apart_put u acc p.there in
    record {
      there = q.1;
      new = and_from (list_all (start_apart u) shapes) (each_pair start_apart shapes) (In-all (start_apart u) shapes (λ t m. p.across u t (In-with_shape u u acc (inl refl)) m)) p.new;
      across = λ s t k l. go q.0 p.across s t k l;
    }
  where
    go : list_all (start_apart u) acc ≡ true → ((s t : Shape) → In s (with_shape u acc) → In t shapes → start_apart s t ≡ true) → (s t : Shape) → In s acc → (t ≡ u) ⊎ In t shapes → start_apart s t ≡ true
    go a f s t k (inl e) = apart_from s t (λ d. apart_not u s (all-In (start_apart u) acc a s k) (ap (λ (x : Shape). x.start) (sym e) ∙ sym d))
    go a f s t k (inr m) = f s t (In-with_shape u s acc (inr k)) m

pairs_mapped : {X Y : Type 0} (t : Y → Y → Bool) (f : X → Y) (xs : List X) → each_pair (λ a b. t (f a) (f b)) xs ≡ true → each_pair t (map f xs) ≡ true
pairs_mapped t f [] h = refl
pairs_mapped t f (x ∷ xs) h =
    let k : (list_all (λ b. t (f x) (f b)) xs ≡ true) × (each_pair (λ a b. t (f a) (f b)) xs ≡ true) = and_parts (list_all (λ b. t (f x) (f b)) xs) (each_pair (λ a b. t (f a) (f b)) xs) h in
    and_from (list_all (t (f x)) (map f xs)) (each_pair t (map f xs)) (list_all-map (t (f x)) f xs ∙ k.0) (pairs_mapped t f xs k.1)

-- the shape of a class that has a start
pub shape_there : (c : Cell) (class : Class) (start : ℕ) → class_start c class ≡ Some start → In (record { start = start; permission = permission_of class; size = length (image_of (sections_in class c.object)) }) (class_shape c class)
shape_there c class start h =
    subst (λ o. In (record { start = start; permission = permission_of class; size = length (image_of (sections_in class c.object)) })
    (elim o as (λ _. List Shape) [ None ↦ [] | Some start ↦ record { start = start; permission = permission_of class; size = length (image_of (sections_in class c.object)) } ∷ [] ])) (sym h) (inl refl)

abbrev pub cell_shapes : Cell → List Shape
cell_shapes c = flat_map (class_shape c) classes

module _ (w : World) (regions : map shape_of w.regions ≡ wanted_shapes w) (in_space : list_all (is_in_space w) w.regions ≡ true) (apart : each_pair ends_before w.regions ≡ true) where
  starts_differ : (r q : Region) → In r w.regions → In q w.regions → ends_before r q ≡ true → start_apart (shape_of r) (shape_of q) ≡ true
  starts_differ r q k l h =
      let n : 0 < length r.bytes = (whole_region w r (all-In (is_in_space w) w.regions in_space r k)).2 in
      apart_from (shape_of r) (shape_of q) (λ e. absurd (omega (arith, n, e, leb-true (r.start + length r.bytes) q.start h)))

  wanted_apart : each_pair start_apart (wanted_shapes w) ≡ true
  wanted_apart = subst (λ l. each_pair start_apart l ≡ true) regions (pairs_mapped start_apart shape_of w.regions (pairs_same ends_before (λ r q. start_apart (shape_of r) (shape_of q)) w.regions starts_differ apart))

  -- the regions of the cells and the stacks start at different places
  pub all_apart : each_pair start_apart (flat_map cell_shapes w.cells ++ map stack_shape w.tasks) ≡ true
  all_apart = (apart_puts (flat_map cell_shapes w.cells ++ map stack_shape w.tasks) [] wanted_apart).new

  cells_apart : each_pair start_apart (flat_map cell_shapes w.cells) ≡ true
  cells_apart = pairs_first start_apart (flat_map cell_shapes w.cells) (map stack_shape w.tasks) all_apart

  same_start : {A : Type 0} (s t : Shape) → s.start ≡ t.start → A ⊎ ((start_apart s t ≡ true) ⊎ (start_apart t s ≡ true)) → A
  same_start s t e (inl a) = a
  same_start s t e (inr (inl h)) = absurd (apart_not s t h e)
  same_start s t e (inr (inr h)) = absurd (apart_not t s h (sym e))

  -- where two classes start at one place, they are the same of the same cell
  pub one_class : (c d : Cell) → In c w.cells → In d w.cells → (class other : Class) (start : ℕ) → class_start c class ≡ Some start → class_start d other ≡ Some start → (c ≡ d) × (class ≡ other)
  one_class c d k l class other start h m =
      let e : c ≡ d = same_start (shape c class) (shape d other) refl
      (pairs_between start_apart cell_shapes w.cells cells_apart c d k l (shape c class) (shape d other)
      (flat_map-In (class_shape c) classes class (shape c class) (class-In class) (shape_there c class start h)) (flat_map-In (class_shape d) classes other (shape d other) (class-In other) (shape_there d other start m))) in (
        e,
        same_start (shape c class) (shape c other) refl
            (pairs_between start_apart (class_shape c) classes (pairs_own start_apart cell_shapes w.cells cells_apart c k) class other (class-In class) (class-In other) (shape c class) (shape c other)
            (shape_there c class start h) (shape_there c other start (subst (λ (x : Cell). class_start x other ≡ Some start) (sym e) m))),
      )
    where
      shape : Cell → Class → Shape
      shape x y = record { start = start; permission = permission_of y; size = length (image_of (sections_in y x.object)) }
