-- Each new cell stands by the rule of places, and the regions that it adds are those that it should have.
use Rattle.std.proofs.Common.{◌≡◌, refl, sym, ◌∙◌, ap, subst, arith, ℕ, ◌<◌, ◌⊎◌, inl, inr, Bool, true, false, cond, List, [], ◌∷◌, ◌++◌, map, length, append_assoc, Ok}
use Rattle.std.specs.Prelude.{flat_map, nat_lt, ◌/◌, ◌%◌, ◌==◌}
use Rattle.std.specs.List.{list_all}
use Rattle.std.proofs.lemmas.Bool.{and_parts, and_from, eq-eqb}
use Rattle.std.proofs.lemmas.List.{map-append}
use Rattle.std.proofs.lemmas.List.Sums.{fold-append}
use Rattle.cell_num.specs.Lists.{each_pair, In}
use Rattle.cell_object.specs.declared.object.Section.{Section as ObjectSection}
use Rattle.cell_object.specs.Sound.{IsSoundObject}
use Rattle.cell_world.specs.World.{World, Cell, Region}
use Rattle.cell_world.specs.Placed.Layout.{sections_in, image_of, laid_out, permission_of, places_in, start_in}
use Rattle.cell_world.specs.declared.layout.Starts.{Starts}
use Rattle.cell_world.specs.declared.layout.Class.TheVariants.{Text, ReadOnly, Writable}
use Rattle.cell_world.specs.declared.layout.Class.{Class}
use Rattle.cell_world.specs.Placed.Place.{Placing, with_region, with_run, with_places, start_of_run, place_sections, place_cell, place_all}
use Rattle.cell_world.specs.Coherent.{Shape, shape_of, with_shape, class_shape, is_in_space, is_placed}
use Rattle.cell_num.proofs.Elements.{all-In, In-append, In-right}
use Rattle.cell_lemmas.proofs.Outcomes.{bind_ok}
use Rattle.cell_lemmas.proofs.Naming.Appended.{ok_same}
use Rattle.cell_lemmas.proofs.Placement.Places.{Spaced, Disjoint, run_ok, run_disjoint, whole_region, image_pages, shape_inserted}
use Rattle.cell_lemmas.proofs.Placement.PlacedAll.{Put, Placed, CellRuns, cell_runs, class_placed, cell_placed}
use Rattle.cell_lemmas.proofs.Naming.Renamed.{pairs_bare}
use Rattle.cell_lemmas.proofs.Fields.FieldsInside.{classes}
use Rattle.cell_lemmas.proofs.Placement.OwnPlaces.{shape_at, shape_is, placed_by_rule}

-- the shapes of the regions of a cell
abbrev pub shapes_of : Cell → List Shape
shapes_of c = flat_map (class_shape c) classes

inserted-In : (r x : Region) (regions : List Region) → In x regions → In x (with_region r regions)
inserted-In r x [] h = absurd h
inserted-In r x (s ∷ regions) h = go (nat_lt r.start s.start) h (inserted-In r x regions)
  where
    go : (b : Bool) → (x ≡ s) ⊎ In x regions → (In x regions → In x (with_region r regions)) → In x (cond b (r ∷ s ∷ regions) (s ∷ with_region r regions))
    go true k f = inr k
    go false (inl e) f = inl e
    go false (inr k) f = inr (f k)

-- the regions after have the shapes in addition, and none of these starts where a region was
pub record Adds (w w' : World) (new : List Shape) : Type 0 where
  pub shapes : map shape_of w'.regions ≡ Put (map shape_of w.regions) new
  pub apart : (s : Shape) → In s new → (r : Region) → In r w.regions → s.start ≡ r.start → ⊥
  pub stay : (r : Region) → In r w.regions → In r w'.regions

adds_none : (w : World) → Adds w w []
adds_none w = record { shapes = refl; apart = λ s k. absurd k; stay = λ r k. k }

pub adds_more : (w w' w'' : World) (xs ys : List Shape) → Adds w w' xs → Adds w' w'' ys → Adds w w'' (xs ++ ys)
adds_more w w' w'' xs ys a b = record {
  shapes = b.shapes ∙ (ap (λ (zs : List Shape). Put zs ys) a.shapes ∙ sym (fold-append (λ shapes s. with_shape s shapes) (map shape_of w.regions) xs ys));
  apart = λ s k r i. go s r i (In-append xs ys s k);
  stay = λ r k. b.stay r (a.stay r k);
}
  where
    go : (s : Shape) (r : Region) → In r w.regions → In s xs ⊎ In s ys → s.start ≡ r.start → ⊥
    go s r i (inl k) = a.apart s k r i
    go s r i (inr k) = b.apart s k r (a.stay r i)

-- a run in the lowest free place
run_adds : (w : World) (r : Region) → start_of_run w (length r.bytes / 4096) ≡ Ok r.start → 0 < length r.bytes → length r.bytes % 4096 ≡ 0 → Spaced w → Adds w (record w { regions = with_region r w.regions }) (shape_of r ∷ [])
run_adds w r h l m s = record {
  shapes = shape_inserted r w.regions;
  apart = λ x k q i. go x q i k (run_disjoint w r (run_ok w (length r.bytes / 4096) r.start (omega (arith, l, m)) h) l m q i (whole_region w q (all-In (is_in_space w) w.regions s.in_space q i)));
  stay = λ q k. inserted-In r q w.regions k;
}
  where
    start : (x : Shape) → In x (shape_of r ∷ []) → x.start ≡ r.start
    start x (inl e) = ap (λ (v : Shape). v.start) e
    start x (inr z) = absurd z

    go : (x : Shape) (q : Region) → In q w.regions → In x (shape_of r ∷ []) → Disjoint r q → x.start ≡ q.start → ⊥
    go x q i k (inl d) e = omega (arith, d, l, start x k, e)
    go x q i k (inr d) e = omega (arith, d, (whole_region w q (all-In (is_in_space w) w.regions s.in_space q i)).2, start x k, e)

sections_add : (w : World) (class : Class) (sections : List ObjectSection) (p : Placing) → place_sections w class sections ≡ Ok p → Spaced w → Adds w p.world (shape_at class p.start sections)
sections_add w class [] p h s = subst (λ (x : Placing). Adds w x.world []) (ok_same _ p h) (adds_none w)
sections_add w class (t ∷ rest) p h s =
    let n : (0 < length (image_of (t ∷ rest))) × (length (image_of (t ∷ rest)) % 4096 ≡ 0) = image_pages (laid_out [] (t ∷ rest)) in
    let b = bind_ok (start_of_run w (length (image_of (t ∷ rest)) / 4096)) _ p h in
    let r : Region = record { start = b.0; permission = permission_of class; bytes = image_of (t ∷ rest) } in
    subst (λ (x : Placing). Adds w x.world (shape_at class x.start (t ∷ rest))) (ok_same (with_run w class (t ∷ rest) b.0) p b.2) (run_adds w r b.1 n.0 n.1 s)

abbrev pub with_starts : Starts → Cell → Cell
with_starts starts c = record c { placed = record c.placed { places = places_in starts c.object } }

-- what placing a cell does
pub record OnePlaced (w : World) (c : Cell) (w' : World) : Type 0 where
  pub starts : Starts
  pub cells : w'.cells ≡ map (with_places c.id.0 starts) w.cells
  pub adds : Adds w w' (shapes_of (with_starts starts c))

placed_itself : (w : World) → Spaced w → Placed w w
placed_itself w s = record { spaced = s; cells = refl; rest = refl }

pub one_placed : (w : World) (c : Cell) (w' : World) → IsSoundObject c.object → Spaced w → place_cell w c ≡ Ok w' → OnePlaced w c w'
one_placed w c w' sound s h = subst (OnePlaced w c) r.is (record {
  starts = starts;
  cells = refl;
  adds = record { shapes = all.shapes; apart = all.apart; stay = all.stay };
})
  where
    r : CellRuns w c w'
    r = cell_runs w c w' h

    starts : Starts
    starts = record { text = r.text.start; read_only = r.read_only.start; writable = r.writable.start }

    p : Placed w r.text.world
    p = class_placed w w Text c.object r.text r.first (placed_itself w s)

    q : Placed w r.read_only.world
    q = class_placed w r.text.world ReadOnly c.object r.read_only r.second p

    after : Cell
    after = with_starts starts c

    of_class : (class : Class) (u v : World) → Adds u v (shape_at class (start_in starts class) (sections_in class c.object)) → Adds u v (class_shape after class)
    of_class class u v a = subst (Adds u v) (sym (shape_is after starts sound refl class)) a

    all : Adds w r.writable.world (shapes_of after)
    all =
        adds_more w r.text.world r.writable.world (class_shape after Text) _ (of_class Text w r.text.world (sections_add w Text (sections_in Text c.object) r.text r.first s))
        (adds_more r.text.world r.read_only.world r.writable.world (class_shape after ReadOnly) _
        (of_class ReadOnly r.text.world r.read_only.world (sections_add r.text.world ReadOnly (sections_in ReadOnly c.object) r.read_only r.second p.spaced))
        (adds_more r.read_only.world r.writable.world r.writable.world (class_shape after Writable) []
        (of_class Writable r.read_only.world r.writable.world (sections_add r.read_only.world Writable (sections_in Writable c.object) r.writable r.third q.spaced))
        (adds_none r.writable.world)))

-- an element of a list whose pairs pass a test
pairs_split : {X : Type 0} (t : X → X → Bool) (xs : List X) (y : X) (ys : List X) → each_pair t (xs ++ y ∷ ys) ≡ true → ((x : X) → In x xs → t x y ≡ true) × ((x : X) → In x ys → t y x ≡ true)
pairs_split t [] y ys h = (λ x k. absurd k, all-In (t y) ys (and_parts (list_all (t y) ys) (each_pair t ys) h).0)
pairs_split {X = X} t (z ∷ xs) y ys h =
    let p = and_parts (list_all (t z) (xs ++ y ∷ ys)) (each_pair t (xs ++ y ∷ ys)) h in
    let r = pairs_split t xs y ys p.1 in
    (λ x k. go x k (all-In (t z) (xs ++ y ∷ ys) p.0 y (In-right xs (y ∷ ys) y (inl refl))) r.0, r.1)
  where
    go : (x : X) → (x ≡ z) ⊎ In x xs → t z y ≡ true → ((v : X) → In v xs → t v y ≡ true) → t x y ≡ true
    go x (inl e) g f = subst (λ v. t v y ≡ true) (sym e) g
    go x (inr k) g f = f x k

others_stay : (number : ℕ) (starts : Starts) (cells : List Cell) → ((c : Cell) → In c cells → (c.id.0 == number) ≡ false) → map (with_places number starts) cells ≡ cells
others_stay number starts [] f = refl
others_stay number starts (c ∷ cells) f =
    ap (λ b. cond b (with_starts starts c) c ∷ map (with_places number starts) cells) (f c (inl refl))
    ∙ ap (λ (cs : List Cell). c ∷ cs) (others_stay number starts cells (λ d k. f d (inr k)))

differ_below : (m n : ℕ) → nat_lt m n ≡ true → (m == n) ≡ false
differ_below m n h = grind (arith, h)

differ_above : (m n : ℕ) → nat_lt n m ≡ true → (m == n) ≡ false
differ_above m n h = grind (arith, h)

abbrev pub in_order : List Cell → Bool
in_order cells = each_pair (λ a b. nat_lt a.id.0 b.id.0) cells

-- among cells in order only the one of that number gets the places
pub one_changes : (before rest : List Cell) (c : Cell) (starts : Starts) → in_order (before ++ c ∷ rest) ≡ true → map (with_places c.id.0 starts) (before ++ c ∷ rest) ≡ before ++ with_starts starts c ∷ rest
one_changes before rest c starts h =
    let p = pairs_split (λ (a : Cell) (b : Cell). nat_lt a.id.0 b.id.0) before c rest h in
    map-append (with_places c.id.0 starts) before (c ∷ rest)
    ∙ (ap (λ (cs : List Cell). cs ++ map (with_places c.id.0 starts) (c ∷ rest)) (others_stay c.id.0 starts before (λ d k. differ_below d.id.0 c.id.0 (p.0 d k)))
    ∙ (ap (λ b. before ++ cond b (with_starts starts c) c ∷ map (with_places c.id.0 starts) rest) (eq-eqb c.id.0 c.id.0 refl)
    ∙ ap (λ (cs : List Cell). before ++ with_starts starts c ∷ cs) (others_stay c.id.0 starts rest (λ d k. differ_above d.id.0 c.id.0 (p.1 d k)))))

-- what placing the cells `rest` after the cells `before` does
pub record AllPlaced (w : World) (before : List Cell) (w' : World) : Type 0 where
  pub new : List Cell
  pub cells : w'.cells ≡ before ++ new
  pub placed : list_all is_placed new ≡ true
  pub adds : Adds w w' (flat_map shapes_of new)

abbrev pub AllSound : List Cell → Type 0
AllSound cells = (c : Cell) → In c cells → IsSoundObject c.object

pub new_placed : (rest before : List Cell) (w w' : World) → AllSound rest → w.cells ≡ before ++ rest → in_order w.cells ≡ true → Spaced w → place_all w rest ≡ Ok w' → AllPlaced w before w'
new_placed [] before w w' sound e order s h = subst (AllPlaced w before) (ok_same w w' h) (record { new = []; cells = e; placed = refl; adds = adds_none w })
new_placed (c ∷ rest) before w w' sound e order s h =
    let b = bind_ok (place_cell w c) (λ z. place_all z rest) w' h in
    let one : OnePlaced w c b.0 = one_placed w c b.0 (sound c (inl refl)) s b.1 in
    let k : Placed w b.0 = cell_placed w w c b.0 b.1 (placed_itself w s) in
    let d : Cell = with_starts one.starts c in
    let f : b.0.cells ≡ before ++ d ∷ rest = one.cells ∙ (ap (map (with_places c.id.0 one.starts)) e ∙ one_changes before rest c one.starts (subst (λ (cs : List Cell). in_order cs ≡ true) e order)) in
    let g : b.0.cells ≡ (before ++ d ∷ []) ++ rest = f ∙ sym (append_assoc before (d ∷ []) rest) in
    let more : AllPlaced b.0 (before ++ d ∷ []) w' = new_placed rest (before ++ d ∷ []) b.0 w' (λ x i. sound x (inr i)) g (pairs_bare (λ a b. nat_lt a.id.0 b.id.0) (λ a b. refl) b.0.cells w.cells k.cells order) k.spaced b.2 in
    record {
      new = d ∷ more.new;
      cells = more.cells ∙ append_assoc before (d ∷ []) more.new;
      placed = and_from (is_placed d) (list_all is_placed more.new) (placed_by_rule d one.starts (sound c (inl refl)) refl) more.placed;
      adds = adds_more w b.0 w' (shapes_of d) (flat_map shapes_of more.new) one.adds more.adds;
    }
