-- The place of each section of a cell that is placed lies in the space.
use Rattle.std.proofs.Common.{◌≡◌, sym, ◌∙◌, ap, subst, arith, ℕ, ◌+◌, ◌-◌, ◌*◌, ◌≤◌, inl, inr, true, false, cond, ◌&&◌, List, [], ◌∷◌, map, length, Option, Some}
use Rattle.std.specs.Prelude.{All, find, option_map, unwrap_or, nat_lt, nat_le, ◌%◌, ◌==◌}
use Rattle.std.specs.List.{list_all}
use Rattle.std.proofs.lemmas.Bool.{and_parts, leb-true, eq-eqb}
use Rattle.std.proofs.lemmas.Slice.Eq.{bytes_eq-Decides}
use Rattle.cell_num.specs.Lists.{each_pair, equals, In}
use Rattle.cell_object.specs.declared.object.Section.{Section as ObjectSection}
use Rattle.cell_world.specs.declared.state.SecPlace.{SecPlace}
use Rattle.cell_world.specs.World.{World, Cell, Region}
use Rattle.cell_world.specs.Linked.Target.{start_of}
use Rattle.cell_world.specs.Coherent.{IsLoadable, shape_of, wanted_shapes, ends_before, is_in_space, is_placed, stands_by_rule}
use Rattle.cell_num.proofs.Elements.{all-In, In-All, In-map, map-In, pairs-map}
use Rattle.cell_lemmas.proofs.Naming.Known.{object_sound}
use Rattle.cell_lemmas.proofs.Fields.FieldsInside.{classes, section_inside}

-- what is found by a number that rises is the one of that number
found_by : {X : Type 0} (key : X → ℕ) (xs : List X) → each_pair (λ a b. nat_lt (key a) (key b)) xs ≡ true → (x : X) → In x xs → find (λ y. key y == key x) xs ≡ Some x
found_by key [] r x k = absurd k
found_by key (y ∷ ys) r x (inl e) = ap (λ b. cond b (Some y) (find (λ z. key z == key x) ys)) (eq-eqb (key y) (key x) (ap key (sym e))) ∙ ap (λ v. Some v) (sym e)
found_by key (y ∷ ys) r x (inr k) =
    let p = and_parts (list_all (λ b. nat_lt (key y) (key b)) ys) (each_pair (λ a b. nat_lt (key a) (key b)) ys) r in
    ap (λ b. cond b (Some y) (find (λ z. key z == key x) ys)) (differ (key y) (key x) (all-In (λ b. nat_lt (key y) (key b)) ys p.0 x k)) ∙ found_by key ys p.1 x k
  where
    differ : (m n : ℕ) → nat_lt m n ≡ true → (m == n) ≡ false
    differ m n h = grind (arith, h)

module _ (w : World) (regions : map shape_of w.regions ≡ wanted_shapes w) (in_space : list_all (is_in_space w) w.regions ≡ true) (apart : each_pair ends_before w.regions ≡ true) (placed : list_all is_placed w.cells ≡ true) (objects : All (λ c. IsLoadable c.object) w.cells) where
  numbers_same : (c : Cell) → In c w.cells → map (λ (p : SecPlace). p.section) c.places ≡ map (λ (s : ObjectSection). s.number) c.object.sections
  numbers_same c k =
      (bytes_eq-Decides (map (λ (p : SecPlace). p.section) c.places) (map (λ (s : ObjectSection). s.number) c.object.sections)).0
      (and_parts (equals (map (λ (p : SecPlace). p.section) c.places) (map (λ (s : ObjectSection). s.number) c.object.sections)) (list_all (stands_by_rule c) classes) (all-In is_placed w.cells placed c k)).0

  places_rise : (c : Cell) → In c w.cells → each_pair (λ (p q : SecPlace). nat_lt p.section q.section) c.places ≡ true
  places_rise c k =
      sym (pairs-map nat_lt (λ (p : SecPlace). p.section) c.places)
      ∙ (ap (each_pair nat_lt) (numbers_same c k)
      ∙ (pairs-map nat_lt (λ (s : ObjectSection). s.number) c.object.sections ∙ (object_sound w objects c k).numbers))

  start_found : (c : Cell) → In c w.cells → (p : SecPlace) → In p c.places → start_of c.placed p.section ≡ p.start
  start_found c k p i = ap (λ (o : Option SecPlace). unwrap_or (option_map (λ (q : SecPlace). q.start) o) 0) (found_by (λ (q : SecPlace). q.section) c.places (places_rise c k) p i)

  ends_in_space : (q : Region) → In q w.regions → (w.base ≤ q.start) × (q.start + length q.bytes ≤ w.base + 4096 * w.pages)
  ends_in_space q i =
      let t : is_in_space w q ≡ true = all-In (is_in_space w) w.regions in_space q i in
      let a = and_parts (nat_le w.base q.start && ((q.start - w.base) % 4096 == 0) && nat_lt 0 (length q.bytes) && (length q.bytes % 4096 == 0)) (nat_le (q.start + length q.bytes) (w.base + 4096 * w.pages)) t in
      let b = and_parts (nat_le w.base q.start && ((q.start - w.base) % 4096 == 0) && nat_lt 0 (length q.bytes)) (length q.bytes % 4096 == 0) a.0 in
      let d = and_parts (nat_le w.base q.start && ((q.start - w.base) % 4096 == 0)) (nat_lt 0 (length q.bytes)) b.0 in
      let f = and_parts (nat_le w.base q.start) ((q.start - w.base) % 4096 == 0) d.0 in
      (leb-true w.base q.start f.0, leb-true (q.start + length q.bytes) (w.base + 4096 * w.pages) a.1)

  place_in_space : (c : Cell) → In c w.cells → (p : SecPlace) → In p c.places → (w.base ≤ p.start) × (p.start ≤ w.base + 4096 * w.pages)
  place_in_space c k p i =
      let s = In-map (λ (s : ObjectSection). s.number) c.object.sections p.section (subst (λ (ns : List ℕ). In p.section ns) (numbers_same c k) (map-In (λ (p : SecPlace). p.section) c.places p i)) in
      let at : start_of c.placed s.0.number ≡ p.start = ap (start_of c.placed) (sym s.2) ∙ start_found c k p i in
      let q = section_inside w regions apart placed objects c k s.0 s.1 in
      let e = ends_in_space q.0 q.1 in
      (omega (arith, e.0, q.2, at), omega (arith, e.1, q.3, at))

  pub places_in_space : All (λ c. All (λ p. (w.base ≤ p.start) × (p.start ≤ w.base + 4096 * w.pages)) c.places) w.cells
  places_in_space = In-All (λ (c : Cell). All (λ (p : SecPlace). (w.base ≤ p.start) × (p.start ≤ w.base + 4096 * w.pages)) c.places) w.cells
      (λ c k. In-All (λ (p : SecPlace). (w.base ≤ p.start) × (p.start ≤ w.base + 4096 * w.pages)) c.places (λ p i. place_in_space c k p i))
