-- A look at bearers in their order may stop where nobody behind is sooner.
use Rattle.std.proofs.Common.{◌≡◌, refl, sym, ◌∙◌, ap, ap₂, subst, arith, ℕ, suc, ◌+◌, ◌-◌, ◌<◌, ◌≤◌, Bool, true, false, cond, ◌⊎◌, inl, inr, List, [], ◌∷◌, ◌++◌, length, get_or, take, drop, true≢false, take-append-drop}
use Rattle.std.specs.Prelude.{Option, Some, None, nat_lt, option_map, filter_map, flat_map, find}
use Rattle.std.specs.List.{cons_option, list_all, list_any}
use Rattle.std.specs.List.Sorted.{IsPartitionPoint, IsPartitionedBy}
use Rattle.std.proofs.lemmas.Bool.{and_from, and_parts, le-leb, le-ltb, leb-true, ltb-false, ltb-true}
use Rattle.std.proofs.lemmas.List.{drop_at, drop_more, get_or_append_left, get_or-append_right, length-append, take_at}
use Rattle.std.proofs.lemmas.Option.{slice_get-get_or}
use Rattle.cell_num.specs.Lists.{In, each_pair, numbered, numbered_from, or_else, where_true}
use Rattle.cell_num.proofs.Elements.{In-all, In-append, In-none, all-In, get-In, none-In}
use Rattle.cell_object.specs.declared.object.Object.{Object}
use Rattle.cell_object.specs.declared.object.Symbol.{Symbol}
use Rattle.cell_audit.specs.declared.written.WrittenAlias.{WrittenAlias}
use Rattle.cell_described.specs.declared.cell.DescribedCell.{DescribedCell}
use Rattle.cell_bearers.specs.Bearers.{alias_bearer, answer, answer_of, bearers_of, cell_bearers, is_alias, is_named, object_bearers, symbol_bearer}
use Rattle.cell_bearers.specs.Found.{at_place, found_by, sooner}
use Rattle.cell_bearers.specs.Ordered.{AreOrdered, is_at_most, is_object, is_past, is_up_to}
use Rattle.cell_bearers.specs.Seeing.{IsUpTo, first_at, first_from, seen_at}
use Rattle.cell_bearers.specs.Sight.{IsSight, sees_by}
use Rattle.cell_bearers.specs.declared.bearer.Bearer.{Bearer}
use Rattle.cell_bearers.specs.declared.bearer.Bearer.TheVariants.{Object as ObjectBearer, Cell as CellBearer}
use Rattle.cell_bearers.specs.declared.first.FirstBearer.{FirstBearer}
use Rattle.cell_bearers.specs.declared.sight.Sight.{Sight}
use Rattle.cell_bearers.proofs.FirstSeen.{found_cell, found_object}
use Rattle.cell_bearers.proofs.Sooner.{answers_join, both, nobody, said_same}

one_first : (a b : FirstBearer) → Some a ≡ Some b → a ≡ b
one_first a b e = cc

one_place : (a b : ℕ) → Some a ≡ Some b → a ≡ b
one_place a b e = cc

none_some : {X : Type 0} (x : X) → None ≡ Some x → ⊥
none_some x e = cc

up_to_there : (place : ℕ) (m : Option ℕ) (c : ℕ) → is_at_most place m ≡ true → IsUpTo m c → place ≤ c
up_to_there place None c low u = absurd u
up_to_there place (Some m) c low u = let k = leb-true place m low in omega (arith, k, u)

module _ (s : Sight) where
  -- all that are found of these are at the place or behind
  abbrev IsLate : ℕ → Bearer → Type 0
  IsLate place x = (b : FirstBearer) → found_by s (answer x) ≡ Some b → place ≤ b.cell

  pub found_join : (xs ys : List Bearer) → found_by s (answer_of (xs ++ ys)) ≡ sooner (found_by s (answer_of xs)) (found_by s (answer_of ys))
  found_join xs ys =
      said_same (sees_by s) (answer_of (xs ++ ys)) (λ p. or_else (answer_of xs p) (answer_of ys p)) 0 s.cells.now (λ p. answers_join xs ys p)
      ∙ both (sees_by s) (answer_of xs) (answer_of ys) 0 s.cells.now

  sooner_late : (place : ℕ) (o q : Option FirstBearer) → ((b : FirstBearer) → o ≡ Some b → place ≤ b.cell) → ((b : FirstBearer) → q ≡ Some b → place ≤ b.cell) → (b : FirstBearer) → sooner o q ≡ Some b → place ≤ b.cell
  sooner_late place None q f g b e = g b e
  sooner_late place (Some x) None f g b e = f b e
  sooner_late place (Some x) (Some y) f g b e = go (nat_lt y.cell x.cell) e
    where
      go : (t : Bool) → Some (cond t y x) ≡ Some b → place ≤ b.cell
      go true e = g b e
      go false e = f b e

  all_late : (place : ℕ) (xs : List Bearer) → ((x : Bearer) → In x xs → IsLate place x) → (b : FirstBearer) → found_by s (answer_of xs) ≡ Some b → place ≤ b.cell
  all_late place [] f b e = absurd (none_some b (sym (nobody (sees_by s) 0 s.cells.now) ∙ e))
  all_late place (x ∷ xs) f b e =
      sooner_late place (found_by s (answer x)) (found_by s (answer_of xs)) (f x (inl refl)) (all_late place xs (λ y k. f y (inr k))) b
      (sym (both (sees_by s) (answer x) (answer_of xs) 0 s.cells.now) ∙ e)

  stays : (a : FirstBearer) (o : Option FirstBearer) → ((b : FirstBearer) → o ≡ Some b → a.cell ≤ b.cell) → sooner (Some a) o ≡ Some a
  stays a None f = refl
  stays a (Some b) f = ap (λ (t : Bool). Some (cond t b a)) (le-ltb b.cell a.cell (f b refl))

  module _ (is : IsSight s) where
    object_late : (place o b : ℕ) (y : ℕ) → is_at_most place (first_at s.soonest.items o) ≡ true → o ≤ b → IsLate place (ObjectBearer b y)
    object_late place o b y low le x e = go (first_from (sees_by s) b 0 s.cells.now) refl
      where
        told : (q : Option ℕ) → first_from (sees_by s) b 0 s.cells.now ≡ q → option_map (λ cell. at_place cell y) q ≡ Some x
        told q f = sym (found_object (sees_by s) b y 0 s.cells.now ∙ ap (option_map (λ cell. at_place cell y)) f) ∙ e

        go : (q : Option ℕ) → first_from (sees_by s) b 0 s.cells.now ≡ q → place ≤ x.cell
        go None f = absurd (none_some x (told None f))
        go (Some c) f =
            let k = up_to_there place (first_at s.soonest.items o) c low (is.soonest o b c le (is.firsts b ∙ f)) in
            let w : c ≡ x.cell = ap (λ (z : FirstBearer). z.cell) (one_first (at_place c y) x (told (Some c) f)) in
            omega (arith, k, w)

    cell_late : (place c : ℕ) (y : ℕ) → place ≤ c → IsLate place (CellBearer c y)
    cell_late place c y le x e = go (seen_at (sees_by s) s.cells.now c) (sym (found_cell (sees_by s) c y 0 c s.cells.now (omega arith)) ∙ e)
      where
        go : (t : Bool) → cond t (Some (at_place c y)) None ≡ Some x → place ≤ x.cell
        go true f = let k : c ≡ x.cell = ap (λ (z : FirstBearer). z.cell) (one_first (at_place c y) x f) in omega (arith, k, le)
        go false f = absurd (none_some x f)

    -- nobody at a bearer or behind it
    late_from : (a : FirstBearer) (x y : Bearer) → is_past s (Some a) x ≡ true → is_up_to x y ≡ true → IsLate a.cell y
    late_from a (ObjectBearer o p) (ObjectBearer b y) low up = object_late a.cell o b y low (leb-true o b up)
    late_from a (ObjectBearer o p) (CellBearer c y) low up = absurd (true≢false (sym up))
    late_from a (CellBearer c p) (ObjectBearer b y) low up = absurd (true≢false (sym up))
    late_from a (CellBearer c p) (CellBearer d y) low up = let k = leb-true a.cell c low in let l = leb-true c d up in cell_late a.cell d y (omega (arith, k, l))

    up_to_itself : (x : Bearer) → is_up_to x x ≡ true
    up_to_itself (ObjectBearer o p) = le-leb o o (omega arith)
    up_to_itself (CellBearer c p) = le-leb c c (omega arith)

    pairs_left : (t : Bearer → Bearer → Bool) (xs ys : List Bearer) → each_pair t (xs ++ ys) ≡ true → each_pair t ys ≡ true
    pairs_left t [] ys h = h
    pairs_left t (x ∷ xs) ys h = pairs_left t xs ys (and_parts (list_all (t x) (xs ++ ys)) (each_pair t (xs ++ ys)) h).1

    late_behind : (a : FirstBearer) (x : Bearer) (rest : List Bearer) → each_pair is_up_to (x ∷ rest) ≡ true → is_past s (Some a) x ≡ true → (y : Bearer) → In y (x ∷ rest) → IsLate a.cell y
    late_behind a x rest rises low y (inl e) = subst (λ (z : Bearer). IsLate a.cell z) (sym e) (late_from a x x low (up_to_itself x))
    late_behind a x rest rises low y (inr k) = late_from a x y low (all-In (is_up_to x) rest (and_parts (list_all (is_up_to x) rest) (each_pair is_up_to rest) rises).0 y k)

    -- so the first so far is the first of all
    pub stopped : (bearers : List Bearer) (i : ℕ) (d : Bearer) (first : Option FirstBearer) → i < length bearers → each_pair is_up_to bearers ≡ true
        → first ≡ found_by s (answer_of (take i bearers)) → is_past s first (get_or bearers i d) ≡ true → first ≡ found_by s (answer_of bearers)
    stopped bearers i d None lt rises far low = absurd (true≢false (sym low))
    stopped bearers i d (Some a) lt rises far low =
        let rest = drop (i + 1) bearers in
        let x = get_or bearers i d in
        let begins = drop_more bearers i d lt in
        let behind = pairs_left is_up_to (take i bearers) (drop i bearers) (ap (each_pair is_up_to) (take-append-drop i bearers) ∙ rises) in
        let rising = ap (each_pair is_up_to) (sym begins) ∙ behind in
        sym (stays a (found_by s (answer_of (x ∷ rest))) (all_late a.cell (x ∷ rest) (late_behind a x rest rising low)))
        ∙ (ap₂ sooner far (ap (λ (ys : List Bearer). found_by s (answer_of ys)) (sym begins))
        ∙ (sym (found_join (take i bearers) (drop i bearers)) ∙ ap (λ (ys : List Bearer). found_by s (answer_of ys)) (take-append-drop i bearers)))

-- ---- objects and cells
module _ (objects cells : List Bearer) (all : list_all is_object objects ≡ true) (none : list_any is_object cells ≡ false) where
  abbrev whole : List Bearer
  whole = objects ++ cells

  in_front : (k : ℕ) (d : Bearer) → k < length objects → is_object (get_or whole k d) ≡ true
  in_front k d lt =
      ap is_object (get_or_append_left objects cells d k lt)
      ∙ all-In is_object objects all (get_or objects k d) (get-In objects k (get_or objects k d) (slice_get-get_or objects k d lt))

  in_back : (k : ℕ) (d : Bearer) → length objects ≤ k → k < length whole → is_object (get_or whole k d) ≡ false
  in_back k d le lt =
      let size = length-append objects cells in
      let inside : k - length objects < length cells = omega (arith, size, le, lt) in
      ap is_object (get_or-append_right objects cells (length objects) k d refl le)
      ∙ none-In is_object cells none (get_or cells (k - length objects) d) (get-In cells (k - length objects) (get_or cells (k - length objects) d) (slice_get-get_or cells (k - length objects) d inside))

  parted : IsPartitionedBy is_object whole
  parted i j d le lt e = go (nat_lt j (length objects)) refl
    where
      go : (t : Bool) → nat_lt j (length objects) ≡ t → is_object (get_or whole i d) ≡ true
      go true f = let k = ltb-true j (length objects) f in in_front i d (omega (arith, k, le))
      go false f = let k = ltb-false j (length objects) f in absurd (true≢false (sym e ∙ in_back j d (omega (arith, k)) lt))

  pub count_is : (count : ℕ) → count ≤ length whole → (IsPartitionedBy is_object whole → IsPartitionPoint (λ b. is_object b ≡ true) (λ b. is_object b ≡ false) whole count) → count ≡ length objects
  count_is count within law = go (nat_lt count (length objects)) refl (nat_lt (length objects) count) refl
    where
      d : Bearer
      d = ObjectBearer 0 0

      point : IsPartitionPoint (λ b. is_object b ≡ true) (λ b. is_object b ≡ false) whole count
      point = law parted

      size : length whole ≡ length objects + length cells
      size = length-append objects cells

      go : (t : Bool) → nat_lt count (length objects) ≡ t → (u : Bool) → nat_lt (length objects) count ≡ u → count ≡ length objects
      go true e u f =
          let k = ltb-true count (length objects) e in
          let n = size in
          absurd (true≢false (sym (in_front count d k) ∙ point.1 count d (omega arith) (omega (arith, k, n))))
      go false e true f =
          let k = ltb-true (length objects) count f in
          absurd (true≢false (sym (point.0 (length objects) d (omega arith) k) ∙ in_back (length objects) d (omega arith) (omega (arith, k, within))))
      go false e false f =
          let k = ltb-false count (length objects) e in
          let l = ltb-false (length objects) count f in
          omega (arith, k, l)

-- the two parts
pub parts_found : (s : Sight) (bearers : List Bearer) (ordered : AreOrdered bearers) (count : ℕ) (first second : Option FirstBearer) (front back : List Bearer)
    → count ≤ length bearers → (IsPartitionedBy is_object bearers → IsPartitionPoint (λ b. is_object b ≡ true) (λ b. is_object b ≡ false) bearers count)
    → front ≡ take count bearers → back ≡ drop count bearers
    → (each_pair is_up_to front ≡ true → first ≡ found_by s (answer_of front)) → (each_pair is_up_to back ≡ true → second ≡ found_by s (answer_of back))
    → sooner first second ≡ found_by s (answer_of bearers)
parts_found s bearers ordered count first second front back within law is_front is_back f g =
    let objects = ordered.objects in
    let cells = ordered.cells in
    let counted = count_is objects cells ordered.all_objects ordered.no_objects count (subst (λ (bs : List Bearer). count ≤ length bs) ordered.parts within)
    (subst (λ (bs : List Bearer). IsPartitionedBy is_object bs → IsPartitionPoint (λ b. is_object b ≡ true) (λ b. is_object b ≡ false) bs count) ordered.parts law) in
    let one : front ≡ objects = is_front ∙ (ap (take count) ordered.parts ∙ take_at objects cells count (sym counted)) in
    let two : back ≡ cells = is_back ∙ (ap (drop count) ordered.parts ∙ drop_at objects cells count (sym counted)) in
    ap₂ sooner (f (ap (each_pair is_up_to) one ∙ ordered.objects_rise) ∙ ap (λ (bs : List Bearer). found_by s (answer_of bs)) one)
    (g (ap (each_pair is_up_to) two ∙ ordered.cells_rise) ∙ ap (λ (bs : List Bearer). found_by s (answer_of bs)) two)
    ∙ (sym (found_join s objects cells) ∙ ap (λ (bs : List Bearer). found_by s (answer_of bs)) (sym ordered.parts))

-- ---- the bearers of a name are in their order
module _ (file name : List ℕ) where
  -- the bearer is the object of that place or of one behind it
  abbrev IsFrom : ℕ → Bearer → Type 0
  IsFrom m (ObjectBearer o y) = m ≤ o
  IsFrom m (CellBearer c y) = ⊥

  abbrev IsCellFrom : ℕ → Bearer → Type 0
  IsCellFrom m (ObjectBearer o y) = ⊥
  IsCellFrom m (CellBearer c y) = m ≤ c

  pairs_join : (xs ys : List Bearer) → each_pair is_up_to xs ≡ true → each_pair is_up_to ys ≡ true → ((x y : Bearer) → In x xs → In y ys → is_up_to x y ≡ true) → each_pair is_up_to (xs ++ ys) ≡ true
  pairs_join [] ys a b f = b
  pairs_join (x ∷ xs) ys a b f =
      let parts = and_parts (list_all (is_up_to x) xs) (each_pair is_up_to xs) a in
      and_from (list_all (is_up_to x) (xs ++ ys)) (each_pair is_up_to (xs ++ ys))
      (In-all (is_up_to x) (xs ++ ys) (λ z k. go z (In-append xs ys z k)))
      (pairs_join xs ys parts.1 b (λ z y k l. f z y (inr k) l))
    where
      go : (z : Bearer) → In z xs ⊎ In z ys → is_up_to x z ≡ true
      go z (inl k) = all-In (is_up_to x) xs (and_parts (list_all (is_up_to x) xs) (each_pair is_up_to xs) a).0 z k
      go z (inr k) = f x z (inl refl) k

  -- ---- one object
  of_one : (object k : ℕ) (symbols : List Symbol) (z : Bearer) → In z (filter_map (symbol_bearer object name) (numbered_from k symbols)) → (y : ℕ) × (z ≡ ObjectBearer object y)
  of_one object k [] z m = absurd m
  of_one object k (x ∷ symbols) z m = go (is_named name x) m (of_one object (suc k) symbols z)
    where
      go : (t : Bool) → In z (cons_option (where_true t (ObjectBearer object k)) (filter_map (symbol_bearer object name) (numbered_from (suc k) symbols)))
          → (In z (filter_map (symbol_bearer object name) (numbered_from (suc k) symbols)) → (y : ℕ) × (z ≡ ObjectBearer object y)) → (y : ℕ) × (z ≡ ObjectBearer object y)
      go true (inl e) ih = (k, e)
      go true (inr l) ih = ih l
      go false l ih = ih l

  equal_rise : (object : ℕ) (xs : List Bearer) → ((z : Bearer) → In z xs → (y : ℕ) × (z ≡ ObjectBearer object y)) → each_pair is_up_to xs ≡ true
  equal_rise object [] f = refl
  equal_rise object (x ∷ xs) f =
      and_from (list_all (is_up_to x) xs) (each_pair is_up_to xs)
      (In-all (is_up_to x) xs (λ z k. let a = f x (inl refl) in let b = f z (inr k) in ap₂ is_up_to a.1 b.1 ∙ le-leb object object (omega arith)))
      (equal_rise object xs (λ z k. f z (inr k)))

  later_object : (m : ℕ) (z : Bearer) → IsFrom (suc m) z → IsFrom m z
  later_object m (ObjectBearer b y) le = omega (arith, le)
  later_object m (CellBearer c y) le = le

  from_objects : (m : ℕ) (objects : List Object) (z : Bearer) → In z (flat_map (object_bearers name) (numbered_from m objects)) → IsFrom m z
  from_objects m [] z k = absurd k
  from_objects m (o ∷ objects) z k = go (In-append (object_bearers name (m, o)) (flat_map (object_bearers name) (numbered_from (suc m) objects)) z k) (from_objects (suc m) objects z)
    where
      go : In z (object_bearers name (m, o)) ⊎ In z (flat_map (object_bearers name) (numbered_from (suc m) objects)) → (In z (flat_map (object_bearers name) (numbered_from (suc m) objects)) → IsFrom (suc m) z) → IsFrom m z
      go (inl l) ih = let r = of_one m 0 o.symbols z l in subst (λ (y : Bearer). IsFrom m y) (sym r.1) (omega arith)
      go (inr l) ih = later_object m z (ih l)

  objects_rise : (m : ℕ) (objects : List Object) → each_pair is_up_to (flat_map (object_bearers name) (numbered_from m objects)) ≡ true
  objects_rise m [] = refl
  objects_rise m (o ∷ objects) =
      pairs_join (object_bearers name (m, o)) (flat_map (object_bearers name) (numbered_from (suc m) objects))
      (equal_rise m (object_bearers name (m, o)) (of_one m 0 o.symbols)) (objects_rise (suc m) objects)
      (λ x y k l. let r = of_one m 0 o.symbols x k in ap (λ (z : Bearer). is_up_to z y) r.1 ∙ after r.0 y (from_objects (suc m) objects y l))
    where
      after : (x : ℕ) (y : Bearer) → IsFrom (suc m) y → is_up_to (ObjectBearer m x) y ≡ true
      after x (ObjectBearer b y) le = le-leb m b (omega (arith, le))
      after x (CellBearer c y) le = absurd le

  later_cell : (m : ℕ) (z : Bearer) → IsCellFrom (suc m) z → IsCellFrom m z
  later_cell m (ObjectBearer b y) le = le
  later_cell m (CellBearer c y) le = omega (arith, le)

  from_cells : (m : ℕ) (cells : List DescribedCell) (z : Bearer) → In z (flat_map (cell_bearers file name) (numbered_from m cells)) → IsCellFrom m z
  from_cells m [] z k = absurd k
  from_cells m (c ∷ cells) z k = go (find (is_alias file name) c.aliases.items) k (from_cells (suc m) cells z)
    where
      go : (o : Option WrittenAlias) → In z (cons_option (option_map (alias_bearer m) o) [] ++ flat_map (cell_bearers file name) (numbered_from (suc m) cells))
          → (In z (flat_map (cell_bearers file name) (numbered_from (suc m) cells)) → IsCellFrom (suc m) z) → IsCellFrom m z
      go None l ih = later_cell m z (ih l)
      go (Some a) (inl e) ih = subst (λ (y : Bearer). IsCellFrom m y) (sym e) (omega arith)
      go (Some a) (inr l) ih = later_cell m z (ih l)

  cells_rise : (m : ℕ) (cells : List DescribedCell) → each_pair is_up_to (flat_map (cell_bearers file name) (numbered_from m cells)) ≡ true
  cells_rise m [] = refl
  cells_rise m (c ∷ cells) = go (find (is_alias file name) c.aliases.items) (cells_rise (suc m) cells)
    where
      after : (a : WrittenAlias) (y : Bearer) → IsCellFrom (suc m) y → is_up_to (alias_bearer m a) y ≡ true
      after a (ObjectBearer b y) le = absurd le
      after a (CellBearer d y) le = le-leb m d (omega (arith, le))

      go : (o : Option WrittenAlias) → each_pair is_up_to (flat_map (cell_bearers file name) (numbered_from (suc m) cells)) ≡ true
          → each_pair is_up_to (cons_option (option_map (alias_bearer m) o) [] ++ flat_map (cell_bearers file name) (numbered_from (suc m) cells)) ≡ true
      go None ih = ih
      go (Some a) ih =
          and_from (list_all (is_up_to (alias_bearer m a)) (flat_map (cell_bearers file name) (numbered_from (suc m) cells))) (each_pair is_up_to (flat_map (cell_bearers file name) (numbered_from (suc m) cells)))
          (In-all (is_up_to (alias_bearer m a)) (flat_map (cell_bearers file name) (numbered_from (suc m) cells)) (λ y l. after a y (from_cells (suc m) cells y l)))
          ih

  an_object : (m : ℕ) (z : Bearer) → IsFrom m z → is_object z ≡ true
  an_object m (ObjectBearer o y) k = refl
  an_object m (CellBearer c y) k = absurd k

  a_cell : (m : ℕ) (z : Bearer) → IsCellFrom m z → is_object z ≡ false
  a_cell m (ObjectBearer o y) k = absurd k
  a_cell m (CellBearer c y) k = refl

  pub ordered : (objects : List Object) (cells : List DescribedCell) (bearers : List Bearer) → bearers ≡ bearers_of file objects cells name → AreOrdered bearers
  ordered objects cells bearers is = record {
    objects = flat_map (object_bearers name) (numbered objects);
    cells = flat_map (cell_bearers file name) (numbered cells);
    parts = is;
    all_objects = In-all is_object (flat_map (object_bearers name) (numbered objects)) (λ z k. an_object 0 z (from_objects 0 objects z k));
    no_objects = In-none is_object (flat_map (cell_bearers file name) (numbered cells)) (λ z k. a_cell 0 z (from_cells 0 cells z k));
    objects_rise = objects_rise 0 objects;
    cells_rise = cells_rise 0 cells;
  }
