-- The classes of new cells take the runs that the page table gives, one after another.
use Rattle.std.proofs.Common.{◌≡◌, refl, sym, ◌∙◌, ap, subst, arith, ℕ, zero, suc, ◌+◌, ◌*◌, ◌≤◌, ◌<◌, ◌⊎◌, inl, inr, Bool, true, false, not, List, [], ◌∷◌, ◌++◌, map, length, append_assoc, true≢false, Option, Some, None, Ok, Err}
use Rattle.std.specs.Prelude.{◌/◌, ◌%◌, nat_lt, slice_index_or}
use Rattle.std.proofs.lemmas.Bool.{cases_lt}
use Rattle.std.proofs.lemmas.List.{map-append, length-map}
use Rattle.cell_num.specs.Lists.{from_on, upto, In}
use Rattle.cell_object.specs.declared.object.Object.{Object}
use Rattle.cell_object.specs.declared.object.Section.{Section as ObjectSection}
use Rattle.cell_world.specs.World.{World, Cell}
use Rattle.cell_world.specs.Outcome.{Outcome, ◌>>=◌}
use Rattle.cell_world.specs.Placed.Layout.{sections_in, image_of, laid_out, permission_of}
use Rattle.cell_world.specs.declared.layout.Starts.{Starts}
use Rattle.cell_world.specs.declared.layout.Class.TheVariants.{Text, ReadOnly, Writable}
use Rattle.cell_world.specs.declared.layout.Class.{Class}
use Rattle.cell_world.specs.Placed.Pages.{is_free, is_free_run, lowest_run, longest_run, filled}
use Rattle.cell_world.specs.Placed.Place.{Placing, is_taken, page_table, with_run, with_places, place_sections, place_class, place_cell, place_all}
use Rattle.cell_world.specs.declared.refusal.Refusal.TheVariants.{Exhausted}
use Rattle.cell_lemmas.proofs.Placement.NewPlaced.{in_order, one_changes}
use Rattle.cell_lemmas.proofs.Naming.Renamed.{bare, pairs_bare}
use Rattle.cell_lemmas.specs.Loads.{Taken, take_for, take_class, AllTaken, ManyTaken, take_runs, take_all, with_run_of, with_classes, with_all, objects_of, placed_cell, placed_cells}
use Rattle.cell_lemmas.proofs.Binds.{bind_map, bind_assoc, bind_same, bind_ok, ok_same}
use Rattle.cell_num.proofs.Elements.{all-In, found-In}
use Rattle.cell_lemmas.proofs.Placement.LoadOffsets.{image_pages}
use Rattle.cell_lemmas.proofs.Placement.LoadTables.{table_with, length-from}

past_table : (table : List Bool) (k : ℕ) → length table ≤ k → slice_index_or table k true ≡ true
past_table [] k h = refl
past_table (b ∷ table) zero h = absurd (omega (arith, h))
past_table (b ∷ table) (suc k) h = past_table table k (omega (arith, h))

last-In : (n a : ℕ) → In (a + n) (from_on a (suc n))
last-In zero a = inl (omega arith)
last-In (suc n) a = inr (subst (λ (k : ℕ). In k (from_on (suc a) (suc n))) (omega arith) (last-In n (suc a)))

not_true : (b : Bool) → not b ≡ true → b ≡ false
not_true true h = absurd (true≢false (sym h))
not_true false h = refl

-- a free run ends in the table
run_inside : (table : List Bool) (page n : ℕ) → 0 < n → is_free_run table page n ≡ true → page + n ≤ length table
run_inside table page zero l h = absurd (omega (arith, l))
run_inside table page (suc n) l h = go (cases_lt (page + n) (length table))
  where
    free : slice_index_or table (page + n) true ≡ false
    free = not_true _ (all-In (is_free table) (from_on page (suc n)) h (page + n) (last-In n page))

    go : (page + n < length table) ⊎ (length table ≤ page + n) → page + suc n ≤ length table
    go (inl m) = omega (arith, m)
    go (inr m) = absurd (true≢false (sym (past_table table (page + n) m) ∙ free))

pub lowest_inside : (table : List Bool) (n page : ℕ) → 0 < n → lowest_run table n ≡ Some page → page + n ≤ length table
lowest_inside table n page l e = run_inside table page n l (found-In (λ page. is_free_run table page n) (upto (length table)) page e).1

table_length : (w : World) → length (page_table w) ≡ w.pages
table_length w = length-map (upto w.pages) (is_taken w) ∙ length-from 0 w.pages

-- the world with a class's run
abbrev pub with_class_in : World → Class → List ObjectSection → ℕ → World
with_class_in u class ss start = record u { regions = with_run_of start class ss u.regions }

module _ (u : World) (class : Class) where
  abbrev placing : List ObjectSection → Taken → Placing
  placing ss t = record { world = with_class_in u class ss t.start; start = t.start }

  pub class_is : (ss : List ObjectSection) → place_sections u class ss ≡ (take_for u.base (page_table u) ss >>= (λ t. Ok (placing ss t)))
  class_is [] = refl
  class_is (s ∷ rest) = go (lowest_run (page_table u) (length (image_of (s ∷ rest)) / 4096))
    where
      n : ℕ
      n = length (image_of (s ∷ rest)) / 4096

      go : (o : Option ℕ)
          → (elim o as (λ _. Outcome ℕ) [ None ↦ Err (Exhausted n (longest_run (page_table u))) | Some page ↦ Ok (u.base + 4096 * page) ] >>= (λ start. Ok (with_run u class (s ∷ rest) start)))
          ≡ (elim o as (λ _. Outcome Taken) [ None ↦ Err (Exhausted n (longest_run (page_table u))) | Some page ↦ Ok (record { start = u.base + 4096 * page; table = filled (page_table u) page n true }) ] >>= (λ t. Ok (placing (s ∷ rest) t)))
      go None = refl
      go (Some page) = refl

  pub class_table : (ss : List ObjectSection) (t : Taken) → take_for u.base (page_table u) ss ≡ Ok t → page_table (with_class_in u class ss t.start) ≡ t.table
  class_table [] t e = ap (λ (t : Taken). t.table) (ok_same (record { start = 0; table = page_table u }) t e)
  class_table (s ∷ rest) t e = go (lowest_run (page_table u) (length (image_of (s ∷ rest)) / 4096)) refl e
    where
      n : ℕ
      n = length (image_of (s ∷ rest)) / 4096

      pages : (0 < length (image_of (s ∷ rest))) × (length (image_of (s ∷ rest)) % 4096 ≡ 0)
      pages = image_pages (laid_out [] (s ∷ rest))

      go : (o : Option ℕ) → lowest_run (page_table u) (length (image_of (s ∷ rest)) / 4096) ≡ o
          → elim o as (λ _. Outcome Taken) [ None ↦ Err (Exhausted (length (image_of (s ∷ rest)) / 4096) (longest_run (page_table u))) | Some page ↦ Ok (record { start = u.base + 4096 * page; table = filled (page_table u) page (length (image_of (s ∷ rest)) / 4096) true }) ] ≡ Ok t
          → page_table (with_class_in u class (s ∷ rest) t.start) ≡ t.table
      go None low k = cc
      go (Some page) low k =
          let fits : page + length (image_of (s ∷ rest)) / 4096 ≤ length (page_table u) = lowest_inside (page_table u) (length (image_of (s ∷ rest)) / 4096) page (omega (arith, pages)) low in
          let same = ok_same (record { start = u.base + 4096 * page; table = filled (page_table u) page (length (image_of (s ∷ rest)) / 4096) true }) t k in
          subst (λ (t : Taken). page_table (with_class_in u class (s ∷ rest) t.start) ≡ t.table) same
          (table_with u (record { start = u.base + 4096 * page; permission = permission_of class; bytes = image_of (s ∷ rest) }) page (length (image_of (s ∷ rest)) / 4096) refl (omega (arith, pages)) (omega (arith, fits, table_length u)))

abbrev three_starts : ℕ → ℕ → ℕ → Starts
three_starts a b c = record { text = a; read_only = b; writable = c }

module _ (v : World) (number : ℕ) (o : Object) where
  abbrev finished : World → Starts → World
  finished u starts = record u { cells = map (with_places number starts) v.cells }

  abbrev last_class : World → ℕ → ℕ → Outcome World
  last_class u a b = place_class u Writable o >>= (λ writable. Ok (finished writable.world (three_starts a b writable.start)))

  abbrev last_taken : World → List Bool → ℕ → ℕ → Outcome World
  last_taken u table a b = take_class u.base table Writable o >>= (λ t. Ok (finished (with_class_in u Writable (sections_in Writable o) t.start) (three_starts a b t.start)))

  third : (u : World) (a b : ℕ) → last_class u a b ≡ last_taken u (page_table u) a b
  third u a b =
      ap (λ p. p >>= (λ writable. Ok (finished writable.world (three_starts a b writable.start)))) (class_is u Writable (sections_in Writable o))
      ∙ bind_map (take_class u.base (page_table u) Writable o) _ (λ writable. Ok (finished writable.world (three_starts a b writable.start)))

  abbrev two_classes : World → ℕ → Outcome World
  two_classes u a = place_class u ReadOnly o >>= (λ read_only. last_class read_only.world a read_only.start)

  abbrev two_taken : World → List Bool → ℕ → Outcome World
  two_taken u table a = take_class u.base table ReadOnly o >>= (λ t. last_taken (with_class_in u ReadOnly (sections_in ReadOnly o) t.start) t.table a t.start)

  second : (u : World) (a : ℕ) → two_classes u a ≡ two_taken u (page_table u) a
  second u a =
      ap (λ p. p >>= (λ read_only. last_class read_only.world a read_only.start)) (class_is u ReadOnly (sections_in ReadOnly o))
      ∙ (bind_map (take_class u.base (page_table u) ReadOnly o) _ (λ read_only. last_class read_only.world a read_only.start)
      ∙ bind_same (take_class u.base (page_table u) ReadOnly o) _ _ (λ t e.
      let more : World = with_class_in u ReadOnly (sections_in ReadOnly o) t.start in
      third more a t.start ∙ ap (λ table. last_taken more table a t.start) (class_table u ReadOnly (sections_in ReadOnly o) t e)))

  abbrev all_taken : World → List Bool → Outcome World
  all_taken u table = take_class u.base table Text o >>= (λ t. two_taken (with_class_in u Text (sections_in Text o) t.start) t.table t.start)

  first_class : (u : World) → (place_class u Text o >>= (λ text. two_classes text.world text.start)) ≡ all_taken u (page_table u)
  first_class u =
      ap (λ p. p >>= (λ text. two_classes text.world text.start)) (class_is u Text (sections_in Text o))
      ∙ (bind_map (take_class u.base (page_table u) Text o) _ (λ text. two_classes text.world text.start)
      ∙ bind_same (take_class u.base (page_table u) Text o) _ _ (λ t e.
      let more : World = with_class_in u Text (sections_in Text o) t.start in
      second more t.start ∙ ap (λ table. two_taken more table t.start) (class_table u Text (sections_in Text o) t e)))

  -- the starts first, and then the world
  pub runs_first : (u : World) → all_taken u (page_table u) ≡ (take_runs u.base (page_table u) o >>= (λ t. Ok (finished (record u { regions = with_classes t.starts o u.regions }) t.starts)))
  runs_first u = sym
      (bind_assoc (take_class u.base (page_table u) Text o) _ _
      ∙ bind_same (take_class u.base (page_table u) Text o) _ _ (λ t e.
      bind_assoc (take_class u.base t.table ReadOnly o) _ _
      ∙ bind_same (take_class u.base t.table ReadOnly o) _ _ (λ r f.
      bind_map (take_class u.base r.table Writable o) _ _)))

-- the page table with the runs of all classes
module _ (o : Object) where
  pub runs_table : (u : World) (t : AllTaken) → take_runs u.base (page_table u) o ≡ Ok t → page_table (record u { regions = with_classes t.starts o u.regions }) ≡ t.table
  runs_table u t h =
      let x = bind_ok (take_class u.base (page_table u) Text o) _ t h in
      let u1 : World = with_class_in u Text (sections_in Text o) x.0.start in
      let e1 : page_table u1 ≡ x.0.table = class_table u Text (sections_in Text o) x.0 x.1 in
      let y = bind_ok (take_class u.base x.0.table ReadOnly o) _ t x.2 in
      let u2 : World = with_class_in u1 ReadOnly (sections_in ReadOnly o) y.0.start in
      let e2 : page_table u2 ≡ y.0.table = class_table u1 ReadOnly (sections_in ReadOnly o) y.0 (ap (λ table. take_class u.base table ReadOnly o) e1 ∙ y.1) in
      let z = bind_ok (take_class u.base y.0.table Writable o) _ t y.2 in
      let u3 : World = with_class_in u2 Writable (sections_in Writable o) z.0.start in
      let e3 : page_table u3 ≡ z.0.table = class_table u2 Writable (sections_in Writable o) z.0 (ap (λ table. take_class u.base table Writable o) e2 ∙ z.1) in
      let same = ok_same (record { starts = three_starts x.0.start y.0.start z.0.start; table = z.0.table }) t z.2 in
      subst (λ (t : AllTaken). page_table (record u { regions = with_classes t.starts o u.regions }) ≡ t.table) same e3

-- numbers of cells don't change by places
order_placed : (before rest : List Cell) (starts : Starts) (c : Cell) → in_order (before ++ c ∷ rest) ≡ true → in_order (before ++ placed_cell starts c ∷ rest) ≡ true
order_placed before rest starts c order =
    pairs_bare (λ a b. nat_lt a.id.0 b.id.0) (λ a b. refl) (before ++ placed_cell starts c ∷ rest) (before ++ c ∷ rest)
    (map-append bare before (placed_cell starts c ∷ rest) ∙ sym (map-append bare before (c ∷ rest))) order

-- one cell comes to stand where its classes' runs are, or no run is long enough
abbrev one_after : List Cell → List Cell → World → Cell → AllTaken → World
one_after before rest u c t = record u { cells = before ++ placed_cell t.starts c ∷ rest; regions = with_classes t.starts c.object u.regions }

one_is : (before rest : List Cell) (u : World) (c : Cell) → u.cells ≡ before ++ c ∷ rest → in_order u.cells ≡ true
    → place_cell u c ≡ (take_runs u.base (page_table u) c.object >>= (λ t. Ok (one_after before rest u c t)))
one_is before rest u c e order =
    first_class u c.id.0 c.object u
    ∙ (runs_first u c.id.0 c.object u
    ∙ bind_same (take_runs u.base (page_table u) c.object) _ _ (λ t k.
    ap (λ (cells : List Cell). Ok (record u { cells = cells; regions = with_classes t.starts c.object u.regions }))
    (ap (map (with_places c.id.0 t.starts)) e ∙ one_changes before rest c t.starts (subst (λ (cs : List Cell). in_order cs ≡ true) e order))))

abbrev all_after : List Cell → List Cell → World → ManyTaken → World
all_after before cells u t = record u { cells = before ++ placed_cells t.starts cells; regions = with_all t.starts (objects_of cells) u.regions }

abbrev rest_taken : AllTaken → ManyTaken → ManyTaken
rest_taken t m = record { starts = t.starts ∷ m.starts; table = m.table }

module _ (before rest : List Cell) (u : World) (c : Cell) (t : AllTaken) where
  abbrev next : World
  next = one_after before rest u c t

  abbrev so_far : List Cell
  so_far = before ++ placed_cell t.starts c ∷ []

  -- the others after it
  rest_is : take_runs u.base (page_table u) c.object ≡ Ok t
      → place_all next rest ≡ (take_all next.base (page_table next) (objects_of rest) >>= (λ m. Ok (all_after so_far rest next m)))
      → place_all next rest ≡ ((take_all u.base t.table (objects_of rest) >>= (λ m. Ok (rest_taken t m))) >>= (λ t. Ok (all_after before (c ∷ rest) u t)))
  rest_is k more =
      more
      ∙ (ap (λ table. take_all u.base table (objects_of rest) >>= (λ m. Ok (all_after so_far rest next m))) (runs_table c.object u t k)
      ∙ (bind_same (take_all u.base t.table (objects_of rest)) _ _ (λ m h.
      ap (λ (cells : List Cell). Ok (record u { cells = cells; regions = with_all m.starts (objects_of rest) (with_classes t.starts c.object u.regions) })) (append_assoc before (placed_cell t.starts c ∷ []) (placed_cells m.starts rest)))
      ∙ sym (bind_map (take_all u.base t.table (objects_of rest)) (rest_taken t) (λ t. Ok (all_after before (c ∷ rest) u t)))))

-- the cells come to stand one after another, or for one of them no run is long enough
pub all_is : (cells before : List Cell) (u : World) → u.cells ≡ before ++ cells → in_order u.cells ≡ true
    → place_all u cells ≡ (take_all u.base (page_table u) (objects_of cells) >>= (λ t. Ok (all_after before cells u t)))
all_is [] before u e order = ap (λ (cells : List Cell). Ok (record u { cells = cells })) e
all_is (c ∷ rest) before u e order =
    ap (λ o. o >>= (λ y. place_all y rest)) (one_is before rest u c e order)
    ∙ (bind_map (take_runs u.base (page_table u) c.object) (one_after before rest u c) (λ y. place_all y rest)
    ∙ (bind_same (take_runs u.base (page_table u) c.object) _ _ (λ t k.
    rest_is before rest u c t k
    (all_is rest (before ++ placed_cell t.starts c ∷ []) (one_after before rest u c t) (sym (append_assoc before (placed_cell t.starts c ∷ []) rest))
    (order_placed before rest t.starts c (subst (λ (cs : List Cell). in_order cs ≡ true) e order))))
    ∙ sym (bind_assoc (take_runs u.base (page_table u) c.object) _ _)))

-- the page table with the runs of all objects
pub all_table : (objects : List Object) (u : World) (t : ManyTaken) → take_all u.base (page_table u) objects ≡ Ok t → page_table (record u { regions = with_all t.starts objects u.regions }) ≡ t.table
all_table [] u t e = subst (λ (t : ManyTaken). page_table (record u { regions = with_all t.starts [] u.regions }) ≡ t.table) (ok_same (record { starts = []; table = page_table u }) t e) refl
all_table (o ∷ rest) u t e =
    let a = bind_ok (take_runs u.base (page_table u) o) _ t e in
    let v : World = record u { regions = with_classes a.0.starts o u.regions } in
    let table : page_table v ≡ a.0.table = runs_table o u a.0 a.1 in
    let b = bind_ok (take_all u.base a.0.table rest) _ t a.2 in
    let more = all_table rest v b.0 (ap (λ table. take_all u.base table rest) table ∙ b.1) in
    subst (λ (t : ManyTaken). page_table (record u { regions = with_all t.starts (o ∷ rest) u.regions }) ≡ t.table) (ok_same (rest_taken a.0 b.0) t b.2) more

-- the objects before come first
pub all_append : (base : ℕ) (table : List Bool) (xs ys : List Object)
    → take_all base table (xs ++ ys)
    ≡ (take_all base table xs >>= (λ m. take_all base m.table ys >>= (λ k. Ok (record { starts = m.starts ++ k.starts; table = k.table }))))
all_append base table [] ys = sym (all_again (take_all base table ys))
  where
    all_again : (o : Outcome ManyTaken) → (o >>= (λ k. Ok (record { starts = k.starts; table = k.table }))) ≡ o
    all_again (Ok k) = refl
    all_again (Err r) = refl
all_append base table (x ∷ xs) ys =
    bind_same (take_runs base table x) _ _ (λ t e.
    ap (λ o. o >>= (λ k. Ok (rest_taken t k))) (all_append base t.table xs ys)
    ∙ (bind_assoc (take_all base t.table xs) _ _
    ∙ bind_same (take_all base t.table xs) _ _ (λ m h.
    bind_map (take_all base m.table ys) _ _)
    ∙ sym (bind_map (take_all base t.table xs) (rest_taken t) _)))
    ∙ sym (bind_assoc (take_runs base table x) _ _)
