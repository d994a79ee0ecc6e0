-- Each region that placing adds is that of a class of a new cell, with the class's own bytes.
use Rattle.std.proofs.Common.{◌≡◌, refl, sym, ◌∙◌, ap, subst, ℕ, ◌⊎◌, inl, inr, true, List, [], ◌∷◌, ◌++◌, map, append_assoc, Ok}
use Rattle.std.specs.Prelude.{Some, length, nat_lt, ◌/◌}
use Rattle.cell_object.specs.declared.object.Section.{Section as ObjectSection}
use Rattle.cell_object.specs.Sound.{IsSoundObject}
use Rattle.cell_world.specs.World.{World, Cell, Region}
use Rattle.cell_world.specs.Placed.Layout.{sections_in, image_of, permission_of, start_in}
use Rattle.cell_world.specs.declared.layout.Starts.{Starts}
use Rattle.cell_world.specs.declared.layout.Class.TheVariants.{Text, ReadOnly, Writable}
use Rattle.cell_world.specs.declared.layout.Class.{Class}
use Rattle.cell_world.specs.Placed.Place.{Placing, with_run, with_places, start_of_run, place_sections, place_cell, place_all}
use Rattle.cell_lemmas.specs.Grown.{IsOwn}
use Rattle.cell_num.specs.Lists.{In}
use Rattle.cell_num.proofs.Elements.{In-left}
use Rattle.cell_lemmas.proofs.Outcomes.{bind_ok}
use Rattle.cell_lemmas.proofs.Naming.Appended.{ok_same}
use Rattle.cell_lemmas.proofs.Placement.Places.{Spaced, In-inserted}
use Rattle.cell_lemmas.proofs.Placement.PlacedAll.{Placed, CellRuns, cell_runs, cell_placed}
use Rattle.cell_lemmas.proofs.Naming.Renamed.{pairs_bare}
use Rattle.cell_lemmas.proofs.Placement.OwnPlaces.{class_starts}
use Rattle.cell_lemmas.proofs.Placement.NewPlaced.{AllSound, in_order, one_changes, with_starts}

-- the region is the run of the sections, of which there is one
record IsRun (class : Class) (start : ℕ) (sections : List ObjectSection) (r : Region) : Type 0 where
  section : ObjectSection
  there : In section sections
  begins : r.start ≡ start
  permission : r.permission ≡ permission_of class
  bytes : r.bytes ≡ image_of sections

sections_new : (w : World) (class : Class) (sections : List ObjectSection) (p : Placing) → place_sections w class sections ≡ Ok p → (x : Region) → In x p.world.regions → In x w.regions ⊎ IsRun class p.start sections x
sections_new w class [] p h x k = inl (subst (λ (q : Placing). In x q.world.regions) (sym (ok_same _ p h)) k)
sections_new w class (s ∷ rest) p h x k =
    let b = bind_ok (start_of_run w (length (image_of (s ∷ rest)) / 4096)) _ p h in
    let e : with_run w class (s ∷ rest) b.0 ≡ p = ok_same (with_run w class (s ∷ rest) b.0) p b.2 in
    subst (λ (q : Placing). In x w.regions ⊎ IsRun class q.start (s ∷ rest) x) e
    (go b.0 (In-inserted (record { start = b.0; permission = permission_of class; bytes = image_of (s ∷ rest) }) x w.regions (subst (λ (q : Placing). In x q.world.regions) (sym e) k)))
  where
    go : (start : ℕ) → (x ≡ record { start = start; permission = permission_of class; bytes = image_of (s ∷ rest) }) ⊎ In x w.regions → In x w.regions ⊎ IsRun class start (s ∷ rest) x
    go start (inl e) = inr (record { section = s; there = inl refl; begins = ap (λ (r : Region). r.start) e; permission = ap (λ (r : Region). r.permission) e; bytes = ap (λ (r : Region). r.bytes) e })
    go start (inr i) = inl i

own_more : (xs ys : List Cell) (r : Region) → ((c : Cell) → In c xs → In c ys) → IsOwn xs r → IsOwn ys r
own_more xs ys r f o = record { cell = o.cell; new_cell = f o.cell o.new_cell; class = o.class; start = o.start; permission = o.permission; bytes = o.bytes }

-- what placing a cell does to the regions
record OneOwn (w : World) (c : Cell) (w' : World) : Type 0 where
  starts : Starts
  cells : w'.cells ≡ map (with_places c.id.0 starts) w.cells
  regions : (x : Region) → In x w'.regions → In x w.regions ⊎ IsOwn (with_starts starts c ∷ []) x

one_own : (w : World) (c : Cell) (w' : World) → IsSoundObject c.object → place_cell w c ≡ Ok w' → OneOwn w c w'
one_own w c w' sound h = subst (OneOwn w c) r.is (record { starts = starts; cells = refl; regions = λ x k. third x (sections_new r.read_only.world Writable (sections_in Writable c.object) r.writable r.third x k) })
  where
    r : CellRuns w c w'
    r = cell_runs w c w' h

    starts : Starts
    starts = record { text = r.text.start; read_only = r.read_only.start; writable = r.writable.start }

    own : (class : Class) (x : Region) → IsRun class (start_in starts class) (sections_in class c.object) x → IsOwn (with_starts starts c ∷ []) x
    own class x run = record {
      cell = with_starts starts c;
      new_cell = inl refl;
      class = class;
      start = class_starts (with_starts starts c) starts sound refl class run.section run.there ∙ ap (λ (n : ℕ). Some n) (sym run.begins);
      permission = run.permission;
      bytes = run.bytes;
    }

    first : (x : Region) → In x w.regions ⊎ IsRun Text r.text.start (sections_in Text c.object) x → In x w.regions ⊎ IsOwn (with_starts starts c ∷ []) x
    first x (inl k) = inl k
    first x (inr run) = inr (own Text x run)

    second : (x : Region) → In x r.text.world.regions ⊎ IsRun ReadOnly r.read_only.start (sections_in ReadOnly c.object) x → In x w.regions ⊎ IsOwn (with_starts starts c ∷ []) x
    second x (inl k) = first x (sections_new w Text (sections_in Text c.object) r.text r.first x k)
    second x (inr run) = inr (own ReadOnly x run)

    third : (x : Region) → In x r.read_only.world.regions ⊎ IsRun Writable r.writable.start (sections_in Writable c.object) x → In x w.regions ⊎ IsOwn (with_starts starts c ∷ []) x
    third x (inl k) = second x (sections_new r.text.world ReadOnly (sections_in ReadOnly c.object) r.read_only r.second x k)
    third x (inr run) = inr (own Writable x run)

-- what placing the cells `rest` after the cells `before` does to the regions
pub record AllOwn (w : World) (before : List Cell) (w' : World) : Type 0 where
  pub new : List Cell
  pub cells : w'.cells ≡ before ++ new
  pub regions : (x : Region) → In x w'.regions → In x w.regions ⊎ IsOwn new x

pub all_own : (rest before : List Cell) (w w' : World) → AllSound rest → w.cells ≡ before ++ rest → in_order w.cells ≡ true → Spaced w → place_all w rest ≡ Ok w' → AllOwn w before w'
all_own [] before w w' sound e order s h = subst (AllOwn w before) (ok_same w w' h) (record { new = []; cells = e; regions = λ x k. inl k })
all_own (c ∷ rest) before w w' sound e order s h =
    let b = bind_ok (place_cell w c) (λ z. place_all z rest) w' h in
    let one : OneOwn w c b.0 = one_own w c b.0 (sound c (inl refl)) b.1 in
    let k : Placed w b.0 = cell_placed w w c b.0 b.1 (record { spaced = s; cells = refl; rest = refl }) in
    let d : Cell = with_starts one.starts c in
    let f : b.0.cells ≡ before ++ d ∷ rest = one.cells ∙ (ap (map (with_places c.id.0 one.starts)) e ∙ one_changes before rest c one.starts (subst (λ (cs : List Cell). in_order cs ≡ true) e order)) in
    let g : b.0.cells ≡ (before ++ d ∷ []) ++ rest = f ∙ sym (append_assoc before (d ∷ []) rest) in
    let more : AllOwn b.0 (before ++ d ∷ []) w' = all_own rest (before ++ d ∷ []) b.0 w' (λ x i. sound x (inr i)) g (pairs_bare (λ a b. nat_lt a.id.0 b.id.0) (λ a b. refl) b.0.cells w.cells k.cells order) k.spaced b.2 in
    record {
      new = d ∷ more.new;
      cells = more.cells ∙ append_assoc before (d ∷ []) more.new;
      regions = λ x i. later b.0.regions d more.new one.regions x (more.regions x i);
    }
  where
    later : (middle : List Region) (d : Cell) (new : List Cell) → ((x : Region) → In x middle → In x w.regions ⊎ IsOwn (d ∷ []) x) → (x : Region) → In x middle ⊎ IsOwn new x → In x w.regions ⊎ IsOwn (d ∷ new) x
    later middle d new f x (inr own) = inr (own_more new (d ∷ new) x (λ y i. inr i) own)
    later middle d new f x (inl i) = go (f x i)
      where
        go : In x w.regions ⊎ IsOwn (d ∷ []) x → In x w.regions ⊎ IsOwn (d ∷ new) x
        go (inl j) = inl j
        go (inr own) = inr (own_more (d ∷ []) (d ∷ new) x (λ y j. In-left (d ∷ []) new y j) own)
