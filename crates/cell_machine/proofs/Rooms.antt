-- Mapping the regions of new cells: there is room for each, once those before it are mapped.
use Rattle.std.proofs.Common.{◌≡◌, refl, sym, ◌∙◌, ap, subst, arith, ℕ, ◌+◌, ◌-◌, ◌*◌, ◌≤◌, ◌<◌, inl, inr, true, ◌||◌, List, [], ◌∷◌, ◌++◌, Option, Some, None, Ok, Err, length, length-append}
use Rattle.std.specs.Prelude.{◌/◌, ◌%◌, All, nat_le}
use Rattle.std.specs.List.{list_all}
use Rattle.std.proofs.lemmas.Bool.{le-leb, or_left, or_right}
use Rattle.cell_num.specs.Lists.{each_pair}
use Rattle.cell_object.specs.declared.object.Object.{Object}
use Rattle.cell_object.specs.declared.object.Section.{Section as ObjectSection}
use Rattle.cell_world.specs.declared.refusal.Refusal.TheVariants.{Exhausted}
use Rattle.cell_world.specs.World.{World, Region}
use Rattle.cell_world.specs.Coherent.{ends_before, is_in_space}
use Rattle.cell_world.specs.Running.Memory.{end_of}
use Rattle.cell_world.specs.Outcome.{Outcome, ◌>>=◌}
use Rattle.cell_world.specs.Placed.Pages.{filled, longest_run, lowest_run}
use Rattle.cell_world.specs.Placed.Place.{page_table, place_class}
use Rattle.cell_world.specs.Placed.Layout.{image_of, laid_out, sections_in}
use Rattle.cell_world.specs.declared.layout.Starts.{Starts}
use Rattle.cell_world.specs.declared.layout.Class.TheVariants.{Text, ReadOnly, Writable}
use Rattle.cell_world.specs.declared.layout.Class.{Class}
use Rattle.cell_lemmas.specs.Clear.{IsClear}
use Rattle.cell_num.proofs.Elements.{All-In, In-all}
use Rattle.cell_lemmas.proofs.Placement.Tables.{class_spaced, run_clear, run_inside}
use Rattle.cell_lemmas.specs.Loads.{AllTaken, ManyTaken, Taken, all_regions, regions_at, run_region, take_all, take_class, take_for, take_runs, with_all, with_classes, with_run_of}
use Rattle.cell_lemmas.proofs.Binds.{bind_ok, ok_same}
use Rattle.cell_lemmas.proofs.Placement.LoadOffsets.{image_pages}
use Rattle.cell_lemmas.proofs.Placement.Placing.{class_is, class_table, runs_table, with_class_in}
use Rattle.cell_mem.specs.State.{IsRoom, MemoryState}
use Rattle.cell_commit.specs.Commit.{AreRoom, all_mapped, mapped_one}
use Rattle.cell_commit.proofs.Mapping.{mapped_base, mapped_pages, mapped_spare}

pub mapped_append : (m : MemoryState) (rs ss : List Region) → all_mapped m (rs ++ ss) ≡ all_mapped (all_mapped m rs) ss
mapped_append m [] ss = refl
mapped_append m (r ∷ rs) ss = mapped_append (mapped_one m r) rs ss

class_mapped : (m : MemoryState) (start : ℕ) (class : Class) (ss : List ObjectSection) → (all_mapped m (run_region start class ss)).regions ≡ with_run_of start class ss m.regions
class_mapped m start class [] = refl
class_mapped m start class (s ∷ rest) = refl

-- the regions of the classes of a cell are mapped among those that there were
cell_mapped : (ms : MemoryState) (starts : Starts) (o : Object) → (all_mapped ms (regions_at starts o)).regions ≡ with_classes starts o ms.regions
cell_mapped ms starts o =
    let a : List Region = run_region starts.text Text (sections_in Text o) in
    let b : List Region = run_region starts.read_only ReadOnly (sections_in ReadOnly o) in
    let c : List Region = run_region starts.writable Writable (sections_in Writable o) in
    let one : (all_mapped ms a).regions ≡ with_run_of starts.text Text (sections_in Text o) ms.regions = class_mapped ms starts.text Text (sections_in Text o) in
    let two : (all_mapped ms (a ++ b)).regions ≡ with_run_of starts.read_only ReadOnly (sections_in ReadOnly o) (with_run_of starts.text Text (sections_in Text o) ms.regions) =
    ap (λ (m : MemoryState). m.regions) (mapped_append ms a b)
    ∙ (class_mapped (all_mapped ms a) starts.read_only ReadOnly (sections_in ReadOnly o)
    ∙ ap (λ (rs : List Region). with_run_of starts.read_only ReadOnly (sections_in ReadOnly o) rs) one) in
    ap (λ (m : MemoryState). m.regions) (mapped_append ms (a ++ b) c)
    ∙ (class_mapped (all_mapped ms (a ++ b)) starts.writable Writable (sections_in Writable o)
    ∙ ap (λ (rs : List Region). with_run_of starts.writable Writable (sections_in Writable o) rs) two)

-- the regions of all new cells are mapped among those that there were
pub regions_mapped : (ms : MemoryState) (starts : List Starts) (objects : List Object) → (all_mapped ms (all_regions starts objects)).regions ≡ with_all starts objects ms.regions
regions_mapped ms [] objects = refl
regions_mapped ms (s ∷ starts) [] = refl
regions_mapped ms (s ∷ starts) (o ∷ objects) =
    ap (λ (m : MemoryState). m.regions) (mapped_append ms (regions_at s o) (all_regions starts objects))
    ∙ (regions_mapped (all_mapped ms (regions_at s o)) starts objects
    ∙ ap (with_all starts objects) (cell_mapped ms s o))

-- the memory has the machine's regions, whole pages apart from each other
pub record IsSpaced (ms : MemoryState) (u : World) : Type 0 where
  pub base : ms.base ≡ u.base
  pub pages : ms.pages ≡ u.pages
  pub regions : ms.regions ≡ u.regions
  pub aligned : u.base % 4096 ≡ 0
  pub in_space : list_all (is_in_space u) u.regions ≡ true
  pub apart : each_pair ends_before u.regions ≡ true

page_aligned : (base page : ℕ) → base % 4096 ≡ 0 → (base + 4096 * page) % 4096 ≡ 0
page_aligned base page e = omega (arith, e)

whole_pages : (n : ℕ) → n % 4096 ≡ 0 → 4096 * (n / 4096) ≡ n
whole_pages n e = omega (arith, e)

some_pages : (n : ℕ) → 0 < n → n % 4096 ≡ 0 → 0 < n / 4096
some_pages n l e = omega (arith, l, e)

-- no region has a byte of the run
clear_is : (start n : ℕ) (r : Region) → IsClear start n r → (nat_le (end_of r) start || nat_le (start + n) r.start) ≡ true
clear_is start n r (inl h) = or_right (nat_le (end_of r) start) (nat_le (start + n) r.start) (le-leb (start + n) r.start h)
clear_is start n r (inr h) = or_left (nat_le (end_of r) start) (nat_le (start + n) r.start) (le-leb (end_of r) start h)

module _ (ms : MemoryState) (u : World) (same : IsSpaced ms u) where
  -- n bytes are whole pages, and the lowest free run has room for them
  run_room : (n page : ℕ) → 0 < n → n % 4096 ≡ 0 → lowest_run (page_table u) (n / 4096) ≡ Some page → 1 ≤ ms.spare → IsRoom ms (u.base + 4096 * page) n
  run_room n page l e low spare =
      let some : 0 < n / 4096 = some_pages n l e in
      let size : 4096 * (n / 4096) ≡ n = whole_pages n e in
      let fits : page + n / 4096 ≤ u.pages = run_inside u (n / 4096) page some low in
      let clear : All (IsClear (u.base + 4096 * page) n) u.regions = subst (λ (k : ℕ). All (IsClear (u.base + 4096 * page) k) u.regions) size (run_clear u (n / 4096) page some low same.in_space) in
      let free : list_all (λ r. nat_le (end_of r) (u.base + 4096 * page) || nat_le (u.base + 4096 * page + n) r.start) u.regions ≡ true =
      In-all (λ (r : Region). nat_le (end_of r) (u.base + 4096 * page) || nat_le (u.base + 4096 * page + n) r.start) u.regions
      (λ r k. clear_is (u.base + 4096 * page) n r (All-In (IsClear (u.base + 4096 * page) n) u.regions clear r k)) in
      record {
        aligned = page_aligned u.base page same.aligned;
        whole = e;
        filled = l;
        above = omega (arith, same.base);
        below = omega (arith, same.base, same.pages, size, fits);
        apart = subst (λ (rs : List Region). list_all (λ r. nat_le (end_of r) (u.base + 4096 * page) || nat_le (u.base + 4096 * page + n) r.start) rs ≡ true) (sym same.regions) free;
        spare = spare;
      }

  class_room : (class : Class) (ss : List ObjectSection) (t : Taken) → take_for u.base (page_table u) ss ≡ Ok t → length (run_region t.start class ss) ≤ ms.spare → AreRoom ms (run_region t.start class ss)
  class_room class [] t e le = tt
  class_room class (s ∷ rest) t e le = go (lowest_run (page_table u) (length (image_of (s ∷ rest)) / 4096)) refl e
    where
      pages : (0 < length (image_of (s ∷ rest))) × (length (image_of (s ∷ rest)) % 4096 ≡ 0)
      pages = image_pages (laid_out [] (s ∷ rest))

      go : (o : Option ℕ) → lowest_run (page_table u) (length (image_of (s ∷ rest)) / 4096) ≡ o
          → elim o as (λ _. Outcome Taken) [ None ↦ Err (Exhausted (length (image_of (s ∷ rest)) / 4096) (longest_run (page_table u))) | Some page ↦ Ok (record { start = u.base + 4096 * page; table = filled (page_table u) page (length (image_of (s ∷ rest)) / 4096) true }) ] ≡ Ok t
          → AreRoom ms (run_region t.start class (s ∷ rest))
      go None low k = cc
      go (Some page) low k =
          let at = ok_same (record { start = u.base + 4096 * page; table = filled (page_table u) page (length (image_of (s ∷ rest)) / 4096) true }) t k in
          subst (λ (t : Taken). AreRoom ms (run_region t.start class (s ∷ rest))) at
          (run_room (length (image_of (s ∷ rest))) page pages.0 pages.1 low le, tt)

  class_next : (class : Class) (o : Object) (t : Taken) → take_class u.base (page_table u) class o ≡ Ok t
      → IsSpaced (all_mapped ms (run_region t.start class (sections_in class o))) (with_class_in u class (sections_in class o) t.start)
  class_next class o t e =
      let ss : List ObjectSection = sections_in class o in
      let rs : List Region = run_region t.start class ss in
      let more : World = with_class_in u class ss t.start in
      let placed : place_class u class o ≡ Ok (record { world = more; start = t.start }) = class_is u class ss ∙ ap (λ (r : Outcome Taken). r >>= (λ t. Ok (record { world = with_class_in u class ss t.start; start = t.start }))) e in
      let spaced : (list_all (is_in_space u) more.regions ≡ true) × (each_pair ends_before more.regions ≡ true) = class_spaced u class o (record { world = more; start = t.start }) same.in_space same.apart placed in
      record {
        base = mapped_base ms rs ∙ same.base;
        pages = mapped_pages ms rs ∙ same.pages;
        regions = class_mapped ms t.start class ss ∙ ap (λ (old : List Region). with_run_of t.start class ss old) same.regions;
        aligned = same.aligned;
        in_space = spaced.0;
        apart = spaced.1;
      }

rooms_append : (ms : MemoryState) (rs ss : List Region) → AreRoom ms rs → AreRoom (all_mapped ms rs) ss → AreRoom ms (rs ++ ss)
rooms_append ms [] ss a b = b
rooms_append ms (r ∷ rs) ss a b = (a.0, rooms_append (mapped_one ms r) rs ss a.1 b)

three_lengths : (rs ss ts : List Region) → length (rs ++ ss ++ ts) ≡ length rs + length ss + length ts
three_lengths rs ss ts = omega (arith, length-append (rs ++ ss) ts, length-append rs ss)

-- the machine with the regions of one cell
abbrev with_cell : World → Starts → Object → World
with_cell u starts o = record u { regions = with_classes starts o u.regions }

-- there is room for the regions of one cell, and then the memory has those of the machine with them
record CellRoom (ms : MemoryState) (u : World) (o : Object) (starts : Starts) : Type 0 where
  room : length (regions_at starts o) ≤ ms.spare → AreRoom ms (regions_at starts o)
  next : IsSpaced (all_mapped ms (regions_at starts o)) (with_cell u starts o)

cell_room : (ms : MemoryState) (u : World) → IsSpaced ms u → (o : Object) (t : AllTaken) → take_runs u.base (page_table u) o ≡ Ok t → CellRoom ms u o t.starts
cell_room ms u same o t h =
    let x = bind_ok (take_class u.base (page_table u) Text o) _ t h in
    let u1 : World = with_class_in u Text (sections_in Text o) x.0.start in
    let e1 : page_table u1 ≡ x.0.table = class_table u Text (sections_in Text o) x.0 x.1 in
    let y = bind_ok (take_class u.base x.0.table ReadOnly o) _ t x.2 in
    let u2 : World = with_class_in u1 ReadOnly (sections_in ReadOnly o) y.0.start in
    let k1 : take_class u.base (page_table u1) ReadOnly o ≡ Ok y.0 = ap (λ table. take_class u.base table ReadOnly o) e1 ∙ y.1 in
    let e2 : page_table u2 ≡ y.0.table = class_table u1 ReadOnly (sections_in ReadOnly o) y.0 k1 in
    let z = bind_ok (take_class u.base y.0.table Writable o) _ t y.2 in
    let k2 : take_class u.base (page_table u2) Writable o ≡ Ok z.0 = ap (λ table. take_class u.base table Writable o) e2 ∙ z.1 in
    let a : List Region = run_region x.0.start Text (sections_in Text o) in
    let b : List Region = run_region y.0.start ReadOnly (sections_in ReadOnly o) in
    let c : List Region = run_region z.0.start Writable (sections_in Writable o) in
    let starts : Starts = record { text = x.0.start; read_only = y.0.start; writable = z.0.start } in
    let is : (record { starts = starts; table = z.0.table }) ≡ t = ok_same (record { starts = starts; table = z.0.table }) t z.2 in
    let m1 : MemoryState = all_mapped ms a in
    let m2 : MemoryState = all_mapped m1 b in
    let s1 : IsSpaced m1 u1 = class_next ms u same Text o x.0 x.1 in
    let s2 : IsSpaced m2 u2 = class_next m1 u1 s1 ReadOnly o y.0 k1 in
    let s3 : IsSpaced (all_mapped m2 c) (with_cell u starts o) = class_next m2 u2 s2 Writable o z.0 k2 in
    let two : all_mapped ms (a ++ b) ≡ m2 = mapped_append ms a b in
    let three : all_mapped ms (regions_at starts o) ≡ all_mapped m2 c = mapped_append ms (a ++ b) c ∙ ap (λ (m : MemoryState). all_mapped m c) two in
    let rooms : length (regions_at starts o) ≤ ms.spare → AreRoom ms (regions_at starts o) = (λ le.
    let size : length a + length b + length c ≤ ms.spare = subst (λ (n : ℕ). n ≤ ms.spare) (three_lengths a b c) le in
    let first : AreRoom ms a = class_room ms u same Text (sections_in Text o) x.0 x.1 (omega (arith, size)) in
    let second : AreRoom m1 b = class_room m1 u1 s1 ReadOnly (sections_in ReadOnly o) y.0 k1 (omega (arith, size, mapped_spare ms a)) in
    let third : AreRoom m2 c = class_room m2 u2 s2 Writable (sections_in Writable o) z.0 k2 (omega (arith, size, mapped_spare ms a, mapped_spare m1 b)) in
    rooms_append ms (a ++ b) c (rooms_append ms a b first second) (subst (λ (m : MemoryState). AreRoom m c) (sym two) third)) in
    subst (λ (t : AllTaken). CellRoom ms u o t.starts) is
    (record { room = rooms; next = subst (λ (m : MemoryState). IsSpaced m (with_cell u starts o)) (sym three) s3 })

abbrev rest_taken : AllTaken → ManyTaken → ManyTaken
rest_taken t m = record { starts = t.starts ∷ m.starts; table = m.table }

two_lengths : (rs ss : List Region) (n : ℕ) → length (rs ++ ss) ≤ n → (length rs ≤ n) × (length ss ≤ n - length rs)
two_lengths rs ss n le = let e = length-append rs ss in (omega (arith, e, le), omega (arith, e, le))

-- the runs of all new cells are free, each one once those before it are mapped
pub rooms : (objects : List Object) (ms : MemoryState) (u : World) → IsSpaced ms u → (t : ManyTaken) → take_all u.base (page_table u) objects ≡ Ok t → length (all_regions t.starts objects) ≤ ms.spare
    → AreRoom ms (all_regions t.starts objects)
rooms [] ms u same t h le =
    subst (λ (t : ManyTaken). AreRoom ms (all_regions t.starts [])) (ok_same (record { starts = []; table = page_table u }) t h) tt
rooms (o ∷ rest) ms u same t h le =
    let a = bind_ok (take_runs u.base (page_table u) o) _ t h in
    let b = bind_ok (take_all u.base a.0.table rest) _ t a.2 in
    let is : rest_taken a.0 b.0 ≡ t = ok_same (rest_taken a.0 b.0) t b.2 in
    let v : World = with_cell u a.0.starts o in
    let cell : CellRoom ms u o a.0.starts = cell_room ms u same o a.0 a.1 in
    let rs : List Region = regions_at a.0.starts o in
    let ss : List Region = all_regions b.0.starts rest in
    let size : length (rs ++ ss) ≤ ms.spare = subst (λ (t : ManyTaken). length (all_regions t.starts (o ∷ rest)) ≤ ms.spare) (sym is) le in
    let parts : (length rs ≤ ms.spare) × (length ss ≤ ms.spare - length rs) = two_lengths rs ss ms.spare size in
    let table : page_table v ≡ a.0.table = runs_table o u a.0 a.1 in
    let runs : take_all v.base (page_table v) rest ≡ Ok b.0 = ap (λ table. take_all u.base table rest) table ∙ b.1 in
    let spare : length ss ≤ (all_mapped ms rs).spare = subst (λ (n : ℕ). length ss ≤ n) (sym (mapped_spare ms rs)) parts.1 in
    subst (λ (t : ManyTaken). AreRoom ms (all_regions t.starts (o ∷ rest))) is
    (rooms_append ms rs ss (cell.room parts.0) (rooms rest (all_mapped ms rs) v cell.next b.0 runs spare))
