-- Two machines with the same footprint of a namespace are the same to a task, as far as the footprint's cells and the task's stack go.
use Rattle.std.proofs.Common.{◌≡◌, refl, sym, ◌∙◌, ap, subst, arith, ℕ, ◌+◌, ◌≤◌, ◌<◌, ◌⊎◌, inl, inr, Bool, true, false, ◌&&◌, List, [], ◌∷◌, ◌++◌, length, map, true≢false, Option, Some, None}
use Rattle.std.specs.Prelude.{filter, find, flat_map, nat_le, nat_lt, ◌==◌}
use Rattle.std.specs.List.{list_any}
use Rattle.std.proofs.lemmas.Bool.{and_parts, leb-true, leb-false, ltb-true, lt-ltb}
use Rattle.cell_num.specs.Lists.{holds, each_pair, In}
use Rattle.cell_num.specs.Kinds.{width_of}
use Rattle.cell_object.specs.declared.object.Entry.{Entry}
use Rattle.cell_world.specs.declared.layout.Class.{Class}
use Rattle.cell_world.specs.World.{World, Cell, Region, Task}
use Rattle.cell_world.specs.Linked.Field.{fields_of, place_of}
use Rattle.cell_world.specs.Running.Memory.{covers, end_of, region_in}
use Rattle.cell_world.specs.Running.Execute.{is_field_at, seen_in}
use Rattle.cell_world.specs.Linked.Relink.{class_start}
use Rattle.cell_world.specs.Commands.UnloadCommand.{starts_of}
use Rattle.cell_world.specs.Coherent.{IsCoherent, ends_before}
use Rattle.cell_num.proofs.Elements.{any-In, any-Has, In-append, In-filtered, filter-In, filter-Passes, found-In, map-In, In-flat_map, pairs_same}
use Rattle.cell_num.proofs.Sublists.{pairs-filter}
use Rattle.cell_lemmas.proofs.Holding.KeptPaths.{In-holds, holds-In}
use Rattle.cell_lemmas.proofs.Fields.FieldsInside.{among-In, field_region}
use Rattle.cell_lemmas.proofs.Placement.Distinct.{one_class}
use Rattle.cell_lemmas.proofs.Tasks.Stores.{one_covers}
use Rattle.cell_lemmas.proofs.Placement.Inside.{wide}
use Rattle.cell_lemmas.proofs.Fields.Writes.{covered, begins_below, ends_above}
use Rattle.cell_lemmas.proofs.Tasks.Stacks.{long}
use Rattle.cell_isolation_laws.specs.Touches.{regions_from, is_within, LooksSame}
use Rattle.cell_isolation_laws.specs.Footprint.{Footprint, is_visible, footprint, task_starts}
use Rattle.cell_isolation_laws.proofs.Sorted.{rise_same}
use Rattle.cell_lemmas.proofs.Tasks.Restarted.{region_apart}
use Rattle.cell_isolation_laws.proofs.Isolated.{start_class}

rises : (x : World) → IsCoherent x → each_pair (λ (a b : Region). nat_lt a.start b.start) x.regions ≡ true
rises x y = pairs_same ends_before (λ (a b : Region). nat_lt a.start b.start) x.regions
    (λ a b i j e. lt-ltb a.start b.start (omega (arith, leb-true (end_of a) b.start e, long x y a i))) y.ready.apart

-- a field that the bytes meet, which are in a region of a visible cell or of the stack, is of a visible cell
module _ (x : World) (h : IsCoherent x) (ns : ℕ) (t : Task) (live : In t x.tasks) where
  abbrev shown : List Cell
  shown = filter (is_visible x ns) x.cells

  field_shown : (r : Region) → In r x.regions → holds (task_starts x ns t) r.start ≡ true → (addr n : ℕ) → r.start ≤ addr → addr < end_of r → addr + n ≤ end_of r → (c : Cell) → In c x.cells → is_field_at addr n c ≡ true → In c shown
  field_shown r i s addr n a b l c k e = go (any-Has _ (fields_of c.object) e)
    where
      go : (f : Entry) × In f (fields_of c.object) × ((nat_lt addr (place_of c.placed f + width_of f.kind) && nat_lt (place_of c.placed f) (addr + n)) ≡ true) → In c shown
      go f =
          let p = and_parts (nat_lt addr (place_of c.placed f.0 + width_of f.0.kind)) (nat_lt (place_of c.placed f.0) (addr + n)) f.2 in
          let q = field_region x h.ready.regions h.ready.apart h.ready.placed h.ready.objects c k f.0 (among-In c.object.entries [] f.0 f.1) in
          let m = meets q.0 q.2 q.3 (ltb-true addr (place_of c.placed f.0 + width_of f.0.kind) p.0) (ltb-true (place_of c.placed f.0) (addr + n) p.1) in
          let same : r ≡ q.0 = one_covers x.regions h.ready.apart r q.0 m.0 i q.1 m.1 m.2 in
          pick q.0 q.1 q.4.0 q.4.1 (In-append (flat_map starts_of shown) (t.stack ∷ []) q.0.start (subst (λ (y : Region). In y.start (task_starts x ns t)) same (holds-In (task_starts x ns t) r.start s)))
        where
          -- an address that both have
          meets : (q : Region) → q.start ≤ place_of c.placed f.0 → place_of c.placed f.0 + width_of f.0.kind ≤ q.start + length q.bytes → addr < place_of c.placed f.0 + width_of f.0.kind → place_of c.placed f.0 < addr + n
              → (at : ℕ) × (covers r at ≡ true) × (covers q at ≡ true)
          meets q u v y z = choose (nat_le (place_of c.placed f.0) addr) refl
            where
              choose : (d : Bool) → nat_le (place_of c.placed f.0) addr ≡ d → (at : ℕ) × (covers r at ≡ true) × (covers q at ≡ true)
              choose true g = (addr, covered r addr a b, covered q addr (omega (arith, u, leb-true (place_of c.placed f.0) addr g)) (omega (arith, v, y)))
              choose false g = (place_of c.placed f.0, covered r (place_of c.placed f.0) (omega (arith, a, leb-false (place_of c.placed f.0) addr g)) (omega (arith, z, l)), covered q (place_of c.placed f.0) u (omega (arith, v, wide f.0.kind)))

          pick : (q : Region) → In q x.regions → (class : Class) → class_start c class ≡ Some q.start → In q.start (flat_map starts_of shown) ⊎ In q.start (t.stack ∷ []) → In c shown
          pick q j class g (inl o) =
              let d = In-flat_map starts_of shown q.start o in
              let y = start_class d.0 q.start d.2 in
              subst (λ (z : Cell). In z shown) (sym (one_class x h.ready.regions h.ready.in_space h.ready.apart c d.0 k (In-filtered (is_visible x ns) x.cells d.0 d.1) class y.0 q.start g y.1).0) d.1
          pick q j class g (inr (inl o)) = absurd (clash (region_apart x h t live c k q j class g))
            where
              clash : (q.start + length q.bytes ≤ t.stack) ⊎ (t.stack + 16384 ≤ q.start) → ⊥
              clash (inl y) = omega (arith, y, o, long x h q j)
              clash (inr y) = omega (arith, y, o)
          pick q j class g (inr (inr o)) = absurd o

  within_region : (addr n : ℕ) → is_within (regions_from (task_starts x ns t) x.regions) (addr, n) ≡ true → (r : Region) × In r x.regions × (holds (task_starts x ns t) r.start ≡ true) × (r.start ≤ addr) × (addr < end_of r) × (addr + n ≤ end_of r)
  within_region addr n e = go (region_in (regions_from (task_starts x ns t) x.regions) addr) refl e
    where
      go : (o : Option Region) → region_in (regions_from (task_starts x ns t) x.regions) addr ≡ o → (elim o as (λ _. Bool) [ None ↦ false | Some r ↦ nat_le (addr + n) (end_of r) ]) ≡ true
          → (r : Region) × In r x.regions × (holds (task_starts x ns t) r.start ≡ true) × (r.start ≤ addr) × (addr < end_of r) × (addr + n ≤ end_of r)
      go None f k = absurd (true≢false (sym k))
      go (Some r) f k =
          let a = found-In (λ y. covers y addr) (regions_from (task_starts x ns t) x.regions) r f in
          (r, In-filtered (λ (y : Region). holds (task_starts x ns t) y.start) x.regions r a.0, filter-Passes (λ (y : Region). holds (task_starts x ns t) y.start) x.regions r a.0, begins_below r addr a.1, ends_above r addr a.1, leb-true (addr + n) (end_of r) k)

  -- so the visible cells decide what is sealed there
  sealed_shown : (addr n : ℕ) → is_within (regions_from (task_starts x ns t) x.regions) (addr, n) ≡ true → (seen_in x).is_sealed addr n ≡ list_any (is_field_at addr n) shown
  sealed_shown addr n e = go (list_any (is_field_at addr n) x.cells) refl (list_any (is_field_at addr n) shown) refl
    where
      go : (a : Bool) → list_any (is_field_at addr n) x.cells ≡ a → (b : Bool) → list_any (is_field_at addr n) shown ≡ b → a ≡ b
      go true p true q = refl
      go false p false q = refl
      go true p false q =
          let r = within_region addr n e in
          let c = any-Has (is_field_at addr n) x.cells p in
          absurd (true≢false (sym (any-In (is_field_at addr n) shown c.0 (field_shown r.0 r.1 r.2 addr n r.3 r.4 r.5 c.0 c.1 c.2) c.2) ∙ q))
      go false p true q =
          let c = any-Has (is_field_at addr n) shown q in
          absurd (true≢false (sym (any-In (is_field_at addr n) x.cells c.0 (In-filtered (is_visible x ns) x.cells c.0 c.1) c.2) ∙ p))

module _ (w u : World) (h : IsCoherent w) (k : IsCoherent u) (ns : ℕ) (same : footprint u ns ≡ footprint w ns) (t : Task) (live : In t w.tasks) where
  same_tasks : u.tasks ≡ w.tasks
  same_tasks = ap (λ (f : Footprint). f.tasks) same

  same_shown : filter (is_visible u ns) u.cells ≡ filter (is_visible w ns) w.cells
  same_shown = ap (λ (f : Footprint). f.cells) same

  same_starts : task_starts u ns t ≡ task_starts w ns t
  same_starts = ap (λ (cs : List Cell). flat_map starts_of cs ++ t.stack ∷ []) same_shown

  abbrev starts : List ℕ
  starts = task_starts w ns t

  -- a region that counts is of a cell of the footprint or a stack
  across : (a b : World) → footprint a ns ≡ footprint b ns → In t a.tasks → (r : Region) → In r (regions_from (task_starts a ns t) a.regions) → In r b.regions
  across a b f l r i = go (In-append (flat_map starts_of (filter (is_visible a ns) a.cells)) (t.stack ∷ []) r.start (holds-In (task_starts a ns t) r.start (filter-Passes (λ (y : Region). holds (task_starts a ns t) y.start) a.regions r i)))
    where
      j : In r a.regions
      j = In-filtered (λ (y : Region). holds (task_starts a ns t) y.start) a.regions r i

      by_stack : r.start ≡ t.stack → In r b.regions
      by_stack o = In-filtered (λ (y : Region). holds (map (λ (z : Task). z.stack) b.tasks) y.start) b.regions r
          (subst (In r) (ap (λ (g : Footprint). g.stacks) f)
          (filter-In (λ (y : Region). holds (map (λ (z : Task). z.stack) a.tasks) y.start) a.regions r j
          (subst (λ m. holds (map (λ (z : Task). z.stack) a.tasks) m ≡ true) (sym o) (In-holds (map (λ (z : Task). z.stack) a.tasks) t.stack (map-In (λ (z : Task). z.stack) a.tasks t l)))))

      go : In r.start (flat_map starts_of (filter (is_visible a ns) a.cells)) ⊎ In r.start (t.stack ∷ []) → In r b.regions
      go (inl o) = In-filtered (λ (y : Region). holds (flat_map starts_of (filter (is_visible b ns) b.cells)) y.start) b.regions r
          (subst (In r) (ap (λ (g : Footprint). g.regions) f)
          (filter-In (λ (y : Region). holds (flat_map starts_of (filter (is_visible a ns) a.cells)) y.start) a.regions r j (In-holds (flat_map starts_of (filter (is_visible a ns) a.cells)) r.start o)))
      go (inr (inl o)) = by_stack o
      go (inr (inr o)) = absurd o

  abbrev from : Region → Bool
  from r = holds starts r.start

  same_regions : regions_from starts w.regions ≡ regions_from starts u.regions
  same_regions = rise_same (λ (a b : Region). nat_lt a.start b.start) (λ a b p q. omega (arith, ltb-true a.start b.start p, ltb-true b.start a.start q)) (λ a p. omega (arith, ltb-true a.start a.start p))
      (filter from w.regions) (filter from u.regions) (pairs-filter (λ (a b : Region). nat_lt a.start b.start) from w.regions (rises w h)) (pairs-filter (λ (a b : Region). nat_lt a.start b.start) from u.regions (rises u k))
      (λ r i. filter-In from u.regions r (across w u (sym same) live r i) (filter-Passes from w.regions r i))
      (λ r i. filter-In from w.regions r (across u w same (subst (In t) (sym same_tasks) live) r (subst (λ (ss : List ℕ). In r (regions_from ss u.regions)) (sym same_starts) i)) (filter-Passes from u.regions r i))

  pub looks_same : LooksSame starts t.number w u
  looks_same = record {
    task = ap (find (λ (x : Task). x.number == t.number)) (sym same_tasks);
    regions = same_regions;
    sealed = λ addr n e.
        sealed_shown w h ns t live addr n e
        ∙ (ap (list_any (is_field_at addr n)) (sym same_shown)
        ∙ sym (sealed_shown u k ns t (subst (In t) (sym same_tasks) live) addr n
        (subst (λ (ss : List ℕ). is_within (regions_from ss u.regions) (addr, n) ≡ true) (sym same_starts) (subst (λ (rs : List Region). is_within rs (addr, n) ≡ true) same_regions e))));
  }
