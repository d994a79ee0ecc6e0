-- A task that begins again, in a present cell and with its stack cleared, keeps the machine coherent.
use Rattle.std.proofs.Common.{◌≡◌, refl, sym, ◌∙◌, ap, subst, arith, ℕ, ◌+◌, ◌≤◌, ◌<◌, ◌⊎◌, inl, inr, Bool, true, false, ◌&&◌, List, [], ◌++◌, map, length, replicate, Option, Some, None}
use Rattle.std.specs.Prelude.{flat_map, is_some, nat_lt, nat_le}
use Rattle.std.proofs.lemmas.Bool.{and_from, and_parts, ltb-true, leb-true, le-leb, false_from_ne_true}
use Rattle.std.proofs.lemmas.List.{length-replicate}
use Rattle.cell_num.specs.Lists.{In}
use Rattle.cell_num.specs.Kinds.{width_of}
use Rattle.cell_object.specs.declared.object.Entry.{Entry}
use Rattle.cell_num.specs.Limits.{stack_size}
use Rattle.cell_world.specs.World.{World, Cell, Region, Task, Permission, cell_of}
use Rattle.cell_world.specs.Running.Memory.{covers, end_of, region_in}
use Rattle.cell_world.specs.Linked.Field.{fields_of, place_of}
use Rattle.cell_world.specs.Placed.Layout.{permission_of, sections_in, image_of}
use Rattle.cell_world.specs.declared.layout.Class.TheVariants.{Writable}
use Rattle.cell_world.specs.declared.layout.Class.{Class}
use Rattle.cell_world.specs.Linked.Relink.{class_start}
use Rattle.cell_world.specs.Running.Execute.{allows, is_field_at, seen_in}
use Rattle.cell_world.specs.Running.Turn.{with_task}
use Rattle.cell_world.specs.Coherent.{IsCoherent, Shape, shape_of, stack_shape, wanted_shapes, class_shape, ends_before}
use Rattle.cell_world.specs.Running.Restart.{restarted, restart}
use Rattle.cell_num.proofs.Elements.{In-none, In-map, map-In, In-right, flat_map-In, find_there, found-In, pairs-In}
use Rattle.cell_lemmas.proofs.Fields.FieldsInside.{In-fold_shape, field_region, among-In, classes, class-In}
use Rattle.cell_lemmas.proofs.Placement.Distinct.{cell_shapes, shape_there}
use Rattle.cell_lemmas.proofs.Tasks.Stacks.{cells_elsewhere}
use Rattle.cell_lemmas.proofs.Placement.Bare.{covers_once}
use Rattle.cell_lemmas.proofs.Fields.Writes.{covered}
use Rattle.cell_lemmas.proofs.Tasks.Changed.{changed_coherent}
use Rattle.cell_lemmas.proofs.Tasks.Stored.{store_coherent}

pub no_overlap : (a b c d : ℕ) → (b ≤ a) ⊎ (d ≤ c) → (nat_lt a b && nat_lt c d) ≡ false
no_overlap a b c d h = false_from_ne_true (nat_lt a b && nat_lt c d) (λ e. let p = and_parts (nat_lt a b) (nat_lt c d) e in go h (ltb-true a b p.0) (ltb-true c d p.1))
  where
    go : (b ≤ a) ⊎ (d ≤ c) → a < b → c < d → ⊥
    go (inl x) p q = omega (arith, x, p)
    go (inr x) p q = omega (arith, x, q)

abbrev pub zeros : List ℕ
zeros = replicate stack_size 0

pub zeros_length : length zeros ≡ stack_size
zeros_length = length-replicate {A = ℕ} stack_size 0

module _ (w : World) (h : IsCoherent w) (t : Task) (live : In t w.tasks) where
  -- the region of the stack, with its length and its permission
  pub own_region : (r : Region) × In r w.regions × (r.start ≡ t.stack) × (length r.bytes ≡ stack_size) × (r.permission ≡ permission_of Writable)
  own_region =
      let i : In (stack_shape t) (wanted_shapes w) = In-fold_shape (flat_map cell_shapes w.cells ++ map stack_shape w.tasks) [] (stack_shape t) (inr (In-right (flat_map cell_shapes w.cells) (map stack_shape w.tasks) (stack_shape t) (map-In stack_shape w.tasks t live))) in
      let m = In-map shape_of w.regions (stack_shape t) (subst (λ (l : List Shape). In (stack_shape t) l) (sym h.ready.regions) i) in
      (m.0, m.1, ap (λ (x : Shape). x.start) (sym m.2), ap (λ (x : Shape). x.size) (sym m.2), ap (λ (x : Shape). x.permission) (sym m.2))

  -- what a cell's region has is not in the stack
  pub region_apart : (c : Cell) → In c w.cells → (q : Region) → In q w.regions → (class : Class) → class_start c class ≡ Some q.start → (q.start + length q.bytes ≤ t.stack) ⊎ (t.stack + stack_size ≤ q.start)
  region_apart c k q i class e = go own_region
    where
      elsewhere : q.start ≡ t.stack → ⊥
      elsewhere x = cells_elsewhere w h t live (record { start = q.start; permission = permission_of class; size = length (image_of (sections_in class c.object)) })
          (flat_map-In cell_shapes w.cells c _ k (flat_map-In (class_shape c) classes class _ (class-In class) (shape_there c class q.start e))) x

      go : (r : Region) × In r w.regions × (r.start ≡ t.stack) × (length r.bytes ≡ stack_size) × (r.permission ≡ permission_of Writable) → (q.start + length q.bytes ≤ t.stack) ⊎ (t.stack + stack_size ≤ q.start)
      go r = pick (pairs-In ends_before w.regions h.ready.apart r.0 q r.1 i)
        where
          pick : (r.0 ≡ q) ⊎ ((ends_before r.0 q ≡ true) ⊎ (ends_before q r.0 ≡ true)) → (q.start + length q.bytes ≤ t.stack) ⊎ (t.stack + stack_size ≤ q.start)
          pick (inl x) = absurd (elsewhere (ap (λ (v : Region). v.start) (sym x) ∙ r.2))
          pick (inr (inl x)) = inr (omega (arith, leb-true (end_of r.0) q.start x, r.2, r.3))
          pick (inr (inr x)) = inl (omega (arith, leb-true (end_of q) r.0.start x, r.2))

  unsealed : (c : Cell) → In c w.cells → (f : Entry) → In f (fields_of c.object) → (nat_lt t.stack (place_of c.placed f + width_of f.kind) && nat_lt (place_of c.placed f) (t.stack + length zeros)) ≡ false
  unsealed c k f m =
      let q = field_region w h.ready.regions h.ready.apart h.ready.placed h.ready.objects c k f (among-In c.object.entries [] f m) in
      no_overlap t.stack (place_of c.placed f + width_of f.kind) (place_of c.placed f) (t.stack + length zeros) (go q.0 q.2 q.3 (region_apart c k q.0 q.1 q.4.0 q.4.1))
    where
      go : (q : Region) → q.start ≤ place_of c.placed f → place_of c.placed f + width_of f.kind ≤ q.start + length q.bytes → (q.start + length q.bytes ≤ t.stack) ⊎ (t.stack + stack_size ≤ q.start)
          → (place_of c.placed f + width_of f.kind ≤ t.stack) ⊎ (t.stack + length zeros ≤ place_of c.placed f)
      go q a b (inl x) = inl (omega (arith, b, x))
      go q a b (inr x) = inr (omega (arith, a, x, zeros_length))

  pub stack_free : (seen_in w).is_sealed t.stack (length zeros) ≡ false
  stack_free = In-none (is_field_at t.stack (length zeros)) w.cells (λ c k. In-none _ (fields_of c.object) (λ f m. unsealed c k f m))

  -- the stack's region is the one that is found there
  pub stack_found : region_in w.regions t.stack ≡ Some own_region.0
  stack_found =
      let r = own_region in
      let c : covers r.0 t.stack ≡ true = covered r.0 t.stack (omega (arith, r.2)) (omega (arith, r.2, r.3)) in
      let f = find_there (λ x. covers x t.stack) w.regions r.0 r.1 c in
      let g = found-In (λ x. covers x t.stack) w.regions f.0 f.1 in
      subst (λ (x : Region). region_in w.regions t.stack ≡ Some x) (covers_once w h f.0 r.0 t.stack g.0 r.1 g.1 c) f.1

  pub stack_written : allows w.regions (λ p. p.write) t.stack (length zeros) ≡ true
  stack_written =
      let r = own_region in
      subst (λ (o : Option Region). (elim o as (λ _. Bool) [ None ↦ false | Some x ↦ x.permission.write && nat_le (t.stack + length zeros) (end_of x) ]) ≡ true) (sym stack_found)
      (and_from r.0.permission.write (nat_le (t.stack + length zeros) (end_of r.0)) (ap (λ (p : Permission). p.write) r.4) (le-leb (t.stack + length zeros) (end_of r.0) (omega (arith, r.2, r.3, zeros_length))))

module _ (w : World) (h : IsCoherent w) (t : Task) (live : In t w.tasks) (entry : ℕ × ℕ) (there : is_some (cell_of w entry.0) ≡ true) where
  -- the task anew, on the stack as it is
  abbrev pub renewed : World
  renewed = record w { tasks = with_task (restarted t entry) w.tasks }

  pub renewed_coherent : IsCoherent renewed
  renewed_coherent = changed_coherent w h t (restarted t entry) live refl refl there refl refl refl

  pub restart_coherent : IsCoherent (restart (restarted t entry) w)
  restart_coherent = store_coherent renewed renewed_coherent t.stack zeros (stack_free w h t live) (stack_written w h t live)
