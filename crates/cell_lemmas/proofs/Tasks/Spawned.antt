-- A new task with a stack in a free run keeps the machine coherent.
use Rattle.std.proofs.Common.{◌≡◌, refl, sym, ◌∙◌, ap, subst, arith, ℕ, suc, ◌+◌, ◌≤◌, ◌<◌, ◌⊎◌, inl, inr, true, false, List, [], ◌∷◌, ◌++◌, length, map, replicate, length-append, Option, Some, None, Ok}
use Rattle.std.specs.Prelude.{fold, flat_map, nat_lt, nat_le, ◌==◌, ◌/◌, ◌%◌, option_map, option_and_then, is_some}
use Rattle.std.proofs.lemmas.Bool.{eq-eqb, leb-true, ltb-true, lt-ltb}
use Rattle.std.proofs.lemmas.List.{length-replicate, append_assoc, map-append}
use Rattle.std.proofs.lemmas.List.Sums.{fold-append}
use Rattle.cell_world.specs.declared.refusal.Refusal.TheVariants.{TooMany, NoEntry, Unknown}
use Rattle.cell_world.specs.declared.refusal.Many.TheVariants.{Tasks as ManyTasks, TaskNumbers}
use Rattle.cell_num.specs.Limits.{stack_size}
use Rattle.cell_world.specs.declared.state.Origin.{Origin}
use Rattle.cell_world.specs.World.{World, Cell, Region, Task, cell_of}
use Rattle.cell_world.specs.Running.Memory.{covers}
use Rattle.cell_world.specs.Names.{Provider, attached_provider, namespace_named}
use Rattle.cell_world.specs.Linked.Field.{fields_of, place_of}
use Rattle.cell_world.specs.Linked.Relink.{Patch, patch_of, patched, patches_of, bound_entries, remade}
use Rattle.cell_world.specs.Placed.Layout.{permission_of}
use Rattle.cell_world.specs.declared.layout.Class.TheVariants.{Writable}
use Rattle.cell_world.specs.Placed.Place.{with_region, start_of_run}
use Rattle.cell_world.specs.Outcome.{need, found}
use Rattle.cell_world.specs.declared.reply.Reply.{Reply}
use Rattle.cell_world.specs.declared.reply.Reply.TheVariants.{Spawn as SpawnDone}
use Rattle.cell_world.specs.Answer.{Done, done, space_of}
use Rattle.cell_world.specs.Coherent.{IsCoherent, Shape, shape_of, with_shape, stack_shape, wanted_shapes, is_in_space, is_sound_task, has_known_origin}
use Rattle.cell_world.specs.Commands.SpawnCommand.{with_stack, new_task, next_spawn, entry_named, entry_address}
use Rattle.cell_num.specs.Lists.{equals, In}
use Rattle.cell_num.proofs.Elements.{all-In, In-all, In-map, In-flat_map, found-In, find_there, all_push, pairs_push, position_below}
use Rattle.cell_lemmas.proofs.Outcomes.{bind_ok, then_ok, need_ok, found_ok}
use Rattle.cell_lemmas.proofs.Naming.Appended.{ok_same}
use Rattle.cell_lemmas.proofs.Fields.Relinked.{patches, own_image}
use Rattle.cell_lemmas.proofs.Fields.FieldsInside.{among-In, field_inside, region_There}
use Rattle.cell_lemmas.proofs.Placement.Regions.{passed_by, uncovered}
use Rattle.cell_lemmas.proofs.Placement.Inside.{wide}
use Rattle.cell_lemmas.proofs.Placement.Places.{Disjoint, Spaced, shape_inserted, In-inserted, run_ok, run_disjoint, whole_region, spaced_more}
use Rattle.cell_lemmas.proofs.Placement.PlacedReady.{ready_spaced}
use Rattle.cell_lemmas.proofs.Placement.Distinct.{cell_shapes}
use Rattle.cell_lemmas.proofs.Placement.PlacedAll.{Put}
use Rattle.cell_lemmas.proofs.Fields.Fixed.{remade_fixed, links_fixed, relinked}
use Rattle.cell_lemmas.proofs.Tasks.Stacks.{long}
use Rattle.cell_lemmas.proofs.Tasks.Changed.{TaskParts, live_parts, task_from}
use Rattle.cell_lemmas.proofs.Placement.Bare.{no_image, restored_bare, starts_elsewhere}

abbrev pub new_stack : ℕ → Region
new_stack start = record { start = start; permission = permission_of Writable; bytes = replicate stack_size 0 }

stack_length : length {A = ℕ} (replicate stack_size 0) ≡ 16384
stack_length = length-replicate {A = ℕ} 16384 0

module _ (w : World) (h : IsCoherent w) (start : ℕ) (run : start_of_run w 4 ≡ Ok start) where
  runs : start_of_run w (length {A = ℕ} (replicate stack_size 0) / 4096) ≡ Ok start
  runs = ap (λ n. start_of_run w (n / 4096)) stack_length ∙ run

  pub some_bytes : 0 < length {A = ℕ} (replicate stack_size 0)
  some_bytes = omega (arith, stack_length)

  whole_pages : length {A = ℕ} (replicate stack_size 0) % 4096 ≡ 0
  whole_pages = ap (λ n. n % 4096) stack_length

  pub spaced : Spaced (with_stack w start)
  spaced = spaced_more w (new_stack start) runs some_bytes whole_pages (ready_spaced w h.ready)

  pub apart : (s : Region) → In s w.regions → Disjoint (new_stack start) s
  apart s i =
      run_disjoint w (new_stack start) (run_ok w (length {A = ℕ} (replicate stack_size 0) / 4096) start (omega (arith, stack_length)) runs) some_bytes whole_pages s i
      (whole_region w s (all-In (is_in_space w) w.regions h.ready.in_space s i))

  -- what a region has is not in the stack
  outside : (q : Region) → In q w.regions → (x : ℕ) → q.start ≤ x → x < q.start + length q.bytes → covers (new_stack start) x ≡ false
  outside q i x a b = uncovered (new_stack start) x (λ c d. go (apart q i) c d)
    where
      go : Disjoint (new_stack start) q → start ≤ x → x < start + length {A = ℕ} (replicate stack_size 0) → ⊥
      go (inl e) c d = omega (arith, e, d, a)
      go (inr e) c d = omega (arith, e, c, b)

  no_field : (p : Patch) → In p (patches w) → covers (new_stack start) p.addr ≡ false
  no_field p m =
      let c = In-flat_map (patches_of w) w.cells p m in
      let f = In-map (patch_of c.0 (bound_entries w c.0)) (fields_of c.0.object) p c.2 in
      let q = field_inside w h.ready.regions h.ready.apart h.ready.placed h.ready.objects c.0 c.1 f.0 (among-In c.0.object.entries [] f.0 f.1) in
      let x : p.addr ≡ place_of c.0.placed f.0 = ap (λ (v : Patch). v.addr) f.2 in
      outside q.0 q.1 p.addr (omega (arith, q.2, x)) (omega (arith, q.3, x, wide f.0.kind))

  bare : own_image w (new_stack start) ≡ None
  bare = no_image w (new_stack start) (λ class q c k. starts_elsewhere class c (new_stack start) (λ at e x.
      let f = region_There w h.ready.regions h.ready.apart h.ready.placed h.ready.objects c k class at e in
      clash f.0 (apart f.0 f.1) (long w h f.0 f.1) (f.2 ∙ x)))
    where
      clash : (q : Region) → Disjoint (new_stack start) q → 0 < length q.bytes → q.start ≡ start → ⊥
      clash q (inl e) l s = omega (arith, e, some_bytes, s)
      clash q (inr e) l s = omega (arith, e, l, s)

  stack_remade : remade w (new_stack start) ≡ new_stack start
  stack_remade = ap (λ (x : Region). fold patched x (patches w)) (restored_bare w (new_stack start) bare) ∙ passed_by (new_stack start) (patches w) no_field

  module _ (root entry : ℕ) (origin : Origin) (known : nat_lt origin.ns (length w.namespaces) ≡ true) (there : is_some (cell_of w root) ≡ true) (few : length w.tasks < 64) (free : w.next_task ≤ 65535) where
    abbrev task : Task
    task = new_task w.next_task root entry origin start

    abbrev after : World
    after = record (with_stack w start) { tasks = w.tasks ++ task ∷ []; next_task = suc w.next_task }

    sound_old : (t : Task) → In t w.tasks → is_sound_task after t ≡ true
    sound_old t i =
        let p : TaskParts w t = live_parts w h t i in
        task_from after t (record { number = lt-ltb t.number (suc w.next_task) (omega (arith, ltb-true t.number w.next_task p.number)); root = p.root; registers = p.registers; first = p.first })

    sound_new : is_sound_task after task ≡ true
    sound_new = task_from after task (record { number = lt-ltb w.next_task (suc w.next_task) (omega arith); root = there; registers = refl; first = refl })

    shapes : map shape_of (with_region (new_stack start) w.regions) ≡ wanted_shapes after
    shapes =
        shape_inserted (new_stack start) w.regions
        ∙ (ap (λ n. with_shape (record { start = start; permission = permission_of Writable; size = n }) (map shape_of w.regions)) stack_length
        ∙ (ap (λ (ls : List Shape). with_shape (stack_shape task) ls) h.ready.regions
        ∙ (sym (fold-append (λ shapes s. with_shape s shapes) [] (flat_map cell_shapes w.cells ++ map stack_shape w.tasks) (stack_shape task ∷ []))
        ∙ ap (Put [])
        (append_assoc (flat_map cell_shapes w.cells) (map stack_shape w.tasks) (stack_shape task ∷ [])
        ∙ ap (λ (v : List Shape). flat_map cell_shapes w.cells ++ v) (sym (map-append stack_shape w.tasks (task ∷ [])))))))

    remade_at : (r : Region) → (r ≡ new_stack start) ⊎ In r w.regions → remade w r ≡ r
    remade_at r (inl e) = subst (λ x. remade w x ≡ x) (sym e) stack_remade
    remade_at r (inr i) = remade_fixed w h.linked r i

    pub spawn_coherent : IsCoherent after
    spawn_coherent = record {
      ready = record {
        alone = h.ready.alone;
        together = h.ready.together;
        counted = h.ready.counted;
        parents = h.ready.parents;
        memory = record { regions = shapes; in_space = spaced.in_space; apart = spaced.apart };
        running = record {
          task_order = pairs_push (λ (a b : Task). nat_lt a.number b.number) w.tasks task h.ready.task_order (λ t i. (live_parts w h t i).number);
          tasks = all_push (is_sound_task after) w.tasks task (In-all (is_sound_task after) w.tasks sound_old) sound_new;
          few_tasks = omega (arith, length-append w.tasks (task ∷ []), few);
          task_numbers = omega (arith, free);
        };
        origins = all_push (has_known_origin after) w.tasks task h.ready.origins known;
        space = h.ready.space;
      };
      linked = relinked after (links_fixed w h.linked) (λ r i. remade_at r (In-inserted (new_stack start) r w.regions i));
    }

-- an entry is in a present cell
pub entry_present : (w : World) (ns : ℕ) (symbol : List ℕ) (e : ℕ × ℕ) → entry_named w ns symbol ≡ Some e → is_some (cell_of w e.0) ≡ true
entry_present w ns symbol e q = go (attached_provider w ns symbol) q
  where
    some_same : (a b : ℕ × ℕ) → Some a ≡ Some b → a ≡ b
    some_same a b r = cc

    last : (c : Cell) → In c w.cells → (o : Option ℕ) → option_map (λ addr. (c.id.0, addr)) o ≡ Some e → is_some (cell_of w e.0) ≡ true
    last c i None r = cc
    last c i (Some addr) r =
        let f = find_there (λ x. x.id.0 == c.id.0) w.cells c i (eq-eqb c.id.0 c.id.0 refl) in
        subst (λ (x : ℕ × ℕ). is_some (cell_of w x.0) ≡ true) (some_same (c.id.0, addr) e r) (ap is_some f.1)

    mid : (p : Provider) (o : Option Cell) → cell_of w p.cell ≡ o → option_and_then (λ c. option_map (λ addr. (c.id.0, addr)) (entry_address c p.symbol)) o ≡ Some e → is_some (cell_of w e.0) ≡ true
    mid p None k r = cc
    mid p (Some c) k r = last c (found-In (λ x. x.id.0 == p.cell) w.cells c k).0 (entry_address c p.symbol) r

    go : (o : Option Provider) → option_and_then (λ p. option_and_then (λ c. option_map (λ addr. (c.id.0, addr)) (entry_address c p.symbol)) (cell_of w p.cell)) o ≡ Some e → is_some (cell_of w e.0) ≡ true
    go None r = cc
    go (Some p) r = mid p (cell_of w p.cell) refl r

-- what an accepted `spawn` answers with
spawned : (w : World) (h : IsCoherent w) (start : ℕ) (run : start_of_run w 4 ≡ Ok start) (entry : ℕ × ℕ) (origin : Origin) (reply : Reply) → nat_lt origin.ns (length w.namespaces) ≡ true → is_some (cell_of w entry.0) ≡ true → length w.tasks < 64 → w.next_task ≤ 65535 → (d : Done)
    → done reply (record (with_stack w start) { tasks = w.tasks ++ new_task w.next_task entry.0 entry.1 origin start ∷ []; next_task = suc w.next_task }) ≡ Ok d → IsCoherent d.world
spawned w h start run entry origin reply known there few free d e =
    subst IsCoherent (ap (λ (x : Done). x.world) (ok_same _ d e)) (spawn_coherent w h start run entry.0 entry.1 origin known there few free)

pub spawn_keeps : (w : World) (name symbol : List ℕ) (arg : ℕ) (d : Done) → IsCoherent w → next_spawn w name symbol arg ≡ Ok d → IsCoherent d.world
spawn_keeps w name symbol arg d h e =
    let ns = bind_ok (space_of w name) _ d e in
    let few = then_ok (need (nat_lt (length w.tasks) 64) (TooMany ManyTasks 64)) _ d ns.2 in
    let free = then_ok (need (nat_le w.next_task 65535) (TooMany TaskNumbers 65535)) _ d few.2 in
    let entry = bind_ok (found (entry_named w ns.0 symbol) (NoEntry symbol)) _ d free.2 in
    let stack = bind_ok (start_of_run w 4) _ d entry.2 in
    spawned w h stack.0 stack.1 entry.0 (record { ns = ns.0; name = symbol; arg = arg }) (SpawnDone w.next_task entry.0.1)
    (lt-ltb ns.0 (length w.namespaces) (position_below (λ space. equals space.name name) w.namespaces ns.0 (found_ok (namespace_named w name) (Unknown name) ns.0 ns.1)))
    (entry_present w ns.0 symbol entry.0 (found_ok (entry_named w ns.0 symbol) (NoEntry symbol) entry.0 entry.1))
    (ltb-true (length w.tasks) 64 (need_ok _ _ few.0 few.1)) (leb-true w.next_task 65535 (need_ok _ _ free.0 free.1)) d stack.2
