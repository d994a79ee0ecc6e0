-- A live task changed in its pc, registers and fault, or begun again in another cell, keeps the machine coherent.
use Rattle.std.proofs.Common.{◌≡◌, refl, sym, ◌∙◌, ap, subst, arith, Bool, true, false, cond, List, [], ◌++◌, length, map}
use Rattle.std.specs.Prelude.{flat_map, nat_lt, ◌==◌, ◌&&◌, slice_index, if◌then◌else◌, is_some}
use Rattle.std.proofs.lemmas.Bool.{eqb-true, eq-eqb, and_from, and_parts}
use Rattle.std.proofs.lemmas.List.{length-map}
use Rattle.cell_world.specs.declared.state.Origin.{Origin}
use Rattle.cell_world.specs.World.{World, Task, cell_of}
use Rattle.cell_world.specs.Coherent.{IsCoherent, Shape, stack_shape, is_sound_task, has_known_origin}
use Rattle.cell_world.specs.Running.Turn.{with_task}
use Rattle.cell_num.specs.Lists.{In}
use Rattle.cell_num.proofs.Elements.{all-In, In-all, In-map, map_same}
use Rattle.cell_lemmas.proofs.Placement.Distinct.{cell_shapes}
use Rattle.cell_lemmas.proofs.Placement.PlacedAll.{Put}
use Rattle.cell_lemmas.proofs.Fields.Relinked.{map_twice}
use Rattle.cell_num.proofs.Sublists.{pairs_kept}
use Rattle.cell_lemmas.proofs.Tasks.Stacks.{same_task}
use Rattle.cell_lemmas.proofs.Fields.Fixed.{remade_fixed, links_fixed, relinked}

-- what is known of each live task
pub record TaskParts (w : World) (t : Task) : Type 0 where
  pub number : nat_lt t.number w.next_task ≡ true
  pub root : is_some (cell_of w t.root) ≡ true
  pub registers : length t.registers ≡ 32
  pub first : slice_index t.registers 0 ≡ 0

pub task_parts : (w : World) (t : Task) → is_sound_task w t ≡ true → TaskParts w t
task_parts w t h =
    let a = and_parts (nat_lt t.number w.next_task && is_some (cell_of w t.root) && (length t.registers == 32)) (slice_index t.registers 0 == 0) h in
    let b = and_parts (nat_lt t.number w.next_task && is_some (cell_of w t.root)) (length t.registers == 32) a.0 in
    let c = and_parts (nat_lt t.number w.next_task) (is_some (cell_of w t.root)) b.0 in
    record { number = c.0; root = c.1; registers = eqb-true (length t.registers) 32 b.1; first = eqb-true (slice_index t.registers 0) 0 a.1 }

pub task_from : (w : World) (t : Task) → TaskParts w t → is_sound_task w t ≡ true
task_from w t p =
    and_from _ (slice_index t.registers 0 == 0)
    (and_from _ (length t.registers == 32) (and_from (nat_lt t.number w.next_task) (is_some (cell_of w t.root)) p.number p.root) (eq-eqb (length t.registers) 32 p.registers))
    (eq-eqb (slice_index t.registers 0) 0 p.first)

pub live_parts : (w : World) → IsCoherent w → (t : Task) → In t w.tasks → TaskParts w t
live_parts w h t i = task_parts w t (all-In (is_sound_task w) w.tasks h.ready.tasks t i)

-- it may have another root, which is a present cell
module _ (w : World) (h : IsCoherent w) (t u : Task) (live : In t w.tasks) (number : u.number ≡ t.number) (stack : u.stack ≡ t.stack) (root : is_some (cell_of w u.root) ≡ true) (many : length u.registers ≡ 32) (first : slice_index u.registers 0 ≡ 0) (origin : u.origin ≡ t.origin) where
  abbrev put : Task → Task
  put x = if x.number == u.number then u else x

  put_number : (x : Task) → (put x).number ≡ x.number
  put_number x = go (x.number == u.number) refl
    where
      go : (b : Bool) → (x.number == u.number) ≡ b → (cond b u x).number ≡ x.number
      go true e = sym (eqb-true x.number u.number e)
      go false e = refl

  put_stack : (x : Task) → In x w.tasks → stack_shape (put x) ≡ stack_shape x
  put_stack x i = go (x.number == u.number) refl
    where
      go : (b : Bool) → (x.number == u.number) ≡ b → stack_shape (cond b u x) ≡ stack_shape x
      go true e =
          let s : x ≡ t = same_task w h t live x i (eqb-true x.number u.number e ∙ number) in
          ap (λ n. record { start = n; permission = (stack_shape x).permission; size = (stack_shape x).size }) (stack ∙ ap (λ (v : Task). v.stack) (sym s))
      go false e = refl

  new : is_sound_task w u ≡ true
  new =
      let old : TaskParts w t = live_parts w h t live in
      task_from w u (record {
        number = subst (λ n. nat_lt n w.next_task ≡ true) (sym number) old.number;
        root = root;
        registers = many;
        first = first;
      })

  sound_put : (x : Task) → In x w.tasks → is_sound_task w (put x) ≡ true
  sound_put x i = go (x.number == u.number) (all-In (is_sound_task w) w.tasks h.ready.tasks x i)
    where
      go : (b : Bool) → is_sound_task w x ≡ true → is_sound_task w (cond b u x) ≡ true
      go true s = new
      go false s = s

  sound_all : (y : Task) → (x : Task) × In x w.tasks × (y ≡ put x) → is_sound_task w y ≡ true
  sound_all y r = subst (λ v. is_sound_task w v ≡ true) (sym r.2) (sound_put r.0 r.1)

  known : has_known_origin w u ≡ true
  known = subst (λ (x : Origin). nat_lt x.ns (length w.namespaces) ≡ true) (sym origin) (all-In (has_known_origin w) w.tasks h.ready.origins t live)

  known_put : (x : Task) → In x w.tasks → has_known_origin w (put x) ≡ true
  known_put x i = go (x.number == u.number) (all-In (has_known_origin w) w.tasks h.ready.origins x i)
    where
      go : (b : Bool) → has_known_origin w x ≡ true → has_known_origin w (cond b u x) ≡ true
      go true s = known
      go false s = s

  known_all : (y : Task) → (x : Task) × In x w.tasks × (y ≡ put x) → has_known_origin w y ≡ true
  known_all y r = subst (λ v. has_known_origin w v ≡ true) (sym r.2) (known_put r.0 r.1)

  pub changed_coherent : IsCoherent (record w { tasks = with_task u w.tasks })
  changed_coherent = record {
    ready = record {
      alone = h.ready.alone;
      together = h.ready.together;
      counted = h.ready.counted;
      parents = h.ready.parents;
      memory = record {
        regions = h.ready.regions ∙ ap (λ (v : List Shape). Put [] (flat_map cell_shapes w.cells ++ v)) (sym (map_twice stack_shape put w.tasks ∙ map_same _ _ w.tasks put_stack));
        in_space = h.ready.in_space;
        apart = h.ready.apart;
      };
      running = record {
        task_order = pairs_kept (λ (a b : Task). nat_lt a.number b.number) (λ (a b : Task). nat_lt a.number b.number) put w.tasks
            (λ x y i j. ap (λ n. nat_lt n (put y).number) (put_number x) ∙ ap (λ n. nat_lt x.number n) (put_number y)) h.ready.task_order;
        tasks = In-all (is_sound_task w) (map put w.tasks) (λ y i. sound_all y (In-map put w.tasks y i));
        few_tasks = omega (arith, length-map w.tasks put, h.ready.few_tasks);
        task_numbers = h.ready.task_numbers;
      };
      origins = In-all (has_known_origin w) (map put w.tasks) (λ y i. known_all y (In-map put w.tasks y i));
      space = h.ready.space;
    };
    linked = relinked (record w { tasks = with_task u w.tasks }) (links_fixed w h.linked) (remade_fixed w h.linked);
  }

pub task_coherent : (w : World) (h : IsCoherent w) (t u : Task) → In t w.tasks → u.number ≡ t.number → u.stack ≡ t.stack → u.root ≡ t.root → length u.registers ≡ 32 → slice_index u.registers 0 ≡ 0 → u.origin ≡ t.origin
    → IsCoherent (record w { tasks = with_task u w.tasks })
task_coherent w h t u live number stack root many first origin =
    changed_coherent w h t u live number stack (subst (λ n. is_some (cell_of w n) ≡ true) (sym root) (live_parts w h t live).root) many first origin
