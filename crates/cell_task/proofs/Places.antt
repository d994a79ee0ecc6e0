-- What the fields say of the live tasks, and what is left true of them.
use Rattle.std.proofs.Common.{◌≡◌, refl, sym, ap, subst, ◌∙◌, arith, ℕ, zero, suc, ◌+◌, ◌<◌, true, List, [], ◌∷◌, ◌++◌, Option, Some, None, length, get_or, map, is_some, Bor, add-one, length-append}
use Rattle.std.specs.Prelude.{option_map}
use Rattle.std.specs.List.{remove}
use Rattle.std.specs.Option.{option_copied}
use Rattle.std.proofs.lemmas.Bool.{false≢true}
use Rattle.std.proofs.lemmas.List.{length-map}
use Rattle.slab.specs.Slab.{Slab, get, Updates, with_value}
use Rattle.slab.proofs.SlabLemmas.{Updates-with_value}
use Rattle.cell_world.specs.World.{Task}
use Rattle.cell_world.specs.Running.Turn.{with_task}
use Rattle.cell_task.specs.declared.task.Task.{Task as LiveTask}
use Rattle.cell_task.specs.declared.tasks.Tasks.TheInside.{Inside}
use Rattle.cell_task.specs.Inside.{HasValues, IsSound, state_of, tasks_at}
use Rattle.cell_task.specs.Numbers.{HasAt, Lacks}
use Rattle.cell_task.specs.State.{TasksState, live_in, seen_as, with_changed, with_new, without}
use Rattle.cell_task.proofs.Arena.{rising_pushed, rising_removed, value_of, value_at, numbers_of, found_at, unfound_at, fresh, pushed_values, pushed_tasks, changed_values, changed_tasks, removed_values, removed_tasks}

abbrev pub tasks_of : Slab LiveTask → Inside → List Task
tasks_of arena i = tasks_at (get arena) i.numbers.items i.keys.items

module _ (i : Inside) (sound : IsSound i) where
  pub numbers_are : map (λ t. t.number) (state_of i).tasks ≡ i.numbers.items
  numbers_are = numbers_of (get i.arena) i.numbers.items i.keys.items sound.paired sound.values

  pub count_is : length (state_of i).tasks ≡ length i.numbers.items
  count_is = sym (length-map (state_of i).tasks (λ t. t.number)) ∙ ap length numbers_are

  pub not_live : (task : ℕ) → Lacks i.numbers.items task → live_in (state_of i) task ≡ None
  not_live task lacks = unfound_at (get i.arena) i.numbers.items i.keys.items task sound.paired sound.values lacks

  module _ (place task : ℕ) (at : HasAt i.numbers.items place task) where
    pub live_at : (t : LiveTask) → get i.arena (get_or i.keys.items place 0) ≡ Some t → live_in (state_of i) task ≡ Some (seen_as task t)
    live_at t here =
        subst (λ (n : ℕ). live_in (state_of i) n ≡ Some (seen_as n t)) at.is
        (found_at (get i.arena) 1 i.numbers.items i.keys.items i.next place t sound.rising sound.paired sound.values at.inside here)

    -- what its key has is the task
    pub stands_at : (t : LiveTask) → get i.arena (get_or i.keys.items place 0) ≡ Some t → with_changed (state_of i) (seen_as task t) ≡ state_of i
    stands_at t here =
        sym (ap (λ (ts : List Task). let s : TasksState = record { tasks = ts; next = i.next } in s)
        (changed_tasks (get i.arena) (get i.arena) (get_or i.keys.items place 0) (λ k other. refl) 1 i.numbers.items i.keys.items i.next place t sound.rising sound.paired sound.values at.inside refl here
        ∙ ap (λ (n : ℕ). with_task (seen_as n t) (state_of i).tasks) at.is))

    pub key_inside : place < length i.keys.items
    key_inside = omega (arith, at.inside, sound.paired)

    pub has_value : is_some (get i.arena (get_or i.keys.items place 0)) ≡ true
    has_value = value_at (get i.arena) i.keys.items place sound.values key_inside

    pub no_value : (key : ℕ) → key ≡ get_or i.keys.items place 0 → None ≡ get i.arena key → ⊥
    no_value key e none = false≢true (ap is_some (none ∙ ap (get i.arena) e) ∙ has_value)

    pub got_is : (o : Option (Bor LiveTask)) (key : ℕ) → key ≡ get_or i.keys.items place 0 → option_copied o ≡ get i.arena key
        → option_map (λ t. seen_as task t.now) o ≡ live_in (state_of i) task
    got_is None key e got = absurd (no_value key e got)
    got_is (Some t) key e got = sym (live_at t.now (sym (got ∙ ap (get i.arena) e)))

    module _ (j : Inside) (key : ℕ) (e : key ≡ get_or i.keys.items place 0) where
      -- the value of a task is another
      module _ (t : LiveTask) (now : j.arena ≡ with_value i.arena key t) (numbers : j.numbers.items ≡ i.numbers.items) (keys : j.keys.items ≡ i.keys.items) (next : j.next ≡ i.next) where
        changes : Updates i.arena j.arena key (Some t)
        changes =
            let v = value_of (get i.arena key) (ap (λ k. is_some (get i.arena k)) e ∙ has_value) in
            subst (λ (s : Slab LiveTask). Updates i.arena s key (Some t)) (sym now) (Updates-with_value i.arena key t (subst (λ o. is_some o ≡ true) (sym v.1) refl))

        pub sound_changed : IsSound j
        sound_changed = record {
          rising = rw (numbers, next) sound.rising;
          paired = rw (numbers, keys) sound.paired;
          values = rw keys (changed_values (get i.arena) (get j.arena) key changes.others i.keys.items (ap is_some changes.changed) sound.values);
        }

        pub state_changed : state_of j ≡ record (state_of i) { tasks = with_task (seen_as task t) (state_of i).tasks }
        state_changed =
            ap (λ (ns : List ℕ). let s : TasksState = record { tasks = tasks_at (get j.arena) ns j.keys.items; next = j.next } in s) numbers
            ∙ ap (λ (ks : List ℕ). let s : TasksState = record { tasks = tasks_at (get j.arena) i.numbers.items ks; next = j.next } in s) keys
            ∙ ap (λ (n : ℕ). let s : TasksState = record { tasks = tasks_of j.arena i; next = n } in s) next
            ∙ ap (λ (ts : List Task). let s : TasksState = record { tasks = ts; next = i.next } in s)
            (changed_tasks (get i.arena) (get j.arena) key changes.others 1 i.numbers.items i.keys.items i.next place t sound.rising sound.paired sound.values at.inside (sym e) changes.changed
            ∙ ap (λ (n : ℕ). with_task (seen_as n t) (state_of i).tasks) at.is)

      -- the task is taken away
      module _ (up : Updates i.arena j.arena key None) (numbers : j.numbers.items ≡ remove i.numbers.items place) (keys : j.keys.items ≡ remove i.keys.items place) (next : j.next ≡ i.next) where
        paired_removed : (ns ks : List ℕ) (k : ℕ) → length ks ≡ length ns → length (remove ks k) ≡ length (remove ns k)
        paired_removed [] [] zero same = refl
        paired_removed [] [] (suc k) same = refl
        paired_removed [] (x ∷ ks) k same = absurd (omega (arith, same))
        paired_removed (n ∷ ns) [] k same = absurd (omega (arith, same))
        paired_removed (n ∷ ns) (x ∷ ks) zero same = omega (arith, same)
        paired_removed (n ∷ ns) (x ∷ ks) (suc k) same = ap suc (paired_removed ns ks k (omega (arith, same)))

        pub sound_removed : IsSound j
        sound_removed = record {
          rising = rw (numbers, next) (rising_removed 1 i.numbers.items i.next place sound.rising);
          paired = rw (numbers, keys) (paired_removed i.numbers.items i.keys.items place sound.paired);
          values = rw keys (removed_values (get i.arena) (get j.arena) key up.others i.keys.items place key_inside (sym e) sound.values);
        }

        pub state_removed : state_of j ≡ without (state_of i) task
        state_removed =
            ap (λ (ns : List ℕ). let s : TasksState = record { tasks = tasks_at (get j.arena) ns j.keys.items; next = j.next } in s) numbers
            ∙ ap (λ (ks : List ℕ). let s : TasksState = record { tasks = tasks_at (get j.arena) (remove i.numbers.items place) ks; next = j.next } in s) keys
            ∙ ap (λ (n : ℕ). let s : TasksState = record { tasks = tasks_at (get j.arena) (remove i.numbers.items place) (remove i.keys.items place); next = n } in s) next
            ∙ ap (λ (ts : List Task). let s : TasksState = record { tasks = ts; next = i.next } in s)
            (removed_tasks (get i.arena) (get j.arena) key up.others 1 i.numbers.items i.keys.items i.next place sound.rising sound.paired sound.values at.inside (sym e))
            ∙ ap (λ (n : ℕ). without (state_of i) n) at.is

  -- more room alone
  pub sound_room : (j : Inside) → j.arena.slots ≡ i.arena.slots → j.numbers.items ≡ i.numbers.items → j.keys.items ≡ i.keys.items → j.next ≡ i.next → IsSound j
  sound_room j slots numbers keys next = record {
    rising = rw (numbers, next) sound.rising;
    paired = rw (numbers, keys) sound.paired;
    values = rw keys (subst (λ (xs : List (Option LiveTask)). HasValues (λ key. get_or xs key None) i.keys.items) (sym slots) sound.values);
  }

  -- one more task
  module _ (r : Slab LiveTask) (j : Inside) (key : ℕ) (t : LiveTask) (slots : r.slots ≡ i.arena.slots) (vacant : get r key ≡ None) (up : Updates r j.arena key (Some t))
      (numbers : j.numbers.items ≡ i.numbers.items ++ i.next ∷ []) (keys : j.keys.items ≡ i.keys.items ++ key ∷ []) (next : j.next ≡ i.next + 1) where
    values_before : HasValues (get r) i.keys.items
    values_before = subst (λ (xs : List (Option LiveTask)). HasValues (λ k. get_or xs k None) i.keys.items) (sym slots) sound.values

    pub sound_pushed : IsSound j
    sound_pushed = record {
      rising = rw (numbers, next) (rising_pushed 1 i.numbers.items i.next sound.rising);
      paired = rw (numbers, keys) (omega (arith, sound.paired, length-append i.numbers.items (i.next ∷ []), length-append i.keys.items (key ∷ [])));
      values = rw keys (pushed_values (get r) (get j.arena) key up.others i.keys.items (fresh (get r) (get j.arena) key up.others i.keys.items vacant values_before) (ap is_some up.changed) values_before);
    }

    pub state_pushed : state_of j ≡ with_new (state_of i) (seen_as i.next t)
    state_pushed =
        ap (λ (ns : List ℕ). let s : TasksState = record { tasks = tasks_at (get j.arena) ns j.keys.items; next = j.next } in s) numbers
        ∙ ap (λ (ks : List ℕ). let s : TasksState = record { tasks = tasks_at (get j.arena) (i.numbers.items ++ i.next ∷ []) ks; next = j.next } in s) keys
        ∙ ap (λ (n : ℕ). let s : TasksState = record { tasks = tasks_at (get j.arena) (i.numbers.items ++ i.next ∷ []) (i.keys.items ++ key ∷ []); next = n } in s) (next ∙ add-one i.next)
        ∙ ap (λ (ts : List Task). let s : TasksState = record { tasks = ts; next = suc i.next } in s)
        (pushed_tasks (get r) (get j.arena) key up.others i.numbers.items i.keys.items i.next t sound.paired (fresh (get r) (get j.arena) key up.others i.keys.items vacant values_before) up.changed
        ∙ ap (λ (xs : List (Option LiveTask)). tasks_at (λ k. get_or xs k None) i.numbers.items i.keys.items ++ seen_as i.next t ∷ []) slots)
