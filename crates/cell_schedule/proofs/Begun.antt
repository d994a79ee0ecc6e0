-- A task that starts on four free pages, or for which there are none.
use Rattle.std.proofs.Common.{◌≡◌, refl, sym, ◌∙◌, ap, subst, arith, ℕ, ◌+◌, ◌-◌, ◌*◌, ◌^◌, ◌≤◌, ◌<◌, inl, inr, Bool, true, false, ◌||◌, List, [], length, replicate, Option, Some, None, Ok, Err}
use Rattle.std.specs.Prelude.{◌%◌, All, is_some, nat_le}
use Rattle.std.specs.List.{list_all}
use Rattle.std.proofs.lemmas.Bool.{le-leb, lt-ltb, or_left, or_right}
use Rattle.std.proofs.lemmas.List.{length-replicate}
use Rattle.cell_world.specs.declared.refusal.Refusal.TheVariants.{Exhausted}
use Rattle.cell_world.specs.declared.reply.Reply.TheVariants.{Spawn as SpawnDone}
use Rattle.cell_world.specs.Answer.{done}
use Rattle.cell_world.specs.Running.Memory.{end_of}
use Rattle.cell_world.specs.Outcome.{Outcome, ◌>>=◌}
use Rattle.cell_world.specs.Placed.Pages.{filled, is_free_run, is_taken_run, longest_run, lowest_run}
use Rattle.cell_world.specs.Placed.Place.{page_table, start_of_run}
use Rattle.cell_world.specs.Placed.Layout.{permission_of}
use Rattle.cell_world.specs.declared.layout.Class.TheVariants.{Writable}
use Rattle.cell_world.specs.Commands.SpawnCommand.{new_task}
use Rattle.cell_world.specs.declared.state.Origin.{Origin}
use Rattle.cell_world.specs.World.{World, Region, cell_of}
use Rattle.cell_lemmas.specs.Clear.{IsClear}
use Rattle.cell_num.proofs.Elements.{All-In, In-all}
use Rattle.cell_lemmas.proofs.Placement.Places.{FreeAt, run_at, table_length}
use Rattle.cell_lemmas.proofs.Placement.Tables.{run_clear, table_filled}
use Rattle.cell_mem.specs.State.{IsRoom, MemoryState, mapped, one_more, reserved}
use Rattle.cell_mem.specs.Undo.{with_mapped}
use Rattle.cell_place.specs.declared.search.NoRun.{NoRun}
use Rattle.cell_place.specs.declared.search.Run.{Run}
use Rattle.cell_place.specs.Runs.{run_of}
use Rattle.cell_place.specs.Space.{SpaceState, with_run}
use Rattle.cell_task.specs.State.{TasksState, with_new}
use Rattle.cell_lemmas.proofs.Tasks.Spawned.{spawn_coherent}
use Rattle.cell_machine.specs.declared.machine.Machine.{Machine}
use Rattle.cell_machine.specs.Machine.{IsSound, world_of}
use Rattle.cell_machine.proofs.Counts.{one_stack}
use Rattle.cell_machine.specs.Does.{HasDone}
use Rattle.cell_schedule.specs.Starts.{started, with_started}
use Rattle.cell_schedule.proofs.Stacks.{given_again, run_found, run_missed, taken_there}

-- no region has a byte of the run
clear_is : (start n : ℕ) (r : Region) → IsClear start n r → (nat_le (end_of r) start || nat_le (start + n) r.start) ≡ true
clear_is start n r (inl h) = or_right (nat_le (end_of r) start) (nat_le (start + n) r.start) (le-leb (start + n) r.start h)
clear_is start n r (inr h) = or_left (nat_le (end_of r) start) (nat_le (start + n) r.start) (le-leb (end_of r) start h)

one_low : (count : ℕ) → one_more count ≤ 2 ^ 64 - 1
one_low count = omega arith

page_whole : (base page : ℕ) → base % 4096 ≡ 0 → (base + 4096 * page) % 4096 ≡ 0
page_whole base page e = omega (arith, e)

module _ (m : Machine) (sound : IsSound m) where
  abbrev w : World
  w = world_of m

  abbrev run_start : Option ℕ → Outcome ℕ
  run_start o = elim o as (λ _. Outcome ℕ) [ None ↦ Err (Exhausted 4 (longest_run (page_table w))) | Some page ↦ Ok (w.base + 4096 * page) ]

  pub full : (entry : ℕ × ℕ) (origin : Origin) (none : NoRun) → Err none ≡ run_of m.space.taken 4 → started w entry origin ≡ Err (Exhausted none.wanted none.largest)
  full entry origin none e =
      let r = run_missed (page_table w) 4 none (e ∙ ap (λ (t : List Bool). run_of t 4) sound.table) in
      ap (λ (o : Option ℕ). run_start o >>= (λ stack. done (SpawnDone w.next_task entry.1) (with_started w entry origin stack))) r.0
      ∙ ap (λ (x : NoRun). Err (Exhausted x.wanted x.largest)) (sym r.1)

  module _ (run : Run) (is : Ok run ≡ run_of m.space.taken 4) where
    found : (lowest_run (page_table w) 4 ≡ Some run.page) × (run.count ≡ 4)
    found = run_found (page_table w) 4 run (is ∙ ap (λ (t : List Bool). run_of t 4) sound.table)

    free : FreeAt w 4 run.page
    free = run_at w 4 run.page (omega arith) found.0

    within : run.page + run.count ≤ length m.space.taken
    within = let long : length m.space.taken ≡ length (page_table w) = ap length sound.table in omega (arith, free.room, table_length w, long, found.1)

    unused : is_free_run m.space.taken run.page run.count ≡ true
    unused = ap (λ (t : List Bool). is_free_run t run.page run.count) sound.table ∙ (ap (is_free_run (page_table w) run.page) found.1 ∙ free.free)

    -- what was taken can be given back, and then nothing was done
    pub there : is_taken_run (with_run m.space run true).taken run.page run.count ≡ true
    there = taken_there m.space.taken run.page run.count within

    pub given : with_run (with_run m.space run true) run false ≡ m.space
    given = ap (λ (t : List Bool). record m.space { taken = t }) (given_again m.space.taken run.page run.count within unused)

    abbrev stack : ℕ
    stack = w.base + 4096 * run.page

    starts : start_of_run w 4 ≡ Ok stack
    starts = ap run_start found.0

    apart : list_all (λ r. nat_le (end_of r) stack || nat_le (stack + 16384) r.start) w.regions ≡ true
    apart =
        let clear : All (IsClear stack 16384) w.regions = run_clear w 4 run.page (omega arith) found.0 sound.coherent.ready.in_space in
        In-all (λ (r : Region). nat_le (end_of r) stack || nat_le (stack + 16384) r.start) w.regions (λ r k. clear_is stack 16384 r (All-In (IsClear stack 16384) w.regions clear r k))

    room : IsRoom (reserved m.memory 1) stack 16384
    room = record {
      aligned = page_whole w.base run.page sound.coherent.ready.space.aligned;
      whole = refl;
      filled = omega arith;
      above = omega arith;
      below = omega (arith, free.room);
      apart = apart;
      spare = omega arith;
    }

    pub stack_at : (space : SpaceState) → space ≡ with_run m.space run true → (addr : ℕ) → addr ≡ space.base + 4096 * run.page → addr ≡ stack
    stack_at space taken addr at = at ∙ (ap (λ (s : SpaceState). s.base + 4096 * run.page) taken ∙ ap (λ (base : ℕ). base + 4096 * run.page) sound.base)

    -- there is room for the stack
    pub room_for : (memory : MemoryState) → memory ≡ reserved m.memory 1 → (addr : ℕ) → addr ≡ stack → (bytes : List ℕ) → bytes ≡ replicate 16384 0 → IsRoom memory addr (length bytes)
    room_for memory reserve addr at bytes zeros =
        let long : length bytes ≡ 16384 = ap length zeros ∙ length-replicate {A = ℕ} 16384 0 in
        subst (λ (s : MemoryState). IsRoom s addr (length bytes)) (sym reserve)
        (subst (λ (a : ℕ). IsRoom (reserved m.memory 1) a (length bytes)) (sym at)
        (subst (λ (n : ℕ). IsRoom (reserved m.memory 1) stack n) (sym long) room))

    module _ (entry : ℕ × ℕ) (origin : Origin) (known : origin.ns < length w.namespaces) (present : is_some (cell_of w entry.0) ≡ true) (few : length m.tasks.tasks < 64) (low : m.tasks.next ≤ 65535) where
      abbrev region : Region
      region = record { start = stack; permission = permission_of Writable; bytes = replicate 16384 0 }

      abbrev new : Machine
      new = record m {
        space = with_run m.space run true;
        memory = mapped (reserved m.memory 1) stack (permission_of Writable) (replicate 16384 0);
        tasks = with_new m.tasks (new_task m.tasks.next entry.0 entry.1 origin stack);
      }

      table_begun : (with_run m.space run true).taken ≡ page_table (world_of new)
      table_begun =
          ap (λ (t : List Bool). filled t run.page run.count true) sound.table
          ∙ (ap (λ (n : ℕ). filled (page_table w) run.page n true) found.1
          ∙ sym (table_filled w region run.page 4 refl (length-replicate {A = ℕ} 16384 0) free.room))

      begun_sound : IsSound new
      begun_sound = record {
        coherent = spawn_coherent w sound.coherent stack starts entry.0 entry.1 origin (lt-ltb origin.ns (length w.namespaces) known) present few low;
        parts = record {
          joined = sound.joined;
          table = table_begun;
          base = sound.base;
          soft = sound.soft;
          sections = sound.sections;
          seals = sound.seals;
          patches = sound.patches;
          maps = one_low m.memory.maps;
        };
        undo = ap (with_mapped region) sound.undo;
      }

      begun : HasDone (started w entry origin) 1 m (SpawnDone m.tasks.next entry.1) new
      begun =
          one_stack (started w entry origin) m new (SpawnDone m.tasks.next entry.1) sound begun_sound
          (ap (λ (o : Outcome ℕ). o >>= (λ stack. done (SpawnDone w.next_task entry.1) (with_started w entry origin stack))) starts)
          refl refl refl refl

      abbrev by_parts : SpaceState → MemoryState → TasksState → Machine
      by_parts space memory tasks = record m { space = space; memory = memory; tasks = tasks }

      -- the machine by its parts
      pub begun_by : (space : SpaceState) → space ≡ with_run m.space run true → (reserve : MemoryState) → reserve ≡ reserved m.memory 1 → (addr : ℕ) → addr ≡ stack → (bytes : List ℕ) → bytes ≡ replicate 16384 0
          → (memory : MemoryState) → memory ≡ mapped reserve addr (permission_of Writable) bytes → (tasks : TasksState) → tasks ≡ with_new m.tasks (new_task m.tasks.next entry.0 entry.1 origin addr) → (number : ℕ) → number ≡ m.tasks.next
          → HasDone (started w entry origin) 1 m (SpawnDone number entry.1) (record m { space = space; memory = memory; tasks = tasks })
      begun_by space s reserve r addr a bytes b memory e tasks t number n =
          let is_memory : memory ≡ mapped (reserved m.memory 1) stack (permission_of Writable) (replicate 16384 0) =
          e
          ∙ (ap (λ (x : MemoryState). mapped x addr (permission_of Writable) bytes) r
          ∙ (ap (λ (x : ℕ). mapped (reserved m.memory 1) x (permission_of Writable) bytes) a
          ∙ ap (λ (x : List ℕ). mapped (reserved m.memory 1) stack (permission_of Writable) x) b)) in
          let is_tasks : tasks ≡ with_new m.tasks (new_task m.tasks.next entry.0 entry.1 origin stack) = t ∙ ap (λ (x : ℕ). with_new m.tasks (new_task m.tasks.next entry.0 entry.1 origin x)) a in
          let same : by_parts space memory tasks ≡ new =
          ap (λ (x : SpaceState). by_parts x memory tasks) s
          ∙ (ap (λ (x : MemoryState). by_parts (with_run m.space run true) x tasks) is_memory
          ∙ ap (λ (x : TasksState). by_parts (with_run m.space run true) (mapped (reserved m.memory 1) stack (permission_of Writable) (replicate 16384 0)) x) is_tasks) in
          subst (λ (k : ℕ). HasDone (started w entry origin) 1 m (SpawnDone k entry.1) (by_parts space memory tasks)) (sym n)
          (subst (λ (x : Machine). HasDone (started w entry origin) 1 m (SpawnDone m.tasks.next entry.1) x) (sym same) begun)
