-- A machine without one of its tasks, whose stack has been given back, is sound again.
use Rattle.std.proofs.Common.{◌≡◌, sym, ◌∙◌, ap, ap₂, subst, ℕ, ◌-◌, ◌*◌, ◌^◌, ◌<◌, ◌≤◌, arith, true, false, Bool, List, length, Some}
use Rattle.std.specs.Prelude.{◌==◌, is_some}
use Rattle.std.proofs.lemmas.Bool.{eq-eqb, eqb-true}
use Rattle.cell_world.specs.declared.state.LinkRow.{LinkRow}
use Rattle.cell_world.specs.declared.state.Namespace.{Namespace}
use Rattle.cell_world.specs.declared.state.NewCell.{NewCell}
use Rattle.cell_world.specs.World.{Cell, Region, Task, task_of}
use Rattle.cell_world.specs.Coherent.{IsCoherent}
use Rattle.cell_world.specs.Placed.Pages.{filled, is_taken_run}
use Rattle.cell_world.specs.Placed.Place.{page_table}
use Rattle.cell_world.specs.Running.Turn.{without_task}
use Rattle.cell_num.specs.Lists.{In}
use Rattle.cell_num.proofs.Elements.{found-In, find_there}
use Rattle.cell_mem.specs.State.{MemoryState, region_from, size_of, unmapped}
use Rattle.cell_mem.specs.Undo.{with_unmapped}
use Rattle.cell_place.specs.Space.{SpaceState}
use Rattle.cell_space.specs.declared.cell.SpaceCell.{SpaceCell}
use Rattle.cell_space.specs.Joined.{AreJoined, cells_of}
use Rattle.cell_task.specs.State.{TasksState, without}
use Rattle.cell_commit.specs.Seals.{seal_table}
use Rattle.cell_lemmas.proofs.Placement.Bare.{region_once}
use Rattle.cell_lemmas.proofs.Tasks.Killed.{kill_coherent}
use Rattle.cell_machine.specs.declared.machine.Machine.{Machine}
use Rattle.cell_machine.specs.Machine.{IsSound, field_bytes, keys_of, soft_of, world_by, world_of}
use Rattle.cell_schedule.specs.Ends.{IsEnded}
use Rattle.cell_schedule.proofs.Freed.{Stack, page_of, stack_of, stack_taken, table_freed}
use Rattle.cell_schedule.proofs.Unsealed.{seals_left}

module _ (old : Machine) (sound : IsSound old) (t : Task) (live : task_of (world_of old) t.number ≡ Some t) where
  there : In t old.tasks.tasks
  there = (found-In (λ u. u.number == t.number) old.tasks.tasks t live).0

  own : Stack (world_of old) t.stack
  own = stack_of (world_of old) sound.coherent t there

  found : (r : Region) × (region_from old.memory t.stack ≡ Some r)
  found = find_there (λ r. r.start == t.stack) old.memory.regions own.region own.there (eq-eqb own.region.start t.stack own.start_is)

  -- the region of the stack is there
  pub stack_mapped : is_some (region_from old.memory t.stack) ≡ true
  stack_mapped = ap is_some found.1

  -- it has four pages
  pub stack_long : size_of (region_from old.memory t.stack) ≡ 16384
  stack_long =
      let f = found-In (λ r. r.start == t.stack) old.memory.regions found.0 found.1 in
      let same : found.0 ≡ own.region = region_once (world_of old) sound.coherent found.0 own.region f.0 own.there (eqb-true found.0.start t.stack f.1 ∙ sym own.start_is) in
      ap size_of found.1 ∙ (ap (λ (r : Region). length r.bytes) same ∙ own.size)

  -- which are taken
  pub stack_given : is_taken_run old.space.taken (page_of old.space.base t.stack) 4 ≡ true
  stack_given =
      ap (λ (base : ℕ). is_taken_run old.space.taken (page_of base t.stack) 4) sound.base
      ∙ (ap (λ (table : List Bool). is_taken_run table (page_of old.memory.base t.stack) 4) sound.table
      ∙ stack_taken (world_of old) sound.coherent t there)

  -- in the space
  pub stack_above : old.space.base ≤ t.stack
  stack_above = omega (arith, own.stands, sound.base)

  pub stack_low : page_of old.space.base t.stack < 4096
  stack_low =
      let most = sound.coherent.ready.space.most in
      let page : page_of old.space.base t.stack ≡ page_of old.memory.base t.stack = ap (λ (base : ℕ). page_of base t.stack) sound.base in
      omega (arith, own.fits, most, page)

  module _ (new : Machine) (is : IsEnded old t new) where
    cells_same : cells_of new.cells.items new.spaces.cells ≡ cells_of old.cells.items old.spaces.cells
    cells_same = ap₂ cells_of is.cells is.known

    pub world_ended : world_of new ≡ without_task (world_of old) t
    world_ended =
        ap (λ (m : MemoryState). world_by m new.spaces.namespaces (cells_of new.cells.items new.spaces.cells) new.graph.rows new.tasks new.next new.swaps) is.memory
        ∙ (ap (λ (spaces : List Namespace). world_by (unmapped old.memory t.stack) spaces (cells_of new.cells.items new.spaces.cells) new.graph.rows new.tasks new.next new.swaps) is.namespaces
        ∙ (ap (λ (cells : List Cell). world_by (unmapped old.memory t.stack) old.spaces.namespaces cells new.graph.rows new.tasks new.next new.swaps) cells_same
        ∙ (ap (λ (rows : List LinkRow). world_by (unmapped old.memory t.stack) old.spaces.namespaces (cells_of old.cells.items old.spaces.cells) rows new.tasks new.next new.swaps) is.rows
        ∙ (ap (λ (tasks : TasksState). world_by (unmapped old.memory t.stack) old.spaces.namespaces (cells_of old.cells.items old.spaces.cells) old.graph.rows tasks new.next new.swaps) is.tasks
        ∙ ap₂ (world_by (unmapped old.memory t.stack) old.spaces.namespaces (cells_of old.cells.items old.spaces.cells) old.graph.rows (without old.tasks t.number)) is.next is.swaps))))

    pub patches_ended : new.memory.patches ≡ old.memory.patches
    patches_ended = ap (λ (m : MemoryState). m.patches) is.memory

    pub maps_ended : new.memory.maps ≡ old.memory.maps
    maps_ended = ap (λ (m : MemoryState). m.maps) is.memory

    table_ended : new.space.taken ≡ page_table (world_of new)
    table_ended =
        ap (λ (s : SpaceState). s.taken) is.space
        ∙ (ap (λ (base : ℕ). filled old.space.taken (page_of base t.stack) 4 false) sound.base
        ∙ (ap (λ (table : List Bool). filled table (page_of old.memory.base t.stack) 4 false) sound.table
        ∙ (sym (table_freed (world_of old) sound.coherent t there)
        ∙ ap page_table (sym world_ended))))

    seals_ended : new.memory.sealed ≡ seal_table new.memory.base (4096 * new.memory.pages) (field_bytes new.cells.items)
    seals_ended =
        ap (λ (m : MemoryState). m.sealed) is.memory
        ∙ (ap (λ (n : ℕ). filled old.memory.sealed (t.stack - old.memory.base) n false) stack_long
        ∙ (ap (λ (table : List Bool). filled table (t.stack - old.memory.base) 16384 false) sound.seals
        ∙ (seals_left (world_of old) sound.coherent t there old.cells.items sound.joined.placed
        ∙ (ap (λ (m : MemoryState). seal_table m.base (4096 * m.pages) (field_bytes old.cells.items)) (sym is.memory)
        ∙ ap (λ (cells : List NewCell). seal_table new.memory.base (4096 * new.memory.pages) (field_bytes cells)) (sym is.cells)))))

    pub ended_sound : IsSound new
    ended_sound = record {
      coherent = subst IsCoherent (sym world_ended) (kill_coherent (world_of old) sound.coherent t there);
      parts = record {
        joined = subst (λ (cells : List NewCell). AreJoined cells new.spaces.cells) (sym is.cells) (subst (λ (known : List SpaceCell). AreJoined old.cells.items known) (sym is.known) sound.joined);
        table = table_ended;
        base = ap (λ (s : SpaceState). s.base) is.space ∙ (sound.base ∙ ap (λ (m : MemoryState). m.base) (sym is.memory));
        soft = is.soft ∙ (sound.soft ∙ ap soft_of (sym is.cells));
        sections = is.sections ∙ (sound.sections ∙ ap keys_of (sym is.cells));
        seals = seals_ended;
        patches = subst (λ (n : ℕ). n ≤ 2 ^ 64 - 1) (sym patches_ended) sound.patches;
        maps = subst (λ (n : ℕ). n ≤ 2 ^ 64 - 1) (sym maps_ended) sound.maps;
      };
      undo = ap (λ (m : MemoryState). m.undo) is.memory ∙ ap (with_unmapped t.stack) sound.undo;
    }
