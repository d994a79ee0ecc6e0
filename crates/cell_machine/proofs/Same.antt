-- A machine with other room is the same machine.
use Rattle.std.proofs.Common.{◌≡◌, sym, ◌∙◌, ap, ap₂, subst, ℕ, ◌≤◌, ◌-◌, ◌*◌, ◌^◌, List, length}
use Rattle.cell_world.specs.declared.state.LinkRow.{LinkRow}
use Rattle.cell_world.specs.declared.state.Namespace.{Namespace}
use Rattle.cell_world.specs.declared.state.NewCell.{NewCell}
use Rattle.cell_world.specs.World.{Cell}
use Rattle.cell_world.specs.Coherent.{IsCoherent}
use Rattle.cell_world.specs.Placed.Place.{page_table}
use Rattle.cell_mem.specs.State.{MemoryState}
use Rattle.cell_place.specs.Space.{SpaceState}
use Rattle.cell_space.specs.Joined.{AreJoined, cells_of}
use Rattle.cell_space.specs.declared.cell.SpaceCell.{SpaceCell}
use Rattle.cell_task.specs.State.{TasksState}
use Rattle.cell_commit.specs.Seals.{seal_table}
use Rattle.cell_machine.specs.declared.machine.Machine.{Machine}
use Rattle.cell_machine.specs.Machine.{AreParts, IsSound, field_bytes, keys_of, soft_of, world_by, world_of}
use Rattle.cell_machine.specs.Same.{IsSame, without_counts}

module _ (old new : Machine) (same : IsSame old new) where
  cells_same : cells_of new.cells.items new.spaces.cells ≡ cells_of old.cells.items old.spaces.cells
  cells_same = ap₂ cells_of same.cells same.known

  pub world_same : world_of new ≡ world_of old
  world_same =
      ap (λ (m : MemoryState). world_by m new.spaces.namespaces (cells_of new.cells.items new.spaces.cells) new.graph.rows new.tasks new.next new.swaps) same.memory
      ∙ (ap (λ (spaces : List Namespace). world_by old.memory spaces (cells_of new.cells.items new.spaces.cells) new.graph.rows new.tasks new.next new.swaps) same.namespaces
      ∙ (ap (λ (cells : List Cell). world_by old.memory old.spaces.namespaces cells new.graph.rows new.tasks new.next new.swaps) cells_same
      ∙ (ap (λ (rows : List LinkRow). world_by old.memory old.spaces.namespaces (cells_of old.cells.items old.spaces.cells) rows new.tasks new.next new.swaps) same.rows
      ∙ (ap (λ (tasks : TasksState). world_by old.memory old.spaces.namespaces (cells_of old.cells.items old.spaces.cells) old.graph.rows tasks new.next new.swaps) same.tasks
      ∙ ap₂ (world_by old.memory old.spaces.namespaces (cells_of old.cells.items old.spaces.cells) old.graph.rows old.tasks) same.next same.swaps))))

  pub regions_same : length new.memory.regions ≡ length old.memory.regions
  regions_same = ap (λ (m : MemoryState). length m.regions) same.memory

  pub patches_same : new.memory.patches ≡ old.memory.patches
  patches_same = ap (λ (m : MemoryState). m.patches) same.memory

  pub maps_same : new.memory.maps ≡ old.memory.maps
  maps_same = ap (λ (m : MemoryState). m.maps) same.memory

  pub parts_same : AreParts old → AreParts new
  parts_same s = record {
    joined = subst (λ (cells : List NewCell). AreJoined cells new.spaces.cells) (sym same.cells)
        (subst (λ (known : List SpaceCell). AreJoined old.cells.items known) (sym same.known) s.joined);
    table = ap (λ (x : SpaceState). x.taken) same.space ∙ (s.table ∙ ap page_table (sym world_same));
    base = ap (λ (x : SpaceState). x.base) same.space ∙ (s.base ∙ ap (λ (m : MemoryState). m.base) (sym same.memory));
    soft = same.soft ∙ (s.soft ∙ ap soft_of (sym same.cells));
    sections = same.sections ∙ (s.sections ∙ ap keys_of (sym same.cells));
    seals =
        ap (λ (m : MemoryState). m.sealed) same.memory
        ∙ (s.seals
        ∙ (ap (λ (m : MemoryState). seal_table m.base (4096 * m.pages) (field_bytes old.cells.items)) (sym same.memory)
        ∙ ap (λ (cells : List NewCell). seal_table new.memory.base (4096 * new.memory.pages) (field_bytes cells)) (sym same.cells)));
    patches = subst (λ (m : MemoryState). m.patches ≤ 2 ^ 64 - 1) (sym same.memory) s.patches;
    maps = subst (λ (m : MemoryState). m.maps ≤ 2 ^ 64 - 1) (sym same.memory) s.maps;
  }

  pub sound_same : IsSound old → IsSound new
  sound_same s = record { coherent = subst IsCoherent (sym world_same) s.coherent; parts = parts_same s.parts; undo = ap (λ (m : MemoryState). m.undo) same.memory ∙ s.undo }

-- a machine of which only the counts have risen
module _ (old new : Machine) (same : IsSame old (without_counts old new)) where
  pub world_back : world_of new ≡ world_of old
  world_back = world_same old (without_counts old new) same

  pub sound_back : IsSound old → new.memory.patches ≤ 2 ^ 64 - 1 → new.memory.maps ≤ 2 ^ 64 - 1 → IsSound new
  sound_back sound patches maps =
      let s : IsSound (without_counts old new) = sound_same old (without_counts old new) same sound in
      record {
        coherent = s.coherent;
        parts = record { joined = s.joined; table = s.table; base = s.base; soft = s.soft; sections = s.sections; seals = s.seals; patches = patches; maps = maps };
        undo = s.undo;
      }

pub counts_same : (old new : Machine) → IsSame old new → IsSame old (without_counts old new)
counts_same old new same = record {
  cells = same.cells;
  soft = same.soft;
  next = same.next;
  swaps = same.swaps;
  namespaces = same.namespaces;
  known = same.known;
  space = same.space;
  spare = same.spare;
  memory = ap (λ (s : MemoryState). let x : MemoryState = record s { patches = old.memory.patches; maps = old.memory.maps } in x) same.memory;
  sections = same.sections;
  rows = same.rows;
  tasks = same.tasks;
}

-- where the counts haven't risen
pub same_counted : (old new : Machine) → IsSame old (without_counts old new) → new.memory.patches ≡ old.memory.patches → new.memory.maps ≡ old.memory.maps → IsSame old new
same_counted old new same patches maps = record {
  cells = same.cells;
  soft = same.soft;
  next = same.next;
  swaps = same.swaps;
  namespaces = same.namespaces;
  known = same.known;
  space = same.space;
  spare = same.spare;
  memory = ap₂ (λ (p q : ℕ). let x : MemoryState = record new.memory { patches = p; maps = q } in x) patches maps ∙ same.memory;
  sections = same.sections;
  rows = same.rows;
  tasks = same.tasks;
}
