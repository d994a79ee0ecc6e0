-- The machine before the first command is sound.
use Rattle.std.proofs.Common.{◌≡◌, refl, sym, ◌∙◌, ap, ap₂, subst, arith, ℕ, zero, suc, ◌-◌, ◌*◌, ◌^◌, ◌≤◌, Bool, false, List, [], ◌∷◌, map, replicate}
use Rattle.cell_num.specs.Lists.{from_on}
use Rattle.cell_world.specs.Placed.Pages.{IsSpace}
use Rattle.cell_world.specs.declared.state.LinkRow.{LinkRow}
use Rattle.cell_world.specs.World.{empty_world}
use Rattle.cell_world.specs.Coherent.{IsCoherent}
use Rattle.cell_world.specs.Placed.Place.{is_taken, page_table}
use Rattle.cell_lemmas.proofs.NextCoherent.{empty_coherent}
use Rattle.cell_mem.specs.State.{MemoryState, empty_memory}
use Rattle.cell_place.specs.Space.{SpaceState}
use Rattle.cell_world.specs.declared.state.NewCell.{NewCell}
use Rattle.cell_machine.specs.declared.machine.Machine.{Machine}
use Rattle.cell_commit.specs.Seals.{seal_table}
use Rattle.cell_space.specs.Joined.{cells_of}
use Rattle.cell_space.proofs.Joined.{joined_by}
use Rattle.cell_task.specs.State.{TasksState, no_tasks}
use Rattle.cell_space.specs.Spaces.{kernel}
use Rattle.cell_world.specs.declared.state.Namespace.{Namespace}
use Rattle.cell_machine.specs.Machine.{IsSound, field_bytes, keys_of, soft_of, world_by, world_of}

-- no byte is sealed where there is no field
none_sealed : (base size : ℕ) → replicate size false ≡ seal_table base size []
none_sealed base size = go 0 size
  where
    go : (a n : ℕ) → replicate n false ≡ map (λ i. false) (from_on a n)
    go a zero = refl
    go a (suc n) = ap (λ (bs : List Bool). false ∷ bs) (go (suc a) n)

all_free : (base pages a n : ℕ) → map (is_taken (empty_world base pages)) (from_on a n) ≡ replicate n false
all_free base pages a zero = refl
all_free base pages a (suc n) = ap (λ (bs : List Bool). false ∷ bs) (all_free base pages (suc a) n)

module _ (base pages : ℕ) (space : IsSpace base pages) (m : Machine) (cells : m.cells.items ≡ []) (soft : m.soft.items ≡ []) (next : m.next ≡ 1) (swaps : m.swaps ≡ 0) (free : m.space ≡ record { base = base; taken = replicate pages false })
    (spaces : m.spaces.namespaces ≡ kernel) (none : m.spaces.cells ≡ []) (memory : m.memory ≡ empty_memory base pages) (sections : m.graph.sections ≡ []) (rows : m.graph.rows ≡ []) (tasks : m.tasks ≡ no_tasks) where
  pub world_empty : world_of m ≡ empty_world base pages
  world_empty =
      ap (λ (x : MemoryState). world_by x m.spaces.namespaces (cells_of m.cells.items m.spaces.cells) m.graph.rows m.tasks m.next m.swaps) memory
      ∙ (ap (λ (namespaces : List Namespace). world_by (empty_memory base pages) namespaces (cells_of m.cells.items m.spaces.cells) m.graph.rows m.tasks m.next m.swaps) spaces
      ∙ (ap (λ (cells : List NewCell). world_by (empty_memory base pages) kernel (cells_of cells m.spaces.cells) m.graph.rows m.tasks m.next m.swaps) cells
      ∙ (ap (λ (rows : List LinkRow). world_by (empty_memory base pages) kernel [] rows m.tasks m.next m.swaps) rows
      ∙ (ap (λ (tasks : TasksState). world_by (empty_memory base pages) kernel [] [] tasks m.next m.swaps) tasks
      ∙ ap₂ (world_by (empty_memory base pages) kernel [] [] no_tasks) next swaps))))

  pub begins_sound : IsSound m
  begins_sound = record {
    coherent = subst IsCoherent (sym world_empty) (empty_coherent base pages space);
    parts = record {
      joined = joined_by [] m.cells.items m.spaces.cells cells none;
      table = ap (λ (s : SpaceState). s.taken) free ∙ (sym (all_free base pages 0 pages) ∙ ap page_table (sym world_empty));
      base = ap (λ (s : SpaceState). s.base) free ∙ ap (λ (x : MemoryState). x.base) (sym memory);
      soft = soft ∙ ap soft_of (sym cells);
      sections = sections ∙ ap keys_of (sym cells);
      seals =
          ap (λ (x : MemoryState). x.sealed) memory
          ∙ (none_sealed base (4096 * pages)
          ∙ (ap (λ (x : MemoryState). seal_table x.base (4096 * x.pages) []) (sym memory)
          ∙ ap (λ (cs : List NewCell). seal_table m.memory.base (4096 * m.memory.pages) (field_bytes cs)) (sym cells)));
      patches = subst (λ (x : MemoryState). x.patches ≤ 2 ^ 64 - 1) (sym memory) (omega arith);
      maps = subst (λ (x : MemoryState). x.maps ≤ 2 ^ 64 - 1) (sym memory) (omega arith);
    };
    undo = ap (λ (x : MemoryState). x.undo) memory;
  }
