-- What is staged for a machine is staged for the same machine with other room, and what is added there is added.
use Rattle.std.proofs.Common.{◌≡◌, sym, ◌∙◌, ap, ap₂, subst, ℕ, ◌+◌, ◌<◌, true, List, ◌++◌, length, get_or, Vec, Global}
use Rattle.std.specs.Prelude.{All, Contains, fold, is_some}
use Rattle.std.proofs.lemmas.List.{length-map}
use Rattle.cell_num.specs.declared.ids.SecKey.{SecKey}
use Rattle.cell_mem.specs.State.{MemoryState, region_with}
use Rattle.cell_commit.specs.Commit.{IsMapped, all_mapped, fields_written}
use Rattle.cell_commit.proofs.Mapping.{mapped_regions}
use Rattle.cell_commit.specs.declared.wiring.Rewiring.{Rewiring}
use Rattle.cell_commit.specs.Rewiring.{IsRewiring}
use Rattle.cell_lemmas.specs.LinkSteps.{afters}
use Rattle.cell_num.specs.declared.ids.CellId.{CellId}
use Rattle.cell_link.specs.declared.value.FieldValue.{FieldValue}
use Rattle.cell_space.specs.declared.cell.SpaceCell.{SpaceCell}
use Rattle.cell_world.specs.declared.state.LinkRow.{LinkRow}
use Rattle.cell_world.specs.declared.state.NewCell.{NewCell}
use Rattle.cell_world.specs.Coherent.{IsLoadable}
use Rattle.cell_world.specs.Names.{names_of}
use Rattle.cell_num.specs.Lists.{In}
use Rattle.cell_num.proofs.Elements.{All-In, In-All, In-map, In-right}
use Rattle.cell_lemmas.specs.Loads.{placed_after, placed_cells}
use Rattle.cell_space.specs.Joined.{placed_of}
use Rattle.cell_world.specs.Linked.Relink.{Patch}
use Rattle.cell_world.specs.Placed.Place.{with_region}
use Rattle.cell_world.specs.World.{Alias, Cell, World, Region}
use Rattle.cell_machine.specs.declared.machine.Machine.{Machine}
use Rattle.cell_machine.specs.declared.staged.Staged.{Staged}
use Rattle.cell_machine.specs.Machine.{keys_of, soft_of, world_of}
use Rattle.cell_machine.specs.Same.{IsSame}
use Rattle.cell_machine.specs.Staged.{IsCommitted}
use Rattle.cell_machine.proofs.Same.{parts_same, world_same}
use Rattle.cell_machine.proofs.StagedWorld.{new_count}
use Rattle.cell_load.specs.Adding.{CanChange, IsAdded, IsPlanned, IsReadyToAdd, memory_with}

pub ready_same : (old new : Machine) → IsSame old new → (changed : List Patch) (rows : List LinkRow) (s : Staged) → IsReadyToAdd old changed rows s → IsReadyToAdd new changed rows s
ready_same old new same changed rows s r = record {
  before = r.before;
  coherent = r.coherent;
  like = record {
    base = ap (λ (m : MemoryState). m.base) same.memory ∙ r.like.base;
    pages = ap (λ (m : MemoryState). m.pages) same.memory ∙ r.like.pages;
    regions = ap (λ (m : MemoryState). m.regions) same.memory ∙ r.like.regions;
    cells = same.cells ∙ r.like.cells;
    next = same.next ∙ r.like.next;
  };
  parts = parts_same old new same r.parts;
  undo = ap (λ (m : MemoryState). m.undo) same.memory ∙ r.undo;
  planned = subst (λ (w : World). IsPlanned w changed rows s) (sym (world_same old new same)) r.planned;
}

-- each staged cell has its names
pub as_many : (m : Machine) (changed : List Patch) (rows : List LinkRow) (s : Staged) → IsReadyToAdd m changed rows s → length s.names.items ≡ length s.cells.items
as_many m changed rows s r = ap length r.staged.names ∙ (length-map r.new names_of ∙ new_count (world_of m) r.new s r.staged)

-- and an object that may be loaded
pub all_loadable : (m : Machine) (changed : List Patch) (rows : List LinkRow) (s : Staged) → IsReadyToAdd m changed rows s → All (λ c. IsLoadable c.object) s.cells.items
all_loadable m changed rows s r =
    In-All (λ (c : NewCell). IsLoadable c.object) s.cells.items (λ c i.
    let new : List Cell = placed_cells r.staged.starts r.new in
    let later : World = placed_after r.staged.starts (world_of m) r.new in
    let d = In-map placed_of new c (subst (λ (cs : List NewCell). In c cs) r.staged.cells i) in
    subst (λ (p : NewCell). IsLoadable p.object) (sym d.2) (All-In (λ (x : Cell). IsLoadable x.object) later.cells r.there.linkable.objects d.0 (In-right (world_of m).cells new d.0 d.1)))

-- with other room there is as much as is there
-- what is mapped there is mapped here
pub mapped_same : (old new : Machine) → IsSame old new → (s : Staged) (f : FieldValue) → IsMapped (all_mapped old.memory s.regions.items) f → IsMapped (all_mapped new.memory s.regions.items) f
mapped_same old new same s f m = (m.0, subst (λ (rs : List Region). is_some (region_with (record (all_mapped new.memory s.regions.items) { regions = rs }) f.addr f.width) ≡ true) regions m.1)
  where
    regions : (all_mapped old.memory s.regions.items).regions ≡ (all_mapped new.memory s.regions.items).regions
    regions =
        mapped_regions old.memory s.regions.items
        ∙ (sym (ap (λ (m : MemoryState). fold (λ rs r. with_region r rs) m.regions s.regions.items) same.memory)
        ∙ sym (mapped_regions new.memory s.regions.items))

abbrev pub change_same : (old new : Machine) → IsSame old new → (s : Staged) (patches : List FieldValue) (links : Rewiring) → CanChange old s patches links → CanChange new s patches links
change_same old new same s patches links c = record {
  mapped = λ (k : ℕ) (d : FieldValue) (lt : k < length patches). mapped_same old new same s (get_or patches k d) (c.mapped k d lt);
  steps = c.steps;
  rewires = subst (λ (rows : List LinkRow). IsRewiring rows links.unbinds.items links.binds.items links.moves.items c.steps) (sym same.rows) c.rewires;
  backs = c.backs;
  present =
      subst (λ (keys : List SecKey). All (λ (r : LinkRow). Contains (keys ++ keys_of s.cells.items) r.user × Contains (keys ++ keys_of s.cells.items) r.target) (afters c.steps)) (sym same.sections) c.present;
}

pub added_same : (old new n : Machine) → IsSame old new → (s : Staged) (names : Vec (List Alias) Global) (patches : List FieldValue) (rows : List LinkRow) (newcomers all : List SpaceCell) → newcomers ≡ all
    → IsCommitted new (memory_with new.memory s.regions.items patches) rows newcomers (record s { names = names }) n → IsAdded old patches rows s all n
added_same old new n same s names patches rows newcomers all e c = record {
  spare = same.spare;
  is = record {
    cells = c.cells ∙ ap (λ (cs : List NewCell). cs ++ s.cells.items) same.cells;
    soft = c.soft ∙ ap (λ (ids : List CellId). ids ++ soft_of s.cells.items) same.soft;
    next = c.next ∙ ap (λ (k : ℕ). k + length s.cells.items) same.next;
    swaps = c.swaps ∙ same.swaps;
    namespaces = c.namespaces ∙ same.namespaces;
    known = c.known ∙ ap₂ (λ (xs ys : List SpaceCell). xs ++ ys) same.known e;
    space = c.space;
    memory = c.memory ∙ ap (λ (m : MemoryState). fields_written (memory_with m s.regions.items patches) s.fields.items) same.memory;
    sections = c.sections ∙ ap (λ (ks : List SecKey). ks ++ keys_of s.cells.items) same.sections;
    rows = c.rows;
    tasks = c.tasks ∙ same.tasks;
  };
}
