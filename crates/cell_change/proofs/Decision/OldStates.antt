-- Old cells put aside, as cells of the machine.
use Rattle.std.proofs.Common.{◌≡◌, refl, sym, ◌∙◌, ap, ap₂, arith, ℕ, suc, ◌+◌, Bool, true, false, cond, None, List, [], ◌∷◌, map}
use Rattle.cell_num.specs.declared.ids.CellId.{CellId}
use Rattle.cell_world.specs.declared.state.Namespace.{Namespace}
use Rattle.cell_world.specs.Change.{swapped_out}
use Rattle.cell_world.specs.Commands.UnloadCommand.{put_aside}
use Rattle.cell_world.specs.World.{World, Cell}
use Rattle.cell_world.specs.declared.state.Standing.TheVariants.{Detached}
use Rattle.cell_num.proofs.Elements.{map_same}
use Rattle.cell_lemmas.proofs.Fields.Relinked.{map_twice}
use Rattle.cell_mem.specs.State.{MemoryState}
use Rattle.cell_space.specs.Joined.{placed_of}
use Rattle.cell_space.specs.Machine.{called}
use Rattle.cell_space.specs.declared.cell.SpaceCell.{SpaceCell}
use Rattle.cell_space.proofs.Joined.{cells_are, joined_by}
use Rattle.cell_machine.specs.declared.machine.Machine.{Machine}
use Rattle.cell_machine.specs.Machine.{AreParts, IsSound, world_of}
use Rattle.cell_machine.specs.Same.{IsSame}
use Rattle.cell_machine.specs.Staged.{IsLike}
use Rattle.cell_machine.proofs.Same.{parts_same, world_same}
use Rattle.cell_num.proofs.Sublists.{In-fixed}
use Rattle.cell_change.specs.OldCells.{IsAside, among, aside_where, swaps_for}

module _ (k : ℕ) (p : ℕ → Bool) where
  -- the cell, put aside where its number passes the test
  abbrev pub stood_aside : Cell → Cell
  stood_aside c = cond (p c.id.0) (record c { standing = Detached k }) c

  called_one : (c : Cell) → aside_where k p (called c) ≡ called (stood_aside c)
  called_one c = go (p c.id.0)
    where
      go : (b : Bool) → cond b (record (called c) { state = Detached k }) (called c) ≡ called (cond b (record c { standing = Detached k }) c)
      go true = refl
      go false = refl

  pub called_aside : (cells : List Cell) → map (aside_where k p) (map called cells) ≡ map called (map stood_aside cells)
  called_aside cells = map_twice (aside_where k p) called cells ∙ (map_same _ _ cells (λ c i. called_one c) ∙ sym (map_twice called stood_aside cells))

  placed_one : (c : Cell) → placed_of (stood_aside c) ≡ placed_of c
  placed_one c = go (p c.id.0)
    where
      go : (b : Bool) → placed_of (cond b (record c { standing = Detached k }) c) ≡ placed_of c
      go true = refl
      go false = refl

  pub placed_aside : (cells : List Cell) → map placed_of (map stood_aside cells) ≡ map placed_of cells
  placed_aside cells = map_twice placed_of stood_aside cells ∙ map_same _ _ cells (λ c i. placed_one c)

module _ (before : Machine) (old : List CellId) (m : Machine) (sound : IsSound before) (aside : IsAside before old m) where
  abbrev w : World
  w = world_of before

  abbrev numbers : List ℕ
  numbers = map (λ c. c.0) old

  abbrev cells : List Cell
  cells = map (put_aside (suc w.swaps) numbers) w.cells

  items_are : m.cells.items ≡ map placed_of cells
  items_are = aside.cells ∙ (sym sound.joined.placed ∙ sym (placed_aside (suc w.swaps) (among old) w.cells))

  known_are : m.spaces.cells ≡ map called cells
  known_are =
      aside.known
      ∙ (ap₂ (λ (k : ℕ) (known : List SpaceCell). map (aside_where k (among old)) known) (let e : before.swaps + 1 ≡ suc before.swaps = omega arith in e) (sym sound.joined.called)
      ∙ called_aside (suc w.swaps) (among old) w.cells)

  -- the machine of before, with what is put aside
  abbrev changed : Machine
  changed = record before { spaces = m.spaces; swaps = m.swaps }

  others_same : IsSame changed m
  others_same = record {
    cells = aside.cells;
    soft = aside.soft;
    next = aside.next;
    swaps = refl;
    namespaces = refl;
    known = refl;
    space = aside.space;
    spare = aside.spare;
    memory = aside.memory;
    sections = aside.sections;
    rows = aside.rows;
    tasks = aside.tasks;
  }

  -- where there are none, nothing is put aside and no swap counted
  counted : (some : List CellId) → (n : ℕ) → n ≡ w.swaps + swaps_for some
      → record w { cells = map (put_aside (suc w.swaps) (map (λ (c : CellId). c.0) some)) w.cells; swaps = n } ≡ swapped_out w (map (λ (c : CellId). c.0) some)
  counted [] n e =
      ap₂ (λ (cs : List Cell) (swaps : ℕ). record w { cells = cs; swaps = swaps })
      (In-fixed (put_aside (suc w.swaps) []) w.cells (λ c i. refl)) (let same : n ≡ w.swaps = omega (arith, e) in same)
  counted (c ∷ some) n e =
      ap (λ (swaps : ℕ). record w { cells = map (put_aside (suc w.swaps) (map (λ (c : CellId). c.0) (c ∷ some))) w.cells; swaps = swaps })
      (let same : n ≡ suc w.swaps = omega (arith, e) in same)

  with_cells : world_of m ≡ record w { cells = cells; swaps = m.swaps }
  with_cells =
      world_same changed m others_same
      ∙ (ap (λ (spaces : List Namespace). record (world_of changed) { namespaces = spaces }) aside.namespaces
      ∙ ap (λ (cs : List Cell). record w { cells = cs; swaps = m.swaps }) (cells_are cells before.cells.items m.spaces.cells (sym aside.cells ∙ items_are) known_are))

  pub aside_cells : (world_of m).cells ≡ cells
  aside_cells = ap (λ (x : World). x.cells) with_cells

  pub aside_world : world_of m ≡ swapped_out w numbers
  aside_world = with_cells ∙ counted old m.swaps aside.swaps

  pub aside_parts : AreParts m
  aside_parts = parts_same changed m others_same (record {
    joined = joined_by cells before.cells.items m.spaces.cells (sym aside.cells ∙ items_are) known_are;
    table = sound.table;
    base = sound.base;
    soft = sound.soft;
    sections = sound.sections;
    seals = sound.seals;
    patches = sound.patches;
    maps = sound.maps;
  })

  pub aside_undo : m.memory.undo ≡ None
  aside_undo = ap (λ (x : MemoryState). x.undo) aside.memory ∙ sound.undo

  pub aside_like : IsLike w m
  aside_like = record {
    base = ap (λ (x : MemoryState). x.base) aside.memory;
    pages = ap (λ (x : MemoryState). x.pages) aside.memory;
    regions = ap (λ (x : MemoryState). x.regions) aside.memory;
    cells = aside.cells ∙ sym sound.joined.placed;
    next = aside.next;
  }
