-- New cells while they are gathered.
--     new_of g                        the new cells so far
--     with_new spaces cells           the spaces with the new cells
--     IsGrowing spaces next g         the new cells so far, one number after another
--     Ends spaces next said r cells   what is said of a machine comes to these new cells, or to the code's refusal
--     IsLed .. old new                turns of bringing that led from these new cells to those
use Rattle.std.specs.Prelude.{◌≡◌, ◌<◌, ◌≤◌, ◌+◌, ℕ, true, is_some, List, [], ◌++◌, ◌∷◌, All, Result, Ok, Err, Some, length, map, slice_get}
use Rattle.cell_num.specs.declared.ids.CellId.{CellId}
use Rattle.cell_world.specs.declared.file.File.{File}
use Rattle.cell_world.specs.Coherent.{IsLoadable}
use Rattle.cell_world.specs.Gather.{source_of, bring_within, grown}
use Rattle.cell_world.specs.Names.{needs_of, chain}
use Rattle.cell_world.specs.Outcome.{Outcome}
use Rattle.cell_num.specs.Limits.{max_cells}
use Rattle.cell_world.specs.World.{World, Cell}
use Rattle.cell_world.specs.declared.state.Standing.TheVariants.{Attached}
use Rattle.cell_space.specs.Joined.{AreJoined, cells_of}
use Rattle.cell_space.specs.Machine.{called}
use Rattle.cell_space.specs.Named.{provider_for}
use Rattle.cell_space.specs.Spaces.{SpacesState}
use Rattle.cell_world.specs.declared.fail.Fail.{Fail}
use Rattle.cell_world.specs.declared.fail.Fail.TheVariants.{Refused, OutOfMemory}
use Rattle.cell_gather.specs.declared.gathering.Gathered.{Gathered}
use Rattle.cell_gather.specs.Gathering.{IsOf}

-- the new cells, by their places and by what they are called
abbrev pub new_of : Gathered → List Cell
new_of g = cells_of g.cells.items g.ahead.fresh

abbrev pub with_new : SpacesState → List Cell → SpacesState
with_new spaces cells = record spaces { cells = spaces.cells ++ map called cells }

pub record IsGrowing (spaces : SpacesState) (next : ℕ) (g : Gathered) : Type 0 where
  pub namespaces : g.ahead.namespaces ≡ spaces.namespaces
  pub present : g.ahead.present ≡ spaces.cells
  pub cells : g.ahead.cells ≡ spaces.cells ++ map called (new_of g)
  pub joined : AreJoined g.cells.items g.ahead.fresh
  pub attached : All (λ c. c.standing ≡ Attached) (new_of g)
  pub loadable : All (λ c. IsLoadable c.object) g.cells.items
  pub inside : All (λ c. c.ns < length spaces.namespaces) (new_of g)
  pub above : All (λ c. next ≤ c.id.0) (new_of g)
  pub below : All (λ c. c.id.0 < next + length (new_of g)) (new_of g)
  pub numbered : (k : ℕ) (c : Cell) → slice_get (new_of g) k ≡ Some c → c.id.0 ≡ next + k
  pub few : 0 < length (new_of g) → length spaces.cells + length (new_of g) ≤ max_cells

-- over each machine that the spaces are those of
abbrev pub Ends : SpacesState → ℕ → (World → Outcome World) → Result (Unit {0}) Fail → List Cell → Type 0
Ends spaces next said (Ok _) cells = (w : World) → IsOf spaces next w → said w ≡ Ok (grown w cells)
Ends spaces next said (Err (Refused refusal)) cells = (w : World) → IsOf spaces next w → said w ≡ Err refusal
Ends spaces next said (Err OutOfMemory) cells = Unit {0}

-- each goes by the names of its definitions alone
abbrev pub HavePlain : List Cell → Type 0
HavePlain cells = All (λ c. c.aliases ≡ []) cells

pub record IsOneMore (old new : List Cell) : Type 0 where
  pub cell : Cell
  pub is : new ≡ old ++ cell ∷ []
  pub plain : cell.aliases ≡ []

-- one turn for each cell that was added
pub record IsLed (files : List File) (spaces : SpacesState) (next : ℕ) (old new : List Cell) : Type 0 where
  pub added : List Cell
  pub is : new ≡ old ++ added
  pub plain : HavePlain added
  pub same : (w : World) → IsOf spaces next w → (turns : ℕ)
      → bring_within (turns + length added) (map source_of files) next (grown w old) ≡ bring_within turns (map source_of files) next (grown w new)

-- where there are turns for all cells that may be there
abbrev pub Leads : List File → SpacesState → ℕ → List Cell → Result (Unit {0}) Fail → List Cell → Type 0
Leads files spaces next old (Ok _) new = IsLed files spaces next old new
Leads files spaces next old (Err (Refused refusal)) new =
    (w : World) → IsOf spaces next w → (turns : ℕ) → max_cells < turns + (length spaces.cells + length old)
    → bring_within turns (map source_of files) next (grown w old) ≡ Err refusal
Leads files spaces next old (Err OutOfMemory) new = Unit {0}

-- a name has a provider
abbrev pub IsProvided : SpacesState → List Cell → ℕ → List ℕ → Type 0
IsProvided spaces cells ns name =
    is_some (provider_for (chain spaces.namespaces ns) Attached name (spaces.cells ++ map called cells)) ≡ true

abbrev pub IsSupplied : SpacesState → List Cell → Cell → Type 0
IsSupplied spaces cells c = All (IsProvided spaces cells c.ns) (needs_of c.object)

-- so many of the cells lack nothing
abbrev pub AreSupplied : SpacesState → List Cell → ℕ → Type 0
AreSupplied spaces cells n = (k : ℕ) (d : Cell) → k < n → slice_get cells k ≡ Some d → IsSupplied spaces cells d

-- a cell of that namespace and number stands at the place, and no cell before it lacks anything
pub record IsTurnOf (spaces : SpacesState) (cells : List Cell) (place ns : ℕ) (id : CellId) (needs : List (List ℕ)) : Type 0 where
  pub cell : Cell
  pub at : slice_get cells place ≡ Some cell
  pub on : cell.standing ≡ Attached
  pub ns_is : cell.ns ≡ ns
  pub id_is : cell.id ≡ id
  pub needs_are : needs_of cell.object ≡ needs
  pub supplied : AreSupplied spaces cells place

-- and this is one of its needs, before which it lacks nothing
pub record IsNext (spaces : SpacesState) (cells : List Cell) (place ns : ℕ) (id : CellId) (name : List ℕ) : Type 0 where
  pub before : List (List ℕ)
  pub after : List (List ℕ)
  pub turn : IsTurnOf spaces cells place ns id (before ++ name ∷ after)
  pub provided : All (IsProvided spaces cells ns) before
