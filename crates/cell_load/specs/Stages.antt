-- New cells that were gathered for a machine, and what staging them comes to.
--     new_cells g            the gathered cells, with the names that they are called by
--     AreGathered spaces g   they stand ahead of the present ones, attached
--     CanStage m g           wherever there is room for them, they can be linked in the machine
--     placing u new extra    the new cells get their places in u, an extra run of so many pages is free behind them, and each of their entries fits
--     IsLanded m g l         the gathered cells placed and linked, among which names are looked up still
--     Lands m g extra result that, and where the extra run starts; or the refusal
--     Names l s              what is staged is what has landed, with the cells' names
--     Stages u new result    the cells placed, linked and named, or the refusal
use Rattle.std.specs.Prelude.{ℕ, ◌≡◌, ◌+◌, ◌*◌, ◌<◌, ◌^◌, List, ◌++◌, All, Result, Ok, Err, map}
use Rattle.cell_num.specs.Limits.{page_size}
use Rattle.cell_world.specs.declared.fail.Fail.{Fail}
use Rattle.cell_world.specs.declared.fail.Fail.TheVariants.{Refused, OutOfMemory}
use Rattle.cell_world.specs.World.{World, Cell}
use Rattle.cell_world.specs.declared.state.Standing.TheVariants.{Attached}
use Rattle.cell_world.specs.Coherent.{IsLoadable}
use Rattle.cell_world.specs.Linked.Fit.{first_misfit}
use Rattle.cell_world.specs.Outcome.{Outcome, ◌>>=◌, ◌>>◌, refused_by}
use Rattle.cell_layout.specs.Placing.{extra_start}
use Rattle.cell_world.specs.Placed.Place.{page_table}
use Rattle.cell_lemmas.specs.Loads.{ManyTaken, objects_of, placed_after, placed_cells, take_all}
use Rattle.cell_space.specs.Joined.{cells_of, placed_of}
use Rattle.cell_space.specs.Machine.{called}
use Rattle.cell_space.specs.Spaces.{SpacesState}
use Rattle.cell_gather.specs.declared.gathering.Gathered.{Gathered}
use Rattle.cell_machine.specs.declared.machine.Machine.{Machine}
use Rattle.cell_machine.specs.declared.staged.Staged.{Staged}
use Rattle.cell_machine.specs.Machine.{AreParts, world_of}
use Rattle.cell_machine.specs.Staged.{AreLinkedIn, AreNewIn, IsStaged}
use Rattle.cell_target.specs.Scene.{AreCells, seen}
use Rattle.cell_world.specs.Linked.Target.{targets_of}
use Rattle.cell_load.specs.declared.landing.Landed.{Landed}

abbrev pub new_cells : Gathered → List Cell
new_cells g = cells_of g.cells.items g.ahead.fresh

pub record AreGathered (spaces : SpacesState) (g : Gathered) : Type 0 where
  pub namespaces : g.ahead.namespaces ≡ spaces.namespaces
  pub placed : map placed_of (new_cells g) ≡ g.cells.items
  pub cells : g.ahead.cells ≡ spaces.cells ++ map called (new_cells g)
  pub fresh : g.ahead.fresh ≡ map called (new_cells g)
  pub attached : All (λ c. c.standing ≡ Attached) (new_cells g)
  pub objects : All (λ c. IsLoadable c.object) g.cells.items

pub record CanStage (m : Machine) (g : Gathered) : Type 0 where
  pub parts : AreParts m
  pub gathered : AreGathered m.spaces g
  pub low : m.memory.base + page_size * m.memory.pages < 2 ^ 63
  pub stand : (t : ManyTaken) → take_all m.memory.base (page_table (world_of m)) (objects_of (new_cells g)) ≡ Ok t
      → AreNewIn (world_of m) (placed_after t.starts (world_of m) (new_cells g)) (placed_cells t.starts (new_cells g))

abbrev pub placing : World → List Cell → ℕ → Outcome (Unit {0})
placing u new extra =
    take_all u.base (page_table u) (objects_of new)
    >>= (λ t. extra_start u.base t.table extra >> refused_by (first_misfit (placed_after t.starts u new) (placed_cells t.starts new)))

pub record IsLanded (m : Machine) (g : Gathered) (l : Landed) : Type 0 where
  pub linked : AreLinkedIn (world_of m) (new_cells g) l.cells.items l.space l.regions.items l.fields.items l.rows.items
  pub open linked use *
  pub same : l.ahead ≡ g.ahead
  pub are : AreCells g.ahead.cells (m.cells.items ++ l.cells.items)
  -- an entry names the same among them
  pub targets : (c : Cell) → targets_of (placed_after starts (world_of m) (new_cells g)) c ≡ targets_of (seen m.spaces.namespaces (m.cells.items ++ l.cells.items) g.ahead.cells) c

abbrev pub Lands : Machine → Gathered → ℕ → Result Landed Fail → Type 0
Lands m g extra (Ok l) = IsLanded m g l × (extra_start m.memory.base l.space.taken extra ≡ Ok l.extra)
Lands m g extra (Err (Refused refusal)) = placing (world_of m) (new_cells g) extra ≡ Err refusal
Lands m g extra (Err OutOfMemory) = Unit {0}

pub record Names (l : Landed) (s : Staged) : Type 0 where
  pub cells : s.cells.items ≡ l.cells.items
  pub names : s.names.items ≡ map (λ c. c.names) l.ahead.fresh
  pub space : s.space ≡ l.space
  pub regions : s.regions.items ≡ l.regions.items
  pub fields : s.fields.items ≡ l.fields.items
  pub rows : s.rows.items ≡ l.rows.items

abbrev pub Stages : World → List Cell → Result Staged Fail → Type 0
Stages u new (Ok s) = IsStaged u new s
Stages u new (Err (Refused refusal)) = placing u new 0 ≡ Err refusal
Stages u new (Err OutOfMemory) = Unit {0}
