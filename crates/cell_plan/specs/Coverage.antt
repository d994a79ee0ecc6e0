-- Whether cells have what they need, in the machine that names are looked up in.
--     IsAhead w ahead        w has these namespaces, and cells that are called so
--     lost_by w c            the refusal for the first need of the cell that nobody provides
--     first_lost w cells     the first such refusal of the cells
--     Covers o result        the answer is that refusal, or none, or want of memory
--     others_in spaces old users   the users that aren't old themselves, as they stand
use Rattle.std.specs.Prelude.{◌≡◌, ℕ, not, List, Option, Some, None, Result, Ok, Err, filter, map, option_map, unwrap_or}
use Rattle.cell_num.specs.Lists.{first, holds}
use Rattle.cell_world.specs.declared.fail.Fail.{Fail}
use Rattle.cell_world.specs.declared.fail.Fail.TheVariants.{Refused, OutOfMemory}
use Rattle.cell_world.specs.declared.refusal.Refusal.{Refusal}
use Rattle.cell_world.specs.declared.state.NewCell.{NewCell}
use Rattle.cell_world.specs.World.{World, Cell, Standing}
use Rattle.cell_world.specs.Gather.{first_lack, lacks_of, missing}
use Rattle.cell_space.specs.Ahead.{AheadState}
use Rattle.cell_space.specs.Machine.{called}
use Rattle.cell_space.specs.Named.{cell_numbered}
use Rattle.cell_space.specs.Spaces.{SpacesState}
use Rattle.cell_world.specs.declared.state.Standing.TheVariants.{Attached}
use Rattle.cell_target.specs.Scene.{in_state}

pub record IsAhead (w : World) (ahead : AheadState) : Type 0 where
  pub namespaces : w.namespaces ≡ ahead.namespaces
  pub cells : map called w.cells ≡ ahead.cells

abbrev pub lost_by : World → Cell → Option Refusal
lost_by w c = option_map missing (first (lacks_of w c))

abbrev pub first_lost : World → List Cell → Option Refusal
first_lost w cells = option_map missing (first_lack w cells)

abbrev pub Covers : Option Refusal → Result (Unit {0}) Fail → Type 0
Covers o (Ok covered) = o ≡ None
Covers o (Err (Refused refusal)) = o ≡ Some refusal
Covers o (Err OutOfMemory) = Unit {0}

-- the state that the spaces know the cell in
abbrev pub state_in : SpacesState → ℕ → Standing
state_in spaces n = unwrap_or (option_map (λ c. c.state) (cell_numbered spaces.cells n)) Attached

abbrev pub as_it_stands : SpacesState → NewCell → Cell
as_it_stands spaces c = in_state c (state_in spaces c.id.0)

abbrev pub others_in : SpacesState → List ℕ → List NewCell → List Cell
others_in spaces old users = map (as_it_stands spaces) (filter (λ c. not (holds old c.id.0)) users)
