-- What is looked at before cells go, and what a sweep leaves.
--     cell_numbered w name         the number of the attached cell of that name, or the refusal
--     cells_numbered w names       the numbers of the cells of these names, or the first refusal
--     aside_in m cells             the machine with the cells put aside
--     holding_in m cells           what is looked at then
--     IsOutlook m cells o          holding is read from there
--     IsSurvey m cells s           s is what is read of it
--     SomeOutlook, SomeSurvey      the same with some cells put aside
--     Removes old s removed new    those that nobody keeps by the survey are gone
--     refusal_of h c               the refusal for the cell, if it is kept
--     unless_next c kept           the cell, if it isn't the first of the kept ones
--     after_next c kept            the kept ones without it
--     Sweeps old cells result new  all cells that nobody keeps are gone; or one of the cells is kept, and nothing is changed
use Rattle.std.specs.Prelude.{ℕ, suc, ◌≡◌, ◌==◌, IsTrue, List, [], ◌∷◌, Option, Some, None, Ok, Err, Result, Vec, map, flat_map, if◌then◌else◌}
use Rattle.std.specs.List.{list_all}
use Rattle.cell_num.specs.Lists.{holds}
use Rattle.cell_num.specs.declared.ids.CellId.{CellId}
use Rattle.cell_world.specs.declared.fail.Fail.{Fail}
use Rattle.cell_world.specs.declared.fail.Fail.TheVariants.{Refused, OutOfMemory}
use Rattle.cell_hold.specs.Roots.{attached_by, claims_by, named_by}
use Rattle.cell_machine.specs.declared.machine.Machine.{Machine}
use Rattle.cell_machine.specs.Machine.{world_of}
use Rattle.cell_machine.specs.Same.{IsSame}
use Rattle.cell_world.specs.Answer.{numbers_of}
use Rattle.cell_world.specs.Kept.{Holding, holding_of, kept_in, placed_in}
use Rattle.cell_world.specs.Outcome.{Outcome, ◌>>=◌}
use Rattle.cell_world.specs.Commands.UnloadCommand.{attached_cell, detach, first_held, garbage_of, held_refusal, named_cells}
use Rattle.cell_world.specs.World.{World}
use Rattle.cell_world.specs.declared.command.CellName.{CellName}
use Rattle.cell_world.specs.declared.refusal.Refusal.{Refusal}
use Rattle.cell_unload.specs.declared.outlook.Outlook.{Outlook}
use Rattle.cell_unload.specs.declared.survey.Survey.{Survey}
use Rattle.cell_unload.specs.Removed.{IsRemoved}

abbrev pub cell_numbered : World → CellName → Outcome ℕ
cell_numbered w name = attached_cell w name >>= (λ c. Ok c.id.0)

abbrev pub cells_numbered : World → List CellName → Outcome (List ℕ)
cells_numbered w names = named_cells w names >>= (λ cells. Ok (numbers_of cells))

abbrev pub aside_in : Machine → List CellId → World
aside_in m cells = detach (suc (world_of m).swaps) (map (λ c. c.0) cells) (world_of m)

abbrev pub holding_in : Machine → List CellId → Holding
holding_in m cells = holding_of (aside_in m cells)

abbrev pub refusal_of : Holding → ℕ → Option Refusal
refusal_of h c = if holds (kept_in h) c then held_refusal h c else None

abbrev pub unless_next : ℕ → List ℕ → List ℕ
unless_next c [] = c ∷ []
unless_next c (k ∷ kept) = if k == c then [] else c ∷ []

abbrev pub after_next : ℕ → List ℕ → List ℕ
after_next c [] = []
after_next c (k ∷ kept) = if k == c then kept else k ∷ kept

pub record IsOutlook (m : Machine) (cells : List CellId) (o : Outlook) : Type 0 where
  pub sections : o.places ≡ flat_map placed_in (world_of m).cells
  pub attached : flat_map attached_by o.roots.items ≡ (holding_in m cells).attached
  pub claims : flat_map (claims_by m.memory.regions) o.roots.items ≡ (holding_in m cells).claims
  pub present : IsTrue (list_all (λ root. list_all (holds (numbers_of (world_of m).cells)) (named_by root)) o.roots.items)

pub record SomeOutlook (m : Machine) (o : Outlook) : Type 0 where
  pub aside : List CellId
  pub is : IsOutlook m aside o

pub record IsSurvey (m : Machine) (cells : List CellId) (s : Survey) : Type 0 where
  pub outlook : IsOutlook m cells s.outlook
  pub open outlook use *
  pub kept : map (λ c. c.0) s.kept.items ≡ kept_in (holding_in m cells)

pub record SomeSurvey (m : Machine) (s : Survey) : Type 0 where
  pub aside : List CellId
  pub is : IsSurvey m aside s

-- whatever was put aside in the survey
abbrev pub Removes : Machine → Survey → List CellId → Machine → Type 0
Removes old s removed new = (aside : List CellId) → IsSurvey old aside s → (map (λ c. c.0) removed ≡ garbage_of (aside_in old aside)) × IsRemoved old removed new

pub record IsSwept (old : Machine) (cells removed : List CellId) (new : Machine) : Type 0 where
  pub free : first_held (holding_in old cells) (map (λ c. c.0) cells) ≡ None
  pub are : map (λ c. c.0) removed ≡ garbage_of (aside_in old cells)
  pub left : IsRemoved old removed new

-- one of the cells is kept, or memory was lacking
abbrev pub IsUnswept : Machine → List CellId → Fail → Machine → Type 0
IsUnswept old cells (Refused refusal) new = (first_held (holding_in old cells) (map (λ c. c.0) cells) ≡ Some refusal) × IsSame old new
IsUnswept old cells OutOfMemory new = IsSame old new

abbrev pub Sweeps : {Z : Type 0} → Machine → List CellId → Result (Vec CellId Z) Fail → Machine → Type 0
Sweeps old cells (Ok removed) new = IsSwept old cells removed.items new
Sweeps old cells (Err fail) new = IsUnswept old cells fail new
