-- The sweep at the end of a change. Without a survey nothing is swept.
--     CanSweep m survey removed aside            the survey is one of m, and such room for lists is room for all cells
--     AreSwept m survey removed aside n          the cells that nobody keeps are gone, and these are listed, as are those that are still put aside
use Rattle.std.specs.Prelude.{◌≡◌, ◌≤◌, ℕ, List, [], Option, Some, None, length}
use Rattle.cell_num.specs.declared.ids.CellId.{CellId}
use Rattle.cell_world.specs.Answer.{ids}
use Rattle.cell_world.specs.Commands.UnloadCommand.{detached_of, garbage_of, purged}
use Rattle.cell_machine.specs.declared.machine.Machine.{Machine}
use Rattle.cell_machine.specs.Machine.{IsSound, world_of}
use Rattle.cell_unload.specs.declared.survey.Survey.{Survey}
use Rattle.cell_unload.specs.Sweep.{IsSurvey}

pub record CanSweepBy (m : Machine) (survey : Survey) (removed aside : ℕ) : Type 0 where
  pub sound : IsSound m
  pub read : IsSurvey m [] survey
  pub removed_room : length m.cells.items ≤ removed
  pub aside_room : length m.cells.items ≤ aside

abbrev pub CanSweep : Machine → Option Survey → ℕ → ℕ → Type 0
CanSweep m None removed aside = Unit {0}
CanSweep m (Some survey) removed aside = CanSweepBy m survey removed aside

pub record AreSweptBy (m : Machine) (removed aside : List CellId) (n : Machine) : Type 0 where
  pub sound : IsSound n
  pub gone : removed ≡ ids (garbage_of (world_of m))
  pub left : world_of n ≡ purged (world_of m)
  pub aside_are : aside ≡ ids (detached_of (world_of n))
  pub patches : n.memory.patches ≡ m.memory.patches
  pub maps : n.memory.maps ≡ m.memory.maps

abbrev pub AreSwept : Machine → Option Survey → List CellId → List CellId → Machine → Type 0
AreSwept m None removed aside n = (n ≡ m) × (removed ≡ []) × (aside ≡ [])
AreSwept m (Some survey) removed aside n = AreSweptBy m removed aside n
