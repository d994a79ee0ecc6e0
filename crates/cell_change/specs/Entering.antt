-- The steps of a change after which it may still be refused, and what the machine is then.
--     CanEnter n plan prepared transfer   they are what is ready for n, in which an undo is begun
--     IsOpen c n                          the way back is open in n, to the machine before the undo was begun
--     HasEntered c n                      n has the new cells of the plan in their places, and has counted them
--     LooksBy n old o                     holding is read from there, where cells were replaced
--     Enters c result n                   the same while the undo goes on, or the refusal of the routines
--     CanTry n asked .. room              the same with the change, and room for all cells in a list, where it is needed
--     CanSettle, CanRenew                 the machine is entered, and no task begins again, or that one does
--     Reads n old survey                  what is read of it there
--     Tries c result n                    the machine after the routines, once the task has begun again, if one does, and which cells are kept in it, or the refusal
use Rattle.std.specs.Prelude.{ℕ, ◌≡◌, ◌≤◌, ◌<◌, ◌+◌, ◌++◌, List, [], Option, Some, None, Result, Ok, Err, length}
use Rattle.cell_num.specs.declared.ids.CellId.{CellId}
use Rattle.cell_world.specs.Change.{with_routines}
use Rattle.cell_world.specs.declared.refusal.Refusal.{Refusal}
use Rattle.cell_load.specs.declared.prepared.Prepared.{Prepared}
use Rattle.cell_machine.specs.declared.machine.Machine.{Machine}
use Rattle.cell_machine.specs.Machine.{IsWhole, world_of}
use Rattle.cell_unload.specs.declared.outlook.Outlook.{Outlook}
use Rattle.cell_unload.specs.declared.survey.Survey.{Survey}
use Rattle.cell_unload.specs.Sweep.{IsOutlook, IsSurvey}
use Rattle.cell_xfer.specs.declared.carrying.Transfer.{Transfer}
use Rattle.cell_change.specs.declared.planning.Plan.{Plan}
use Rattle.cell_change.specs.declared.ready.Ready.{Ready}
use Rattle.cell_change.specs.Back.{CanUndo}
use Rattle.cell_change.specs.Exchanged.{CanFinish, HasCounted, ended, room_for}
use Rattle.cell_change.specs.Planning.{IsBegunBy, wish}
use Rattle.cell_change.specs.declared.request.Change.{Change}

-- `rest` has the other parts
pub record CanEnter (n : Machine) (plan : Plan) (prepared : Prepared) (transfer : Option Transfer) : Type 0 where
  pub asked : Change
  pub rest : Ready
  pub can : CanFinish n asked (record rest { plan = plan; prepared = prepared; transfer = transfer })

pub record IsOpen {first : Machine} {asked : Change} {r : Ready} (c : CanFinish first asked r) (n : Machine) : Type 0 where
  pub undo : CanUndo n r.back r.fresh
  pub leads : undo.can.room ≡ c.room
  pub counted : HasCounted c n

pub record HasEntered {first : Machine} {asked : Change} {r : Ready} (c : CanFinish first asked r) (n : Machine) : Type 0 where
  pub whole : IsWhole n
  pub cells : (world_of n).cells ≡ (world_of c.before).cells ++ c.is.plan.fresh
  pub placed : n.cells.items ≡ c.before.cells.items ++ c.plan_before.staged.cells.items
  pub counted : HasCounted c n
  pub open counted use *

abbrev pub LooksBy : Machine → List CellId → Option Outlook → Type 0
LooksBy n old None = old ≡ []
LooksBy n old (Some outlook) = (0 < length old) × IsOutlook n [] outlook

-- n is what the plan comes to in the definition, once its routines have run, with the tasks that were there, and holding is read from
-- the plan's outlook
pub record IsEntered {first : Machine} {asked : Change} {r : Ready} (c : CanFinish first asked r) (outlook : Option Outlook) (n : Machine) : Type 0 where
  pub way_back : IsOpen c n
  pub entered : HasEntered c n
  pub is : with_routines (wish c.is.begun) c.is.plan ≡ Ok (world_of n)
  pub tasks : n.tasks ≡ c.before.tasks
  pub outlook_is : outlook ≡ c.plan_before.outlook
  pub looked : LooksBy n asked.replaced.items outlook

abbrev pub Enters : {first : Machine} {asked : Change} {r : Ready} → CanFinish first asked r → Result (Option Outlook) Refusal → Machine → Type 0
Enters c (Ok outlook) n = IsEntered c outlook n
Enters c (Err refusal) n = (with_routines (wish c.is.begun) c.is.plan ≡ Err refusal) × IsOpen c n

pub record CanTry (n : Machine) (asked : Change) (plan : Plan) (prepared : Prepared) (transfer : Option Transfer) (room : ℕ) : Type 0 where
  pub rest : Ready
  pub can : CanFinish n asked (record rest { plan = plan; prepared = prepared; transfer = transfer })
  pub fits : room_for asked.replaced.items (length can.before.cells.items + length can.plan_before.staged.cells.items) ≤ room

-- no task begins again
pub record CanSettle (n : Machine) (asked : Change) (outlook : Option Outlook) (room : ℕ) : Type 0 where
  pub first : Machine
  pub ready : Ready
  pub can : CanFinish first asked ready
  pub entered : IsEntered can outlook n
  pub fits : room_for asked.replaced.items (length can.before.cells.items + length can.plan_before.staged.cells.items) ≤ room
  pub none : can.is.plan.restarted ≡ None

-- the task of that number does
pub record CanRenew (n : Machine) (asked : Change) (task : ℕ) (outlook : Option Outlook) (room : ℕ) : Type 0 where
  pub first : Machine
  pub ready : Ready
  pub can : CanFinish first asked ready
  pub entered : IsEntered can outlook n
  pub fits : room_for asked.replaced.items (length can.before.cells.items + length can.plan_before.staged.cells.items) ≤ room
  pub begun : IsBegunBy can.before asked can.is.plan task

abbrev pub Reads : Machine → List CellId → Option Survey → Type 0
Reads n old None = old ≡ []
Reads n old (Some survey) = (0 < length old) × IsSurvey n [] survey

-- no undo goes on
pub record HasTried {first : Machine} {asked : Change} {r : Ready} (c : CanFinish first asked r) (survey : Option Survey) (n : Machine) : Type 0 where
  pub entered : HasEntered c n
  pub undo : n.memory.undo ≡ None
  pub read : Reads n asked.replaced.items survey
  pub is : ended (wish c.is.begun) c.is.plan ≡ Ok (world_of n)

abbrev pub Tries : {first : Machine} {asked : Change} {r : Ready} → CanFinish first asked r → Result (Option Survey) Refusal → Machine → Type 0
Tries c (Ok survey) n = HasTried c survey n
Tries c (Err refusal) n = (ended (wish c.is.begun) c.is.plan ≡ Err refusal) × IsOpen c n
