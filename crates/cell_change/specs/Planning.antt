-- A change that has begun, and the plan of it.
--     IsBegun files asked m             the old cells are put aside in m
--     wish b                            what the definition is asked for
--     planned files asked m b           what it plans
--     IsGatheredFor .. g, GathersFor .. result   the new cells, or the refusal
--     numbers_in x                      the numbers of the old cells
--     IsAffected m asked x              x has the old cells, and those that may change
--     IsFound .. g, FindsNew .. result  the new cells, with which nobody lacks anything, or the refusal
--     view_with m landed                what changes is read from there
--     place_if_ready t                  where the task stands, unless it has faulted
--     Looks m cells roots outlook       holding is read from there with the new cells, where it is read
--     BeginsBy m asked plan again       the task of that number begins again by the plan, or none does
--     IsPlan .. roots p, Plans .. roots result   the plan by what is added and changed, or the refusal
use Rattle.std.specs.Prelude.{◌≡◌, ◌≤◌, ◌<◌, ◌^◌, ℕ, List, [], ◌∷◌, ◌++◌, All, Option, Some, None, Result, Ok, Err, filter, flat_map, length, map, if◌then◌else◌}
use Rattle.cell_world.specs.declared.fail.Fail.{Fail}
use Rattle.cell_world.specs.declared.fail.Fail.TheVariants.{Refused, OutOfMemory}
use Rattle.cell_world.specs.declared.file.File.{File}
use Rattle.cell_world.specs.Gather.{grown, source_of}
use Rattle.cell_world.specs.Kept.{placed_in}
use Rattle.cell_num.specs.Limits.{max_file_bytes}
use Rattle.cell_world.specs.Outcome.{Outcome}
use Rattle.cell_world.specs.Linked.Relink.{Patch}
use Rattle.cell_world.specs.Change.{Change as ChangeSaid, Plan as PlanSaid, first_uncovered, gather, plan_of, set_aside}
use Rattle.cell_world.specs.Running.Restart.{entry_again, restarted}
use Rattle.cell_world.specs.World.{Task, attached, is_ready}
use Rattle.cell_task.specs.State.{live_in}
use Rattle.cell_lemmas.specs.Loads.{placed_cells}
use Rattle.cell_world.specs.declared.state.NewCell.{NewCell}
use Rattle.cell_unload.specs.declared.outlook.Outlook.{Outlook}
use Rattle.cell_hold.specs.declared.roots.Root.{Root}
use Rattle.cell_hold.specs.declared.roots.Root.TheVariants.{Attached}
use Rattle.cell_lemmas.specs.LinkSteps.{afters}
use Rattle.cell_commit.specs.Commit.{patches_from}
use Rattle.cell_target.specs.Scene.{seen}
use Rattle.cell_gather.specs.declared.gathering.Gathered.{Gathered}
use Rattle.cell_machine.specs.declared.machine.Machine.{Machine}
use Rattle.cell_machine.specs.Machine.{IsSound, world_of}
use Rattle.cell_load.specs.declared.landing.Landed.{Landed}
use Rattle.cell_load.specs.Adding.{CanChange, IsReadyToAdd}
use Rattle.cell_load.specs.Stages.{AreGathered, new_cells}
use Rattle.cell_plan.specs.declared.torn.TaskPc.{TaskPc}
use Rattle.cell_plan.specs.Exchanged.{View}
use Rattle.cell_plan.specs.Spans.{pc_of}
use Rattle.cell_plan.specs.Users.{may_change}
use Rattle.cell_change.specs.declared.affected.Affected.{Affected}
use Rattle.cell_change.specs.declared.request.Change.{Change}
use Rattle.cell_change.specs.declared.planning.Plan.{Plan}
use Rattle.cell_change.specs.Asking.{IsAsked, as_said, restart_by}
use Rattle.cell_layout.specs.Placing.{extra_start}
use Rattle.cell_routines.specs.Begins.{begin_as}
use Rattle.cell_routines.specs.Placed.{routines_among}
use Rattle.cell_change.specs.OldCells.{IsAside}
use Rattle.cell_change.specs.Transferring.{pages_for}

pub record IsBegun (files : List File) (asked : Change) (m : Machine) : Type 0 where
  pub before : Machine
  pub sound : IsSound before
  pub small : All (λ f. length f.bytes ≤ max_file_bytes) files
  pub found : IsAsked (map source_of files) (world_of before) asked
  pub aside : IsAside before asked.replaced.items m

abbrev pub wish : {files : List File} {asked : Change} {m : Machine} → IsBegun files asked m → ChangeSaid
wish {files} {asked} {m} b = as_said asked.options b.found.wants b.found.copies

abbrev pub planned : (files : List File) (asked : Change) (m : Machine) → IsBegun files asked m → Outcome PlanSaid
planned files asked m b = plan_of (map source_of files) (world_of b.before) (wish b)

pub record IsGatheredFor (files : List File) (asked : Change) (m : Machine) (b : IsBegun files asked m) (g : Gathered) : Type 0 where
  pub gathered : gather (map source_of files) (world_of b.before) (wish b) ≡ Ok (grown (set_aside (world_of b.before) (wish b)) (new_cells g))
  pub are : AreGathered m.spaces g

abbrev pub GathersFor : (files : List File) (asked : Change) (m : Machine) → IsBegun files asked m → Result Gathered Fail → Type 0
GathersFor files asked m b (Ok g) = IsGatheredFor files asked m b g
GathersFor files asked m b (Err (Refused refusal)) = planned files asked m b ≡ Err refusal
GathersFor files asked m b (Err OutOfMemory) = Unit {0}

abbrev pub numbers_in : Affected → List ℕ
numbers_in x = map (λ c. c.0) x.old.cells.now

pub record IsAffected (m : Machine) (asked : Change) (x : Affected) : Type 0 where
  pub old : x.old.cells.now ≡ asked.replaced.items
  pub cells : map (λ c. c.now) x.cells.items ≡ filter (may_change (numbers_in x) (map (λ c. c.0) m.soft.items) m.graph.rows) m.cells.items

pub record IsFound (files : List File) (asked : Change) (m : Machine) (b : IsBegun files asked m) (g : Gathered) : Type 0 where
  pub gathered : IsGatheredFor files asked m b g
  pub covered : first_uncovered (world_of b.before) (wish b) (grown (set_aside (world_of b.before) (wish b)) (new_cells g)) ≡ None

abbrev pub FindsNew : (files : List File) (asked : Change) (m : Machine) → IsBegun files asked m → Result Gathered Fail → Type 0
FindsNew files asked m b (Ok g) = IsFound files asked m b g
FindsNew files asked m b (Err (Refused refusal)) = planned files asked m b ≡ Err refusal
FindsNew files asked m b (Err OutOfMemory) = Unit {0}

abbrev pub view_with : Machine → Landed → View
view_with m landed =
    record {
      spaces = m.spaces;
      links = m.graph.rows;
      now = seen landed.ahead.namespaces (m.cells.items ++ landed.cells.items) landed.ahead.cells;
    }

abbrev pub place_if_ready : Task → List TaskPc
place_if_ready t = if is_ready t then pc_of t ∷ [] else []

-- `roots` are where it begins but for the new cells
pub record LooksOver (m : Machine) (cells : List NewCell) (roots : List Root) (o : Outlook) : Type 0 where
  pub places : o.places ≡ flat_map (λ c. placed_in (attached c)) (m.cells.items ++ cells)
  pub rooted : o.roots.items ≡ roots ++ map (λ c. Attached c.id) cells

abbrev pub Looks : Machine → List NewCell → Option (List Root) → Option Outlook → Type 0
Looks m cells None None = Unit {0}
Looks m cells None (Some o) = ⊥
Looks m cells (Some roots) None = ⊥
Looks m cells (Some roots) (Some o) = LooksOver m cells roots o

-- the task that begins again is live, and may begin in the machine with the new cells
pub record IsBegunBy (m : Machine) (asked : Change) (plan : PlanSaid) (task : ℕ) : Type 0 where
  pub named : restart_by asked.options.ending ≡ Some task
  pub t : Task
  pub live : live_in m.tasks task ≡ Some t
  pub entry : ℕ × ℕ
  pub there : entry_again plan.linked t ≡ Some entry
  pub is : plan.restarted ≡ Some (restarted t entry)

abbrev pub BeginsBy : Machine → Change → PlanSaid → Option ℕ → Type 0
BeginsBy m asked plan None = plan.restarted ≡ None
BeginsBy m asked plan (Some task) = IsBegunBy m asked plan task

pub record IsPlan (files : List File) (asked : Change) (m : Machine) (b : IsBegun files asked m) (roots : Option (List Root)) (p : Plan) : Type 0 where
  pub plan : PlanSaid
  pub is : planned files asked m b ≡ Ok plan
  pub change : CanChange m p.staged p.patches.items p.links
  pub changed : List Patch
  pub ready : IsReadyToAdd m changed (afters change.steps) p.staged
  pub linked : ready.after ≡ plan.linked
  pub fresh : plan.fresh ≡ placed_cells ready.staged.starts ready.new
  pub patches : patches_from p.patches.items ≡ changed
  pub count : length p.patches.items ≡ length plan.changed
  pub looks : Looks m p.staged.cells.items roots p.outlook
  pub named : length p.begins.items ≡ length asked.options.routines.now
  pub stack : extra_start m.memory.base p.staged.space.taken (pages_for asked.options.routines.now) ≡ Ok p.stack
  pub stack_is : plan.stack ≡ p.stack
  pub begins : All (λ x. x.offset < 2 ^ 32) p.begins.items
  pub routines : plan.routines ≡ routines_among p.staged.cells.items (map begin_as p.begins.items)
  pub again : BeginsBy m asked plan p.again

abbrev pub Plans : (files : List File) (asked : Change) (m : Machine) → IsBegun files asked m → Option (List Root) → Result Plan Fail → Type 0
Plans files asked m b roots (Ok p) = IsPlan files asked m b roots p
Plans files asked m b roots (Err (Refused refusal)) = planned files asked m b ≡ Err refusal
Plans files asked m b roots (Err OutOfMemory) = Unit {0}
