-- A change's last steps, and all of it.
--     AreRoots m aside roots            where holding begins in m but for these cells, where there are any
--     HasBegun files asked m roots      the old cells are put aside in m, and roots are where holding began but for them
--     IsPlanned m asked p               p is the plan of a change that has begun in m
--     room_for old cells                how much room for lists of cells is needed
--     AreEmpty cells lists              the lists are empty, and each has room for so many cells
--     CanTake m asked p                 what the last steps take can be made of the plan p for m
--     HasTaken m asked p r              r is the plan with all that they take, but for room in the machine
--     IsReadyFor m asked p n r          and n is m with room for it
--     CanFinish n asked r               r is ready for n, in which an undo is begun
--     HasCounted c n                    patches rose by the fields, maps by the regions of the new cells and the stack of the routines
--     are_aside old w                   the cells that are put aside, where cells were replaced
--     named_in ids w                    the cells of these numbers
--     HasChanged said old stacks m made n   what the definition has made was made of m, and is told so
--     ended c plan                      the machine after the routines, and once the task has begun again, if one does, unless a routine fails or a strict change is refused
--     Finishes c result l               the same without the cells that go, or the refusal, and but for counts the machine before the undo was begun
--     exchanged .. b                    the plan and the machine that it ends with, unless that is refused
--     Exchanges .. result n             the exchange was done, or the refusal, and but for counts the same machine
--     Changes files asked a m result n  the change was made, or the refusal, and but for counts the same machine
--     unless_attached cell group        the cell, if a swap put it aside
use Rattle.std.specs.Prelude.{ℕ, ◌≡◌, ◌≤◌, ◌<◌, ◌+◌, ◌^◌, All, IsTrue, List, [], ◌∷◌, ◌++◌, Option, Some, None, Result, Ok, Err, filter, flat_map, is_none, length, map, nat_lt, vec_capacity, if◌then◌else◌}
use Rattle.cell_num.specs.declared.ids.CellId.{CellId}
use Rattle.cell_num.specs.Lists.{each_pair, holds}
use Rattle.cell_world.specs.declared.fail.Fail.{Fail}
use Rattle.cell_world.specs.declared.fail.Fail.TheVariants.{Refused, OutOfMemory}
use Rattle.cell_world.specs.declared.file.File.{File}
use Rattle.cell_world.specs.declared.refusal.Refusal.{Refusal}
use Rattle.cell_world.specs.Answer.{ids, numbers_of}
use Rattle.cell_world.specs.Coherent.{IsLoadable}
use Rattle.cell_world.specs.Change.{Change as ChangeSaid, Made as MadeSaid, Plan as PlanSaid, first_held_old, made_by, make_change, plan_of, with_sequel}
use Rattle.cell_world.specs.Gather.{source_of}
use Rattle.cell_world.specs.Outcome.{Outcome, ◌>>=◌, ◌>>◌, refused_by}
use Rattle.cell_world.specs.Commands.UnloadCommand.{detached_of}
use Rattle.cell_world.specs.World.{Cell, World}
use Rattle.cell_commit.specs.Rewiring.{IsTurned}
use Rattle.cell_hold.specs.declared.roots.Root.{Root}
use Rattle.cell_machine.specs.declared.machine.Machine.{Machine}
use Rattle.cell_machine.specs.Does.{LeavesParts, cell_shapes}
use Rattle.cell_machine.specs.Machine.{IsSound, world_of}
use Rattle.cell_machine.specs.Same.{IsSame, raised, without_counts}
use Rattle.cell_load.specs.Adding.{HasRoomFor, IsPrepared}
use Rattle.cell_placed.specs.Low.{IsLow}
use Rattle.cell_change.specs.declared.request.Change.{Change}
use Rattle.cell_change.specs.declared.ready.Lists.{Lists}
use Rattle.cell_change.specs.declared.made.Made.{Made}
use Rattle.cell_change.specs.declared.ready.Ready.{Ready}
use Rattle.cell_change.specs.declared.planning.Plan.{Plan}
use Rattle.cell_change.specs.Asking.{IsAsked, as_said}
use Rattle.cell_change.specs.Before.{begun_in}
use Rattle.cell_change.specs.Counted.{most_by}
use Rattle.cell_change.specs.Planning.{IsBegun, IsPlan, planned, wish}
use Rattle.cell_change.specs.Transferring.{AreOld, Gives, stacks_for, turns_in}
use Rattle.cell_unload.specs.Begun.{root_of, root_of_task}

abbrev pub roots_without : Machine → List CellId → List Root
roots_without m aside = flat_map (root_of aside) (world_of m).cells ++ map root_of_task m.tasks.tasks

abbrev pub AreRoots : Machine → List CellId → Option (List Root) → Type 0
AreRoots m aside None = aside ≡ []
AreRoots m aside (Some roots) = (0 < length aside) × (roots ≡ roots_without m aside)

pub record HasBegun (files : List File) (asked : Change) (m : Machine) (roots : Option (List Root)) : Type 0 where
  pub begun : IsBegun files asked m
  pub rooted : AreRoots begun.before asked.replaced.items roots

pub record IsPlanned (m : Machine) (asked : Change) (p : Plan) : Type 0 where
  pub files : List File
  pub begun : IsBegun files asked m
  pub roots : Option (List Root)
  pub rooted : AreRoots begun.before asked.replaced.items roots
  pub made : IsPlan files asked m begun roots p
  pub open made use *

-- none, where no cell is replaced
abbrev pub room_for : List CellId → ℕ → ℕ
room_for [] cells = 0
room_for (c ∷ old) cells = cells

pub record AreEmpty (cells : ℕ) (lists : Lists) : Type 0 where
  pub kept : lists.kept.items ≡ []
  pub removed : lists.removed.items ≡ []
  pub aside : lists.aside.items ≡ []
  pub kept_room : cells ≤ vec_capacity lists.kept
  pub removed_room : cells ≤ vec_capacity lists.removed
  pub aside_room : cells ≤ vec_capacity lists.aside

-- the machine has the old cells, and the new ones are low and in order
pub record CanTake (m : Machine) (asked : Change) (p : Plan) : Type 0 where
  pub old : AreOld m asked.replaced.items
  pub low : All IsLow p.staged.cells.items
  pub order : IsTrue (each_pair (λ a b. nat_lt a.id.0 b.id.0) p.staged.cells.items)
  pub loadable : All (λ c. IsLoadable c.object) p.staged.cells.items
  pub names : length p.staged.names.items ≡ length p.staged.cells.items
  pub begins : All (λ b. b.offset < 2 ^ 32) p.begins.items

-- the names of the new cells are in `prepared`
pub record HasTaken (m : Machine) (asked : Change) (p : Plan) (r : Ready) : Type 0 where
  pub plan : r.plan ≡ record p { staged = record p.staged { names = r.plan.staged.names } }
  pub prepared : IsPrepared p.staged.cells.items p.staged.names.items r.prepared
  pub lists : AreEmpty (room_for asked.replaced.items (length m.cells.items + length p.staged.cells.items)) r.lists
  pub fresh : r.fresh ≡ map (λ c. c.id) p.staged.cells.items
  pub patched : r.patched ≡ length p.staged.fields.items + length p.patches.items
  pub writes : r.writes ≡ r.patched + turns_in r.transfer
  pub given : Gives m asked.replaced.items p asked.options.routines.now asked.options.budget r.transfer
  pub turned : IsTurned p.links r.back

pub record IsReadyFor (m : Machine) (asked : Change) (p : Plan) (n : Machine) (r : Ready) : Type 0 where
  pub same : IsSame m n
  pub room : HasRoomFor n r.plan.staged r.prepared (length r.plan.links.binds.items)
  pub stack_room : length p.staged.regions.items + 1 ≤ n.memory.spare
  pub taken : HasTaken m asked p r
  pub open taken use *

-- the plan was made before there was room for it
pub record CanFinish (n : Machine) (asked : Change) (r : Ready) : Type 0 where
  pub before : Machine
  pub plan_before : Plan
  pub is : IsPlanned before asked plan_before
  pub room : Machine
  pub ready : IsReadyFor before asked plan_before room r
  pub begun : n ≡ begun_in room r.writes

pub record HasCounted {n : Machine} {asked : Change} {r : Ready} (c : CanFinish n asked r) (l : Machine) : Type 0 where
  pub patches : l.memory.patches ≡ raised c.room.memory.patches r.patched
  pub maps : l.memory.maps ≡ raised c.room.memory.maps (length (flat_map cell_shapes c.is.plan.fresh) + stacks_for asked.options.routines.now)

abbrev pub are_aside : List CellId → World → List CellId
are_aside [] w = []
are_aside (c ∷ old) w = ids (detached_of w)

abbrev pub named_in : List CellId → World → List Cell
named_in fresh w = filter (λ c. holds (map (λ id. id.0) fresh) c.id.0) w.cells

-- each field was patched once, and each region of the new cells mapped, and so many stacks
pub record HasChanged (said : MadeSaid) (old : List CellId) (stacks : ℕ) (m : Machine) (made : Made) (n : Machine) : Type 0 where
  pub sound : IsSound n
  pub fresh : made.fresh ≡ ids (numbers_of said.fresh)
  pub patched : made.patched ≡ said.patched
  pub removed : made.removed ≡ ids said.removed
  pub aside : made.aside ≡ are_aside old (world_of n)
  pub world : world_of n ≡ said.world
  pub patches : n.memory.patches ≡ raised m.memory.patches made.patched
  pub maps : n.memory.maps ≡ raised m.memory.maps (length (flat_map cell_shapes (named_in made.fresh (world_of n))) + stacks)

abbrev pub ended : ChangeSaid → PlanSaid → Outcome World
ended c plan = with_sequel c plan >>= (λ last. refused_by (first_held_old c last) >> Ok last)

pub record HasFinished {n : Machine} {asked : Change} {r : Ready} (c : CanFinish n asked r) (made : Made) (l : Machine) : Type 0 where
  pub second : World
  pub is : ended (wish c.is.begun) c.is.plan ≡ Ok second
  pub changed : HasChanged (made_by (wish c.is.begun) c.is.plan second) asked.replaced.items (stacks_for asked.options.routines.now) c.room made l

pub record HasUndone {n : Machine} {asked : Change} {r : Ready} (c : CanFinish n asked r) (l : Machine) : Type 0 where
  pub same : IsSame c.room (without_counts c.room l)
  pub counted : HasCounted c l
  pub open counted use *

abbrev pub Finishes : {n : Machine} {asked : Change} {r : Ready} → CanFinish n asked r → Result Made Refusal → Machine → Type 0
Finishes c (Ok made) l = HasFinished c made l
Finishes c (Err refusal) l = (ended (wish c.is.begun) c.is.plan ≡ Err refusal) × HasUndone c l

-- the plan, and the machine after its routines
abbrev pub exchanged : (files : List File) (asked : Change) (m : Machine) → IsBegun files asked m → Outcome (PlanSaid × World)
exchanged files asked m b = planned files asked m b >>= (λ plan. ended (wish b) plan >>= (λ second. Ok (plan, second)))

-- all of it was done
pub record HasExchanged (files : List File) (asked : Change) (m : Machine) (b : IsBegun files asked m) (made : Made) (n : Machine) : Type 0 where
  pub plan : PlanSaid
  pub second : World
  pub is : exchanged files asked m b ≡ Ok (plan, second)
  pub changed : HasChanged (made_by (wish b) plan second) asked.replaced.items (stacks_for asked.options.routines.now) m made n

abbrev pub Exchanges : (files : List File) (asked : Change) (m : Machine) → IsBegun files asked m → Result Made Fail → Machine → Type 0
Exchanges files asked m b (Ok made) n = HasExchanged files asked m b made n
Exchanges files asked m b (Err (Refused refusal)) n =
    (exchanged files asked m b ≡ Err refusal)
    × LeavesParts (Some (most_by (planned files asked m b) (stacks_for asked.options.routines.now))) refusal m n
Exchanges files asked m b (Err OutOfMemory) n = IsSame m n

pub record HasMade (files : List File) (asked : Change) (m : Machine) (a : IsAsked (map source_of files) (world_of m) asked) (made : Made) (n : Machine) : Type 0 where
  pub said : MadeSaid
  pub is : make_change (map source_of files) (world_of m) (as_said asked.options a.wants a.copies) ≡ Ok said
  pub changed : HasChanged said asked.replaced.items (stacks_for asked.options.routines.now) m made n

-- a refusal before there is a plan has counted nothing
abbrev pub Changes : (files : List File) (asked : Change) (m : Machine) → IsAsked (map source_of files) (world_of m) asked → Result Made Fail → Machine → Type 0
Changes files asked m a (Ok made) n = HasMade files asked m a made n
Changes files asked m a (Err (Refused refusal)) n =
    (make_change (map source_of files) (world_of m) (as_said asked.options a.wants a.copies) ≡ Err refusal)
    × LeavesParts (Some (most_by (plan_of (map source_of files) (world_of m) (as_said asked.options a.wants a.copies)) (stacks_for asked.options.routines.now))) refusal m n
Changes files asked m a (Err OutOfMemory) n = IsSame m n

abbrev pub unless_attached : CellId → Option ℕ → List CellId
unless_attached cell group = if is_none group then [] else cell ∷ []
