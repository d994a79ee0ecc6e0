-- The way back of a change whose new cells were added.
--     CanGoBack n back fresh     the new cells can be taken out of n, to which they were added, and what takes the links of others back is known
--     CanUndo n back fresh       the same once routines have run, which may have mapped their stack
use Rattle.std.specs.Prelude.{◌≡◌, ◌≤◌, ◌+◌, ◌*◌, ℕ, List, is_some, length, map, true}
use Rattle.cell_num.specs.Limits.{page_size}
use Rattle.cell_world.specs.Coherent.{shape_of}
use Rattle.cell_mem.specs.Index.{IsLaid}
use Rattle.cell_mem.specs.State.{before_in}
use Rattle.cell_change.specs.declared.request.Change.{Change}
use Rattle.cell_num.specs.declared.ids.CellId.{CellId}
use Rattle.cell_lemmas.specs.LinkSteps.{afters}
use Rattle.cell_commit.specs.Cells.{arrived}
use Rattle.cell_commit.specs.Rewiring.{IsTurned}
use Rattle.cell_commit.specs.declared.wiring.Rewiring.{Rewiring}
use Rattle.cell_machine.specs.declared.machine.Machine.{Machine}
use Rattle.cell_machine.specs.Staged.{IsCommitted}
use Rattle.cell_load.specs.Adding.{memory_with}
use Rattle.cell_change.specs.declared.planning.Plan.{Plan}
use Rattle.cell_change.specs.declared.ready.Ready.{Ready}
use Rattle.cell_change.specs.Before.{begun_in}
use Rattle.cell_change.specs.Exchanged.{IsPlanned, IsReadyFor}

-- the undo was begun when there was room for all, before the new cells were added
pub record CanGoBack (n : Machine) (back : Rewiring) (fresh : List CellId) : Type 0 where
  pub before : Machine
  pub asked : Change
  pub plan_before : Plan
  pub planned : IsPlanned before asked plan_before
  pub room : Machine
  pub ready : Ready
  pub is : IsReadyFor before asked plan_before room ready
  pub count : ℕ
  pub enough : length ready.plan.patches.items + length ready.plan.staged.fields.items ≤ count
  pub added : IsCommitted (begun_in room count) (memory_with (begun_in room count).memory ready.plan.staged.regions.items ready.plan.patches.items) (afters planned.change.steps)
      (map arrived ready.prepared.newcomers.items) ready.plan.staged n
  pub turned : IsTurned ready.plan.links back
  pub left : length ready.plan.links.unbinds.items ≤ n.graph.spare_rows
  pub fresh_are : fresh ≡ ready.fresh

-- what an undo gives back is what it was before the routines
pub record CanUndo (n : Machine) (back : Rewiring) (fresh : List CellId) : Type 0 where
  pub added : Machine
  pub can : CanGoBack added back fresh
  pub laid : IsLaid added.memory.base added.memory.regions (added.memory.base + page_size * added.memory.pages)
  pub kept : map shape_of (before_in added.memory) ≡ map shape_of added.memory.regions
  pub like : n ≡ record added { memory = n.memory }
  pub rest : n.memory ≡ record added.memory { regions = n.memory.regions; undo = n.memory.undo; maps = n.memory.maps }
  pub gives_back : before_in n.memory ≡ before_in added.memory
  pub begun : is_some n.memory.undo ≡ true
