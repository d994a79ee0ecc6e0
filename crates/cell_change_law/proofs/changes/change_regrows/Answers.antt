use Rattle.std.specs.Prelude.{suc, ◌≡◌}
use Rattle.cell_world.specs.Changed.{now_in}
use Rattle.cell_world.specs.Commands.UnloadCommand.{put_aside}
use Rattle.cell_world.specs.World.{Cell}
use Rattle.cell_num.proofs.Elements.{In-All}
use Rattle.cell_world.specs.Change.{old_of}
use Rattle.cell_change_law.proofs.Placing.{behind, now_is, change_regrown, change_linkable, change_ready}
use Rattle.cell_change_law.proofs.changes.change_regrows.Goals as goal

pub returns-clause-aside : goal.returns-clause-aside
returns-clause-aside k = λ sources v c w sound h good p. In-All (λ (d : Cell). now_in w d ≡ put_aside (suc v.swaps) (old_of c) d) v.cells (now_is sources sound v h c good p.gathered p.gathering w p.placing p.covered)

pub returns-clause-attached : goal.returns-clause-attached
returns-clause-attached k = λ sources v c w sound h good p. (behind sources sound v h c good p.gathered p.gathering w p.placing).attached

pub returns-clause-regrown : goal.returns-clause-regrown
returns-clause-regrown k = λ sources v c w sound h good p. change_regrown sources sound v h c good p.gathered p.gathering w p.placing p.covered

pub returns-clause-linkable : goal.returns-clause-linkable
returns-clause-linkable k = λ sources v c w sound h good p. change_linkable sources sound v h c good p.gathered p.gathering w p.placing p.covered

pub returns-clause-ready : goal.returns-clause-ready
returns-clause-ready k = λ sources v c w sound h good p new_fit changed_fit. change_ready sources sound v h c good p.gathered p.gathering w p.placing p.covered changed_fit new_fit
