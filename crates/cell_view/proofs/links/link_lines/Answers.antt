use Rattle.cell_world.specs.Commands.LinkCommands.{link_line}
use Rattle.cell_machine.specs.Machine.{world_of}
use Rattle.cell_view.proofs.Gathering.{lines_more}
use Rattle.cell_view.proofs.links.link_lines.Goals as goal

pub loop-row-preserved : goal.loop-row-preserved
loop-row-preserved c =
    lines_more (link_line (world_of c.args.machine.now)) c.args.rows.now c.loop-row.row-index _ _ _ c.loop-row-test.true c.loop-row.invariant c.in_ok-add_line.ensures
