use Rattle.std.proofs.Common.{ap, sym, List}
use Rattle.cell_world.specs.declared.line.DumpLine.{DumpLine}
use Rattle.cell_world.specs.declared.reply.Reply.TheVariants.{DumpAll as DumpAllDone}
use Rattle.cell_world.specs.Answer.{done}
use Rattle.cell_machine.specs.Machine.{world_of}
use Rattle.cell_view.proofs.whole.dump_all.Goals as goal

pub returns : goal.returns
returns c =
    let w = world_of c.args.machine.now in
    ap (λ (lines : List DumpLine). done (DumpAllDone lines) w) (sym c.in_ok-lines.ensures)
