use Rattle.std.proofs.Common.{sym, subst, List}
use Rattle.cell_num.specs.declared.ids.CellId.{CellId}
use Rattle.cell_world.specs.declared.reply.Reply.TheVariants.{Purge as PurgeDone}
use Rattle.cell_world.specs.Commands.UnloadCommand.{next_purge}
use Rattle.cell_machine.specs.Does.{HasDone}
use Rattle.cell_machine.specs.Machine.{world_of}
use Rattle.cell_unload.proofs.Swept.{purge_done}
use Rattle.cell_unload.proofs.unloading.purge.Goals as goal

pub returns : goal.returns
returns c =
    subst (λ (cells : List CellId). HasDone (next_purge (world_of c.args.machine.now)) 0 c.args.machine.now (PurgeDone cells) c.sweep.new.machine) (sym c.from_vec.ensures)
    (purge_done c.args.machine.now c.requires c.in_ok-removed.removed.items c.sweep.new.machine c.in_ok-removed.ensures)
