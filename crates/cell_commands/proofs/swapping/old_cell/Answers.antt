use Rattle.std.proofs.Common.{refl, sym, ap, ◌∙◌}
use Rattle.std.specs.Prelude.{None, Some, Ok}
use Rattle.cell_world.specs.declared.command.CellName.{CellName}
use Rattle.cell_world.specs.declared.state.NewCell.{NewCell}
use Rattle.cell_world.specs.Outcome.{Outcome, ◌>>=◌}
use Rattle.cell_world.specs.Commands.UnloadCommand.{attached_cell}
use Rattle.cell_machine.specs.Machine.{world_of}
use Rattle.cell_commands.proofs.ItemLemmas.{some_cell, the_cell}
use Rattle.cell_commands.proofs.swapping.old_cell.Goals as goal

pub unreachable-requires : goal.unreachable-requires
unreachable-requires c =
    some_cell (world_of c.args.machine.now) c.requires.coherent.ready.cell_order c.in_ok-name.name c.in_ok-number.number.0
    (c.in_ok-number.ensures {u = tt}) None (c.in-None.ensures {u = tt}) refl

pub returns : goal.returns
returns c =
    ap (λ (name : CellName). attached_cell (world_of c.args.machine.now) name >>= (λ c. let said : Outcome NewCell = Ok c.placed in said)) (sym (c.in_ok-name.ensures {u = tt}))
    ∙ the_cell (world_of c.args.machine.now) c.requires.coherent.ready.cell_order c.in_ok-name.name c.in_ok-number.number.0
    (c.in_ok-number.ensures {u = tt}) (Some c.in-Some.cell.now) (c.in-Some.ensures {u = tt}) c.in-Some.cell.now refl
