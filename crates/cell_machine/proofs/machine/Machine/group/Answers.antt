use Rattle.std.proofs.Common.{◌∙◌, sym}
use Rattle.cell_machine.proofs.States.{attached_group, detached_group, has_cell, state_told}
use Rattle.cell_machine.proofs.machine.Machine.group.Goals as goal

pub state-requires : goal.state-requires
state-requires c = has_cell c.args.self.now c.requires.sound c.args.cell.now c.requires.there

pub returns-in-Attached : goal.returns-in-Attached
returns-in-Attached c = λ d i same.
    attached_group d.standing (sym c.in-Attached.is ∙ state_told c.args.self.now c.requires.sound d i c.args.cell.now same c.state.result c.state.ensures)

pub returns-in-Detached : goal.returns-in-Detached
returns-in-Detached c = λ d i same.
    detached_group d.standing c.in-Detached.swap (sym c.in-Detached.is ∙ state_told c.args.self.now c.requires.sound d i c.args.cell.now same c.state.result c.state.ensures)
