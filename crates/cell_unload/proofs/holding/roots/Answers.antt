use Rattle.cell_machine.specs.Machine.{world_of}
use Rattle.cell_unload.proofs.Beginnings.{listed_are}
use Rattle.cell_unload.proofs.holding.roots.Goals as goal

pub returns : goal.returns
returns c =
    let m = c.args.machine.now in
    listed_are c.args.aside.now (world_of m).cells m.tasks.tasks c.in_ok-roots.roots.items c.add_cells.new.into.items c.add_tasks.new.into.items c.in_ok-roots.ensures.items c.in_ok-add_cells.ensures c.in_ok-add_tasks.ensures
