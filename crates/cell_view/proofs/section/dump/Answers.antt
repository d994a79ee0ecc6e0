use Rattle.cell_machine.specs.Machine.{world_of}
use Rattle.cell_machine.proofs.Looked.{found_low}
use Rattle.cell_view.proofs.Showing.{here_is, shown}
use Rattle.cell_view.proofs.section.dump.Goals as goal

pub start_of-start-requires : goal.start_of-start-requires
start_of-start-requires c = (found_low c.args.machine.now c.requires c.args.cell c.in-Some.present.now (c.in-Some.ensures {u = tt})).ordered

pub returns : goal.returns
returns c =
    let m = c.args.machine.now in
    let d = here_is (world_of m) c.args.cell c.in-Some.present.now (c.in-Some.ensures {u = tt}) in
    shown m c.args.cell d.0 d.1 c.in-Some.present.now d.2 c.args.section c.in-Some-section_of.found.now c.in-Some-section_of.ensures c.start_of-start.result c.start_of-start.ensures c.in_ok-bytes.bytes c.in_ok-bytes.ensures
