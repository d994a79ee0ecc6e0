use Rattle.std.proofs.Common.{◌<◌, ◌^◌, ap, arith, length, subst, sym}
use Rattle.std.proofs.lemmas.Result.{on_ok_weaker}
use Rattle.cell_view.proofs.ContentLines.{read_few, shown_by}
use Rattle.cell_view.proofs.all_bytes.add_section.Goals as goal

pub start_of-start-requires : goal.start_of-start-requires
start_of-start-requires c = c.requires.ordered

pub add_content-requires-clause-low : goal.add_content-requires-clause-low
add_content-requires-clause-low c = subst (λ n. n < 2 ^ 63) (sym c.start_of-start.ensures) (c.requires.starts c.args.section.now.number)

pub add_content-requires-clause-few : goal.add_content-requires-clause-few
add_content-requires-clause-few c = omega (arith, read_few c.args.memory.now.regions c.start_of-start.result c.args.section.now.size, ap length c.held-bytes.ensures)

pub returns : goal.returns
returns c =
    on_ok_weaker c.add_content.result
    (λ added.
    shown_by c.args.memory.now.regions c.args.cell.now c.args.section.now c.from.result c.from-2.result c.start_of-start.result c.held-bytes.result.now c.args.lines.now.items _ c.from.ensures c.from-2.ensures c.start_of-start.ensures c.held-bytes.ensures added)
    c.add_content.ensures
