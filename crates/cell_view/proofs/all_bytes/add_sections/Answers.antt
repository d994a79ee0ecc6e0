use Rattle.std.proofs.Common.{◌++◌}
use Rattle.std.specs.Prelude.{flat_map}
use Rattle.cell_view.specs.Whole.{content_shown}
use Rattle.cell_view.proofs.Behind.{pieces_over}
use Rattle.cell_view.proofs.all_bytes.add_sections.Goals as goal

pub loop-section-preserved : goal.loop-section-preserved
loop-section-preserved c =
    let cell = c.args.cell.now in
    let shown = content_shown c.args.memory.now.regions cell in
    pieces_over shown cell.object.sections c.as_slice-section-items.result.now c.as_slice-section-items.ensures c.loop-section.section-index c.section-item.result c.loop-section.lines.items _ (c.args.lines.now.items ++ flat_map shown cell.object.sections)
    c.loop-section-test.true c.section-item.is c.in_ok-add_section.ensures c.loop-section.invariant
