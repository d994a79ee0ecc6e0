use Rattle.std.proofs.Common.{◌++◌, List, refl, subst, sym}
use Rattle.std.specs.Prelude.{flat_map}
use Rattle.cell_num.specs.Lists.{In}
use Rattle.cell_world.specs.declared.state.NewCell.{NewCell}
use Rattle.cell_machine.proofs.Lists.{in_get}
use Rattle.cell_world.specs.declared.line.DumpLine.{DumpLine}
use Rattle.cell_view.specs.Whole.{content_shown}
use Rattle.cell_view.proofs.Behind.{pieces_over}
use Rattle.cell_view.proofs.all_bytes.add_sections_of_cells.Goals as goal

pub add_sections-requires : goal.add_sections-requires
add_sections-requires c =
    c.requires c.cell-item.result (subst (λ (x : NewCell). In x c.args.cells.now) (sym c.cell-item.is) (in_get c.args.cells.now c.loop-cell.cell-index c.cell-item.result c.loop-cell-test.true))

pub loop-cell-preserved : goal.loop-cell-preserved
loop-cell-preserved c =
    let shown : NewCell → List DumpLine = λ d. flat_map (content_shown c.args.memory.now.regions d) d.object.sections in
    pieces_over shown c.args.cells.now c.args.cells.now refl c.loop-cell.cell-index c.cell-item.result c.loop-cell.lines.items _ (c.args.lines.now.items ++ flat_map shown c.args.cells.now)
    c.loop-cell-test.true c.cell-item.is c.in_ok-add_sections.ensures c.loop-cell.invariant
