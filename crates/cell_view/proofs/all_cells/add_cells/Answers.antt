use Rattle.std.proofs.Common.{◌∙◌, ◌<◌, ◌++◌, ap, subst, arith, get_or, length, List}
use Rattle.std.specs.Prelude.{flat_map}
use Rattle.cell_world.specs.declared.state.NewCell.{NewCell}
use Rattle.cell_world.specs.World.{Cell}
use Rattle.cell_num.specs.Lists.{In}
use Rattle.cell_world.specs.DumpLines.{cell_lines}
use Rattle.cell_machine.specs.Machine.{world_of}
use Rattle.cell_machine.proofs.Joined.{cell_at, placed_in}
use Rattle.cell_view.proofs.Behind.{piece_more}
use Rattle.cell_view.proofs.CellLines.{all_taken}
use Rattle.cell_view.proofs.all_cells.add_cells.Goals as goal

pub add_cell-requires-clause-there : goal.add_cell-requires-clause-there
add_cell-requires-clause-there c =
    let m = c.args.machine.now in
    let x = c.index-cells-index.result in
    let lt : c.loop-index.index < length m.cells.items = omega (arith, c.loop-index-test.true, ap length c.as_slice-cells.ensures.value) in
    let at = cell_at m c.requires c.loop-index.index x lt (c.index-cells-index.is ∙ ap (λ (cs : List NewCell). get_or cs c.loop-index.index x) c.as_slice-cells.ensures.value) in
    subst (λ (y : NewCell). In y m.cells.items) at.placed (placed_in m c.requires at.cell at.there)

pub loop-index-preserved : goal.loop-index-preserved
loop-index-preserved c =
    let m = c.args.machine.now in
    let x = c.index-cells-index.result in
    let lt : c.loop-index.index < length m.cells.items = omega (arith, c.loop-index-test.true, ap length c.as_slice-cells.ensures.value) in
    let at = cell_at m c.requires c.loop-index.index x lt (c.index-cells-index.is ∙ ap (λ (cs : List NewCell). get_or cs c.loop-index.index x) c.as_slice-cells.ensures.value) in
    piece_more cell_lines (world_of m).cells c.loop-index.index at.cell c.args.lines.now.items c.loop-index.lines.items _ at.next c.loop-index.invariant (c.in_ok-add_cell.ensures at.cell at.there at.placed)

pub returns : goal.returns
returns c =
    let m = c.args.machine.now in
    c.loop-index.invariant ∙ ap (λ (cs : List Cell). c.args.lines.now.items ++ flat_map cell_lines cs) (all_taken m c.requires c.loop-index.index (omega (arith, c.loop-index-test.false, ap length c.as_slice-cells.ensures.value)))
