use Rattle.std.proofs.Common.{◌∙◌, ◌++◌, ap, arith, length, map, subst, sym}
use Rattle.std.specs.List.Sorted.{IsStrictlyIncreasing}
use Rattle.cell_world.specs.World.{key_of}
use Rattle.cell_commit.proofs.SectionsLeft.{above_here, above_more, count_here, next_left, rising_here, sections_done, sections_more}
use Rattle.cell_commit.proofs.sections.add_sections.Goals as goal

pub add_cell-requires-clause-above : goal.add_cell-requires-clause-above
add_cell-requires-clause-above c =
    let cells = c.args.cells.now in
    let i = c.loop-cell.cell-index in
    let left = next_left cells i c.cell-item.result (omega (arith, c.loop-cell-test.true)) c.cell-item.is in
    above_here cells i c.cell-item.result left c.loop-cell.graph.sections c.loop-cell.invariant.above

pub add_cell-requires-clause-rising : goal.add_cell-requires-clause-rising
add_cell-requires-clause-rising c =
    let cells = c.args.cells.now in
    let i = c.loop-cell.cell-index in
    let left = next_left cells i c.cell-item.result (omega (arith, c.loop-cell-test.true)) c.cell-item.is in
    subst IsStrictlyIncreasing (sym c.deref.ensures.value) (rising_here cells i c.cell-item.result left c.loop-cell.graph.sections c.loop-cell.invariant.above)

pub add_cell-requires-clause-room : goal.add_cell-requires-clause-room
add_cell-requires-clause-room c =
    let cells = c.args.cells.now in
    let i = c.loop-cell.cell-index in
    let left = next_left cells i c.cell-item.result (omega (arith, c.loop-cell-test.true)) c.cell-item.is in
    let count = count_here cells i c.cell-item.result left in
    omega (arith, count, ap length c.deref.ensures.value, c.loop-cell.invariant.room)

pub loop-cell-preserved : goal.loop-cell-preserved
loop-cell-preserved c =
    let cells = c.args.cells.now in
    let i = c.loop-cell.cell-index in
    let left = next_left cells i c.cell-item.result (omega (arith, c.loop-cell-test.true)) c.cell-item.is in
    let added = c.add_cell.ensures.added ∙ ap (λ xs. c.loop-cell.graph.sections ++ map (key_of c.cell-item.result.cell.0) xs) c.deref.ensures.value in
    let count = count_here cells i c.cell-item.result left in
    record {
      sections = sections_more cells i c.cell-item.result left _ _ _ added c.loop-cell.invariant.sections;
      rows = c.add_cell.ensures.same_rows ∙ c.loop-cell.invariant.rows;
      room_for_rows = omega (arith, c.add_cell.ensures.same_room_for_links, c.loop-cell.invariant.room_for_rows);
      room = omega (arith, count, ap length c.deref.ensures.value, c.add_cell.ensures.room, c.loop-cell.invariant.room);
      above = above_more cells i c.cell-item.result left _ _ added c.loop-cell.invariant.above;
    }

pub returns-clause-sections : goal.returns-clause-sections
returns-clause-sections c = sections_done _ _ c.args.cells.now c.loop-cell.cell-index c.loop-cell-test.false c.loop-cell.invariant.sections
