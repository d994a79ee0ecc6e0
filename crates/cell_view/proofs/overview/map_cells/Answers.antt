use Rattle.std.proofs.Common.{◌∙◌, ◌<◌, ap, ap₂, sym, subst, arith, get_or, length, List, [], ◌∷◌, ◌++◌, map}
use Rattle.std.proofs.lemmas.List.{map-append}
use Rattle.cell_world.specs.declared.reply.MapCell.{MapCell}
use Rattle.cell_world.specs.declared.state.NewCell.{NewCell}
use Rattle.cell_world.specs.Commands.MapCommand.{map_cell}
use Rattle.cell_world.specs.World.{World}
use Rattle.cell_num.specs.Lists.{In}
use Rattle.cell_machine.specs.Machine.{world_of}
use Rattle.cell_machine.proofs.Joined.{cell_at, placed_in}
use Rattle.cell_view.proofs.overview.map_cells.Goals as goal

pub map_cell-requires-clause-there : goal.map_cell-requires-clause-there
map_cell-requires-clause-there c =
    let m = c.args.machine.now in
    let x = c.index-cells-index.result in
    let lt : c.loop-index.index < length m.cells.items = omega (arith, c.loop-index-test.true, ap length c.as_slice-cells.ensures.value) in
    let at = cell_at m c.requires c.loop-index.index x lt (c.index-cells-index.is ∙ ap (λ (cs : List NewCell). get_or cs c.loop-index.index x) c.as_slice-cells.ensures.value) in
    subst (λ (y : NewCell). In y m.cells.items) at.placed (placed_in m c.requires at.cell at.there)

pub loop-index-preserved : goal.loop-index-preserved
loop-index-preserved c =
    let m = c.args.machine.now in
    let w : World = world_of m in
    let x = c.index-cells-index.result in
    let lt : c.loop-index.index < length m.cells.items = omega (arith, c.loop-index-test.true, ap length c.as_slice-cells.ensures.value) in
    let at = cell_at m c.requires c.loop-index.index x lt (c.index-cells-index.is ∙ ap (λ (cs : List NewCell). get_or cs c.loop-index.index x) c.as_slice-cells.ensures.value) in
    (c.in_ok-push.ensures {u = tt}).items
    ∙ (ap₂ (λ (xs : List MapCell) (y : MapCell). xs ++ y ∷ []) c.loop-index.invariant (c.in_ok-map_cell.ensures at.cell at.there at.placed)
    ∙ (sym (map-append (map_cell w) _ (at.cell ∷ [])) ∙ ap (map (map_cell w)) (sym at.next)))
