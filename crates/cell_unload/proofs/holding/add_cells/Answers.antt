use Rattle.std.proofs.Common.{◌∙◌, ◌<◌, ap, sym, subst, arith, append_assoc, append-nil, get_or, length, List, [], ◌∷◌, ◌++◌, take}
use Rattle.std.specs.Prelude.{flat_map}
use Rattle.std.proofs.lemmas.Grind.{flat_map-append}
use Rattle.cell_world.specs.declared.state.NewCell.{NewCell}
use Rattle.cell_world.specs.World.{World}
use Rattle.cell_num.specs.Lists.{In}
use Rattle.cell_hold.specs.declared.roots.Root.{Root}
use Rattle.cell_machine.specs.Machine.{world_of}
use Rattle.cell_machine.proofs.Joined.{cell_at, placed_in}
use Rattle.cell_unload.specs.Begun.{root_of}
use Rattle.cell_unload.proofs.holding.add_cells.Goals as goal

pub add_cell-requires-clause-there : goal.add_cell-requires-clause-there
add_cell-requires-clause-there c =
    let m = c.args.machine.now in
    let x = c.index-cells-place.result in
    let lt : c.loop-place.place < length m.cells.items = omega (arith, c.loop-place-test.true, ap length c.as_slice-cells.ensures.value) in
    let at = cell_at m c.requires c.loop-place.place x lt (c.index-cells-place.is ∙ ap (λ (cs : List NewCell). get_or cs c.loop-place.place x) c.as_slice-cells.ensures.value) in
    subst (λ (y : NewCell). In y m.cells.items) at.placed (placed_in m c.requires at.cell at.there)

pub loop-place-preserved : goal.loop-place-preserved
loop-place-preserved c =
    let m = c.args.machine.now in
    let w : World = world_of m in
    let x = c.index-cells-place.result in
    let lt : c.loop-place.place < length m.cells.items = omega (arith, c.loop-place-test.true, ap length c.as_slice-cells.ensures.value) in
    let at = cell_at m c.requires c.loop-place.place x lt (c.index-cells-place.is ∙ ap (λ (cs : List NewCell). get_or cs c.loop-place.place x) c.as_slice-cells.ensures.value) in
    let f = root_of c.args.aside.now in
    (c.in_ok-add_cell.ensures {u = tt}) at.cell at.there at.placed
    ∙ (ap (λ (rs : List Root). rs ++ f at.cell) c.loop-place.invariant
    ∙ (append_assoc _ _ (f at.cell)
    ∙ ap (λ (rs : List Root). c.args.into.now.items ++ rs)
    (ap (λ (rs : List Root). flat_map f (take c.loop-place.place w.cells) ++ rs) (sym (append-nil (f at.cell)))
    ∙ (sym (flat_map-append f (take c.loop-place.place w.cells) (at.cell ∷ [])) ∙ ap (flat_map f) (sym at.next)))))
