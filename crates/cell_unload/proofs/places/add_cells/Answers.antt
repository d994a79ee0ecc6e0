use Rattle.std.proofs.Common.{subst, sym}
use Rattle.cell_world.specs.declared.state.NewCell.{NewCell}
use Rattle.cell_num.specs.Lists.{In}
use Rattle.cell_machine.proofs.Lists.{in_get}
use Rattle.cell_unload.proofs.places.add_cells.Goals as goal

pub add_sections-requires : goal.add_sections-requires
add_sections-requires c =
    c.requires c.index-cells-place.result
    (subst (λ (x : NewCell). In x c.args.cells.now) (sym c.index-cells-place.is) (in_get c.args.cells.now c.loop-place.place c.index-cells-place.result c.loop-place-test.true))
