use Rattle.std.proofs.Common.{refl}
use Rattle.cell_layout.proofs.Settled.{enough, placed}
use Rattle.cell_layout.proofs.cells.place_cells.Goals as goal

pub settle-requires : goal.settle-requires
settle-requires c = enough c.args.space.now c.place_each.new.space c.args.cells.now c.args.extra c.in_ok-places.field-0 (c.in_ok-places.ensures {u = tt})

pub returns : goal.returns
returns c =
    placed c.args.space.now c.place_each.new.space c.args.cells.now c.args.extra c.in_ok-places.field-0 (c.in_ok-places.ensures {u = tt}) c.in_ok-extra.extra _ _ (c.in_ok-extra.ensures {u = tt}) c.settle.ensures
    refl refl
