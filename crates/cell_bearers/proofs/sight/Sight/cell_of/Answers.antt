use Rattle.std.proofs.Common.{◌∙◌, refl}
use Rattle.cell_bearers.specs.Seeing.{first_at, seen_at}
use Rattle.cell_bearers.specs.Sight.{sees_by}
use Rattle.cell_bearers.proofs.FirstSeen.{cell_found, object_found}
use Rattle.cell_bearers.proofs.sight.Sight.cell_of.Goals as goal

pub returns-in-Object : goal.returns-in-Object
returns-in-Object c =
    let s = c.args.self.now in
    c.of_object.ensures ∙ object_found s c.args.bearer c.requires c.in-Object.object c.in-Object.symbol c.in-Object.is (first_at s.firsts.items c.in-Object.object) refl

pub returns-in-Cell : goal.returns-in-Cell
returns-in-Cell c =
    let s = c.args.self.now in
    c.of_cell.ensures ∙ cell_found s c.args.bearer c.in-Cell.cell c.in-Cell.symbol c.in-Cell.is (seen_at (sees_by s) s.cells.now c.in-Cell.cell) refl
