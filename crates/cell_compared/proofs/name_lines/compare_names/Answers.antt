use Rattle.std.proofs.Common.{ap, map, List, refl}
use Rattle.std.proofs.lemmas.List.{drop_all}
use Rattle.std.proofs.lemmas.Result.{err_from_is_err_and}
use Rattle.cell_relinked.proofs.Gotten.{got}
use Rattle.cell_compared.specs.Left.{left}
use Rattle.cell_compared.proofs.Pieces.{flattened}
use Rattle.cell_compared.proofs.Walking.{all_gone, fails_here, goes_on}
use Rattle.std.specs.Prelude.{flat_map}
use Rattle.cell_compared.specs.Shown.{names_shown}
use Rattle.cell_described.specs.declared.cell.DescribedCell.{DescribedCell}
use Rattle.cell_relinked.specs.Scene.{seen_in, world_of}
use Rattle.cell_compared.proofs.name_lines.compare_names.Goals as goal

pub compare_names_of-requires-clause-there : goal.compare_names_of-requires-clause-there
compare_names_of-requires-clause-there c =
    let xs = c.args.scene.now.cells.now in
    got xs c.loop-index.index c.index-cells-index.result c.loop-index-test.true c.index-cells-index.is

pub returns-in_err-compare_names_of : goal.returns-in_err-compare_names_of
returns-in_err-compare_names_of c =
    let p = err_from_is_err_and c.from_residual.result c.from_residual.ensures.1 in
    let scene = c.args.scene.now in
    let xs = scene.cells.now in
    rw (p.1, p.2)
    (fails_here c.in_err-compare_names_of.field-0.0 (left c.loop-index.cursor) _ _ _ _ (flattened xs xs refl c.loop-index.index c.index-cells-index.result c.loop-index-test.true c.index-cells-index.is (seen_in scene) (names_shown (world_of scene))) c.loop-index.invariant c.in_err-compare_names_of.ensures)

pub loop-index-preserved : goal.loop-index-preserved
loop-index-preserved c =
    let scene = c.args.scene.now in
    let xs = scene.cells.now in
    goes_on (left c.loop-index.cursor) (left c.compare_names_of.new.cursor) _ _ _ _ (flattened xs xs refl c.loop-index.index c.index-cells-index.result c.loop-index-test.true c.index-cells-index.is (seen_in scene) (names_shown (world_of scene))) c.loop-index.invariant c.in_ok-compare_names_of.ensures

pub returns : goal.returns
returns c =
    let scene = c.args.scene.now in
    let xs = scene.cells.now in
    let past = c.loop-index-test.false in
    all_gone (left c.loop-index.cursor) _ _ (ap (λ (ys : List DescribedCell). flat_map (names_shown (world_of scene)) (map (seen_in scene) ys)) (drop_all c.loop-index.index xs past)) c.loop-index.invariant
