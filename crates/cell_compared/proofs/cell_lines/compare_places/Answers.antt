use Rattle.std.proofs.Common.{ap, map, List, arith, ◌∙◌, length}
use Rattle.std.proofs.lemmas.List.{drop_all}
use Rattle.std.proofs.lemmas.Result.{err_from_is_err_and}
use Rattle.cell_compared.specs.Left.{left}
use Rattle.cell_compared.proofs.Pieces.{mapped}
use Rattle.cell_compared.proofs.Walking.{all_gone, fails_here, goes_on}
use Rattle.cell_described.specs.Faults.{object_at}
use Rattle.cell_object.specs.declared.object.Object.{Object}
use Rattle.cell_object.specs.declared.object.Section.{Section}
use Rattle.cell_relinked.specs.Scene.{seen_in}
use Rattle.cell_world.specs.DumpLines.{place_line}
use Rattle.cell_compared.proofs.cell_lines.compare_places.Goals as goal

pub returns-in_err-expect_place : goal.returns-in_err-expect_place
returns-in_err-expect_place c =
    let p = err_from_is_err_and c.from_residual.result c.from_residual.ensures.1 in
    let scene = c.args.scene.now in
    let cell = c.args.cell.now in
    let read = c.as_slice-sections.result.now in
    let xs = (object_at scene.objects.now cell.object).sections in
    let same = c.as_slice-sections.ensures ∙ ap (λ (o : Object). o.sections) c.object.ensures in
    rw (p.1, p.2)
    (fails_here c.in_err-expect_place.field-0.0 (left c.loop-index.cursor) _ _ _ _ (mapped read xs same c.loop-index.index c.index-sections-index.result c.loop-index-test.true c.index-sections-index.is (place_line (seen_in scene cell))) c.loop-index.invariant c.in_err-expect_place.ensures)

pub loop-index-preserved : goal.loop-index-preserved
loop-index-preserved c =
    let scene = c.args.scene.now in
    let cell = c.args.cell.now in
    let read = c.as_slice-sections.result.now in
    let xs = (object_at scene.objects.now cell.object).sections in
    let same = c.as_slice-sections.ensures ∙ ap (λ (o : Object). o.sections) c.object.ensures in
    goes_on (left c.loop-index.cursor) (left c.expect_place.new.cursor) _ _ _ _ (mapped read xs same c.loop-index.index c.index-sections-index.result c.loop-index-test.true c.index-sections-index.is (place_line (seen_in scene cell))) c.loop-index.invariant c.in_ok-expect_place.ensures

pub returns : goal.returns
returns c =
    let scene = c.args.scene.now in
    let cell = c.args.cell.now in
    let read = c.as_slice-sections.result.now in
    let xs = (object_at scene.objects.now cell.object).sections in
    let same = c.as_slice-sections.ensures ∙ ap (λ (o : Object). o.sections) c.object.ensures in
    let past = c.loop-index-test.false in
    all_gone (left c.loop-index.cursor) _ _ (ap (λ (ys : List Section). map (place_line (seen_in scene cell)) ys) (drop_all c.loop-index.index xs (omega (arith, past, ap length same)))) c.loop-index.invariant
