use Rattle.std.proofs.Common.{◌≡◌, ap, map, refl, subst, sym, List, None, ◌∙◌}
use Rattle.std.specs.Prelude.{flat_map}
use Rattle.std.proofs.lemmas.List.{drop_all}
use Rattle.std.proofs.lemmas.Result.{err_from_is_err_and}
use Rattle.cell_audit.specs.Linking.{unlinked_in}
use Rattle.cell_described.specs.declared.cell.DescribedCell.{DescribedCell}
use Rattle.cell_num.proofs.Elements.{get-In}
use Rattle.cell_object.specs.declared.object.Object.{Object}
use Rattle.cell_relinked.specs.Linking.{seen_by, world_in}
use Rattle.cell_relinked.proofs.Gotten.{got}
use Rattle.cell_compared.specs.Left.{left}
use Rattle.cell_compared.specs.Shown.{contents_shown, relinked_in}
use Rattle.cell_compared.specs.Walk.{walk}
use Rattle.cell_compared.proofs.Pieces.{flattened}
use Rattle.cell_compared.proofs.Walking.{all_gone, fails_here, fails_same, goes_on}
use Rattle.cell_compared.proofs.content_lines.compare_contents.Goals as goal

pub compare_contents_of-requires-clause-linked : goal.compare_contents_of-requires-clause-linked
compare_contents_of-requires-clause-linked c =
    let g = c.args.ground.now in
    let xs = g.cells.now in
    let i = c.loop-index.index in
    let x = c.index-cells-index.result in
    let objects = c.args.objects.now.items in
    let same = c.loop-index.invariant.same in
    subst (λ (os : List Object). unlinked_in (world_in g os) (seen_by g os x) ≡ None) (sym same) (c.requires.linked x (get-In xs i x (got xs i x c.loop-index-test.true c.index-cells-index.is)))

pub returns-in_err-compare_contents_of-clause-walks : goal.returns-in_err-compare_contents_of-clause-walks
returns-in_err-compare_contents_of-clause-walks c =
    let p = err_from_is_err_and c.from_residual.result c.from_residual.ensures.1 in
    let g = c.args.ground.now in
    let xs = g.cells.now in
    let i = c.loop-index.index in
    let x = c.index-cells-index.result in
    let objects = c.args.objects.now.items in
    let same = c.loop-index.invariant.same in
    rw (p.1, p.2)
    (fails_here c.in_err-compare_contents_of.field-0.0 (left c.loop-index.cursor) _ _ _ _ (flattened xs xs refl i x c.loop-index-test.true c.index-cells-index.is (seen_by g objects) (contents_shown (relinked_in g objects))) c.loop-index.invariant.walked
    (fails_same c.in_err-compare_contents_of.field-0.0 _ _ (ap (λ (os : List Object). walk (left c.loop-index.cursor) (contents_shown (relinked_in g os) (seen_by g os x))) same) c.in_err-compare_contents_of.ensures.walks))

pub loop-index-preserved : goal.loop-index-preserved
loop-index-preserved c =
    let g = c.args.ground.now in
    let xs = g.cells.now in
    let i = c.loop-index.index in
    let x = c.index-cells-index.result in
    let objects = c.args.objects.now.items in
    let same = c.loop-index.invariant.same in
    record {
      same = c.compare_contents_of.ensures.same ∙ same;
      walked =
          goes_on (left c.loop-index.cursor) (left c.compare_contents_of.new.cursor) _ _ _ _ (flattened xs xs refl i x c.loop-index-test.true c.index-cells-index.is (seen_by g objects) (contents_shown (relinked_in g objects))) c.loop-index.invariant.walked
          (sym (ap (λ (os : List Object). walk (left c.loop-index.cursor) (contents_shown (relinked_in g os) (seen_by g os x))) same) ∙ c.in_ok-compare_contents_of.ensures.walks);
    }

pub returns-clause-walks : goal.returns-clause-walks
returns-clause-walks c =
    let g = c.args.ground.now in
    let xs = g.cells.now in
    let objects = c.args.objects.now.items in
    all_gone (left c.loop-index.cursor) _ _ (ap (λ (ys : List DescribedCell). flat_map (contents_shown (relinked_in g objects)) (map (seen_by g objects) ys)) (drop_all c.loop-index.index xs c.loop-index-test.false)) c.loop-index.invariant.walked
