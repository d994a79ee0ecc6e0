use Rattle.std.proofs.lemmas.Result.{err_from_is_err_and}
use Rattle.cell_world.specs.Linked.Field.{is_at, own_number}
use Rattle.cell_link.specs.Linked.{bound_in}
use Rattle.cell_link.specs.Applied.{applied, is_unfit_at}
use Rattle.cell_link.proofs.TableLemmas.{fold_all, fold_more, misfit_at, pass_not, pass_nowhere}
use Rattle.cell_link.proofs.one_field.Table.value.Goals as goal

pub returns-in_err-value : goal.returns-in_err-value
returns-in_err-value c =
    let p = err_from_is_err_and c.from_residual.result c.from_residual.ensures.1 in
    let cell = c.args.self.now.cell.now in
    let targets = c.args.self.now.targets.now in
    rw (p.1, p.2) (misfit_at cell targets c.args.first.now c.as_slice-entries.result.now c.loop-index.index _ _ c.loop-index.value _ c.as_slice-entries.ensures c.loop-index-test.true c.args.self.now.each c.loop-index.invariant.fit c.in_err-value.ensures)

pub loop-index-preserved : goal.loop-index-preserved
loop-index-preserved c =
    let cell = c.args.self.now.cell.now in
    let targets = c.args.self.now.targets.now in
    let bound = bound_in cell targets in
    record {
      fit = pass_not (is_unfit_at cell bound c.args.first.now) cell.object.entries targets c.as_slice-entries.result.now c.loop-index.index _ _ c.as_slice-entries.ensures c.loop-index-test.true c.args.self.now.each c.loop-index.invariant.fit c.in_ok-value.ensures.0;
      value = fold_more (λ b. is_at c.args.first.now b.entry) (applied cell bound) (own_number cell.object c.args.first.now) c.loop-index.value c.in_ok-value.value cell.object.entries targets c.as_slice-entries.result.now c.loop-index.index _ _ c.as_slice-entries.ensures c.loop-index-test.true c.args.self.now.each c.loop-index.invariant.value c.in_ok-value.ensures.1;
    }

pub returns : goal.returns
returns c =
    let cell = c.args.self.now.cell.now in
    let targets = c.args.self.now.targets.now in
    let bound = bound_in cell targets in (
      pass_nowhere (is_unfit_at cell bound c.args.first.now) cell.object.entries targets c.as_slice-entries.result.now c.loop-index.index c.as_slice-entries.ensures c.loop-index-test.false c.loop-index.invariant.fit,
      fold_all (λ b. is_at c.args.first.now b.entry) (applied cell bound) (own_number cell.object c.args.first.now) c.loop-index.value cell.object.entries targets c.as_slice-entries.result.now c.loop-index.index c.as_slice-entries.ensures c.loop-index-test.false c.loop-index.invariant.value,
    )
