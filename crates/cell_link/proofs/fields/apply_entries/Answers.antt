use Rattle.std.proofs.Common.{ap, not}
use Rattle.cell_world.specs.Linked.Field.{fits}
use Rattle.cell_link.specs.Linked.{bound_in}
use Rattle.std.specs.BTreeMap.{get}
use Rattle.std.proofs.lemmas.Result.{err_from_is_err_and}
use Rattle.cell_link.specs.Tables.{spot_cmp}
use Rattle.cell_link.proofs.FirstFieldLemmas.{firsts_more}
use Rattle.cell_link.proofs.TableLemmas.{held_all, held_more, misfit_here, pass_not, pass_nowhere}
use Rattle.cell_link.proofs.fields.apply_entries.Goals as goal

pub returns-in_err-add-clause-misfit : goal.returns-in_err-add-clause-misfit
returns-in_err-add-clause-misfit c =
    let p = err_from_is_err_and c.from_residual.result c.from_residual.ensures.1 in
    rw (p.1, p.2) (misfit_here c.args.linker.now.numbers.places.cell.now c.args.linker.now.numbers.targets.now c.as_slice-entries.result.now c.loop-index.index _ _ _ c.as_slice-entries.ensures c.loop-index-test.true c.requires.each c.loop-index.invariant.fit c.in_err-add.ensures.misfit)

pub loop-index-preserved : goal.loop-index-preserved
loop-index-preserved c = record {
  fit = pass_not (λ b. not (fits c.args.linker.now.numbers.places.cell.now (bound_in c.args.linker.now.numbers.places.cell.now c.args.linker.now.numbers.targets.now) b)) c.args.linker.now.numbers.places.cell.now.object.entries c.args.linker.now.numbers.targets.now c.as_slice-entries.result.now
      c.loop-index.index _ _ c.as_slice-entries.ensures c.loop-index-test.true c.requires.each c.loop-index.invariant.fit (ap not c.in_ok-add.ensures.fits);
  firsts = firsts_more c.args.linker.now.numbers.places.cell.now c.args.linker.now.numbers.targets.now c.as_slice-entries.result.now c.loop-index.index _ (get spot_cmp c.loop-index.fields.held) c.loop-index.fields.firsts.items c.add.new.self.firsts.items c.as_slice-entries.ensures
      c.loop-index-test.true c.requires.each c.loop-index.invariant.held c.loop-index.invariant.firsts c.in_ok-add.ensures.firsts;
  held = held_more c.args.linker.now.numbers.places.cell.now c.args.linker.now.numbers.targets.now c.as_slice-entries.result.now c.loop-index.index _ _ (get spot_cmp c.loop-index.fields.held) (get spot_cmp c.add.new.self.held) c.as_slice-entries.ensures c.loop-index-test.true c.requires.each c.loop-index.invariant.held c.in_ok-add.ensures.held;
}

pub returns-clause-fits : goal.returns-clause-fits
returns-clause-fits c =
    pass_nowhere (λ b. not (fits c.args.linker.now.numbers.places.cell.now (bound_in c.args.linker.now.numbers.places.cell.now c.args.linker.now.numbers.targets.now) b)) c.args.linker.now.numbers.places.cell.now.object.entries c.args.linker.now.numbers.targets.now c.as_slice-entries.result.now c.loop-index.index c.as_slice-entries.ensures c.loop-index-test.false c.loop-index.invariant.fit

pub returns-clause-held : goal.returns-clause-held
returns-clause-held c =
    held_all c.args.linker.now.numbers.places.cell.now c.args.linker.now.numbers.targets.now c.as_slice-entries.result.now c.loop-index.index (get spot_cmp c.loop-index.fields.held) c.as_slice-entries.ensures c.loop-index-test.false c.loop-index.invariant.held
