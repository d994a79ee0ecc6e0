use Rattle.std.proofs.lemmas.Result.{err_from_is_err_and}
use Rattle.cell_change.proofs.Arrival.ChangeEnded.{can_commit, can_run, is_entered, not_entered}
use Rattle.cell_change.proofs.entering.enter.Goals as goal

pub commit-requires : goal.commit-requires
commit-requires c = (can_commit c.requires.can _ c.deref.ensures.value).0

pub run_routines-requires : goal.run_routines-requires
run_routines-requires c =
    can_run c.requires.can _ _ c.deref.ensures.value c.commit.ensures.room c.commit.ensures.committed c.laid_out.ensures c.keeps_shapes.ensures

pub returns-in_err-run_routines : goal.returns-in_err-run_routines
returns-in_err-run_routines c e =
    let p = err_from_is_err_and c.from_residual.result c.from_residual.ensures.1 in
    rw (p.1, p.2) (not_entered e.can _ _ c.deref.ensures.value c.commit.ensures.room c.commit.ensures.committed c.laid_out.ensures c.keeps_shapes.ensures _ _ c.in_err-run_routines.ensures)

pub returns : goal.returns
returns c e =
    is_entered e.can _ _ c.deref.ensures.value c.commit.ensures.room c.commit.ensures.committed c.laid_out.ensures c.keeps_shapes.ensures _ c.in_ok-run_routines.ensures
