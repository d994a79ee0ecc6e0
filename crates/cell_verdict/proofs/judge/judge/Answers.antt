use Rattle.std.proofs.Common.{Ok}
use Rattle.std.proofs.lemmas.Result.{err_from_is_err_and}
use Rattle.cell_io.proofs.Binds.{stops_first, goes_on}
use Rattle.cell_input.specs.declared.folder.Folder.{Folder}
use Rattle.cell_verdict.specs.Verdict.{verdict_in, verdict_of}
use Rattle.cell_verdict.proofs.Given.{gives}
use Rattle.cell_verdict.proofs.judge.judge.Goals as goal

pub returns-in_err-folder-clause-verdict : goal.returns-in_err-folder-clause-verdict
unfolding verdict_in
returns-in_err-folder-clause-verdict g c =
    let p = err_from_is_err_and c.from_residual.result c.from_residual.ensures.1 in
    rw (p.1, p.2) (λ all told. stops_first c.in_err-folder.field-0.0 _ (λ (f : Folder). Ok (verdict_of f)) (c.in_err-folder.ensures.folder all told))

pub returns-clause-verdict : goal.returns-clause-verdict
unfolding verdict_in
returns-clause-verdict g c = λ all told.
    gives c.verdict.result (verdict_of c.in_ok-folder.folder) _ (goes_on _ _ (λ (f : Folder). Ok (verdict_of f)) (c.in_ok-folder.ensures.folder all told))
    c.verdict.ensures.verdict c.verdict.ensures.stop
