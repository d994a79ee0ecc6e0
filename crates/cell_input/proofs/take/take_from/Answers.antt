use Rattle.std.proofs.Common.{sym, ap, ◌∙◌, Ok}
use Rattle.std.proofs.lemmas.Result.{err_from_is_err_and}
use Rattle.cell_io.proofs.Binds.{stops_first, stops_next, goes_on}
use Rattle.cell_input.specs.Taking.{commands_of, input_from, input_of}
use Rattle.cell_input.proofs.take.take_from.Goals as goal

pub returns-in_err-folder-clause-input : goal.returns-in_err-folder-clause-input
unfolding input_from
returns-in_err-folder-clause-input g c =
    let p = err_from_is_err_and c.from_residual.result c.from_residual.ensures.1 in
    rw (p.1, p.2) (λ all told. stops_first c.in_err-folder.field-0.0 _ input_of (c.in_err-folder.ensures.folder all told))

pub returns-in_err-script-clause-input : goal.returns-in_err-script-clause-input
unfolding input_from
returns-in_err-script-clause-input g c =
    let p = err_from_is_err_and c.from_residual-in_err-script.result c.from_residual-in_err-script.ensures.1 in
    let files = c.in_ok-folder.folder.files in
    rw (p.1, p.2) (λ all told.
    stops_next c.in_err-script.field-0.0 _ _ input_of (c.in_ok-folder.ensures.folder all told)
    (stops_first c.in_err-script.field-0.0 _ (λ lines. Ok (record { files = files; script = lines })) (rw c.as_slice.ensures at c.in_err-script.ensures.lines)))

pub returns-clause-input : goal.returns-clause-input
unfolding input_from
returns-clause-input g c = λ all told.
    let files = c.in_ok-folder.folder.files in
    goes_on _ _ input_of (c.in_ok-folder.ensures.folder all told)
    ∙ goes_on _ _ (λ lines. Ok (record { files = files; script = lines })) (ap commands_of (sym c.as_slice.ensures) ∙ c.in_ok-script.ensures.lines)
