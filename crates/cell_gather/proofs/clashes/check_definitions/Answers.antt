use Rattle.std.specs.Prelude.{option_map}
use Rattle.std.proofs.lemmas.Result.{err_from_is_err_and}
use Rattle.cell_space.specs.Named.{number_as}
use Rattle.cell_gather.proofs.TakenNames.{is_free, is_taken}
use Rattle.cell_gather.proofs.clashes.check_definitions.Goals as goal

pub returns-in_err-refuse_taken : goal.returns-in_err-refuse_taken
returns-in_err-refuse_taken c =
    let p = err_from_is_err_and c.from_residual.result c.from_residual.ensures.1 in
    rw (p.1, p.2)
    (is_taken c.args.ahead.now.spaces c.args.path.now.ns c.args.names.now c.loop-place.place (record { name = c.at.result.0.now; symbol = c.at.result.1 }) c.at.ensures (option_map number_as c.clash_name.result) c.clash_name.ensures c.loop-place.invariant
    c.in_err-refuse_taken.field-0.0 c.in_err-refuse_taken.ensures)

pub loop-place-preserved : goal.loop-place-preserved
loop-place-preserved c =
    is_free c.args.ahead.now.spaces c.args.path.now.ns c.args.names.now c.loop-place.place (record { name = c.at.result.0.now; symbol = c.at.result.1 }) c.at.ensures (option_map number_as c.clash_name.result) c.clash_name.ensures c.loop-place.invariant
    c.in_ok-refuse_taken.ensures
