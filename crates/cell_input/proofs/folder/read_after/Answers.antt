use Rattle.std.proofs.Common.{◌≡◌, ◌+◌, true, false, cond, length, Ok, Err, sym, ap, ◌∙◌, arith}
use Rattle.std.specs.Prelude.{nat_lt}
use Rattle.std.proofs.lemmas.Result.{err_from_is_err_and}
use Rattle.std.proofs.lemmas.Bool.Decides.{nat_tests}
use Rattle.cell_num.specs.Limits.{max_all_bytes}
use Rattle.cell_io.proofs.Binds.{stops_first, goes_on}
use Rattle.cell_input.specs.Taking.{bytes_after, within_all}
use Rattle.cell_input.proofs.folder.read_after.Goals as goal

pub returns-in_err-bytes-clause-bytes : goal.returns-in_err-bytes-clause-bytes
unfolding bytes_after
returns-in_err-bytes-clause-bytes g c =
    let p = err_from_is_err_and c.from_residual.result c.from_residual.ensures.1 in
    rw (p.1, p.2) (λ all told. stops_first _ _ (within_all c.args.why.now c.args.total) (c.in_err-bytes.ensures.bytes all told))

pub returns-then-total-len-gt-MAX_ALL_BYTES-clause-bytes : goal.returns-then-total-len-gt-MAX_ALL_BYTES-clause-bytes
unfolding bytes_after
returns-then-total-len-gt-MAX_ALL_BYTES-clause-bytes g c = λ all told.
    let bytes = c.in_ok-bytes.bytes.items in
    let many : nat_lt max_all_bytes (c.args.total + length bytes) ≡ true = grind (arith, nat_tests, c.in_ok-bytes.bytes.ok.0) in
    goes_on _ _ (within_all c.args.why.now c.args.total) (c.in_ok-bytes.ensures.bytes all told) ∙ ap (λ b. cond b (Err c.args.why.now.all_bytes) (Ok bytes)) many

pub returns-clause-bytes : goal.returns-clause-bytes
unfolding bytes_after
returns-clause-bytes g c = λ all told.
    let bytes = c.in_ok-bytes.bytes.items in
    let few : nat_lt max_all_bytes (c.args.total + length bytes) ≡ false = grind (arith, nat_tests, c.in_ok-bytes.bytes.ok.0) in
    goes_on _ _ (within_all c.args.why.now c.args.total) (c.in_ok-bytes.ensures.bytes all told) ∙ ap (λ b. cond b (Err c.args.why.now.all_bytes) (Ok bytes)) few
    ∙ ap Ok (sym c.in_ok-shared.ensures)
