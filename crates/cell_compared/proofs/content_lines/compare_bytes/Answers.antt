use Rattle.std.proofs.Common.{ℕ, ◌+◌, ◌/◌, length}
use Rattle.std.proofs.lemmas.Result.{err_from_is_err_and}
use Rattle.cell_compared.specs.Left.{left}
use Rattle.cell_compared.proofs.Walking.{all_gone, fails_here, goes_on}
use Rattle.cell_compared.proofs.Lining.{line_there, no_lines}
use Rattle.cell_compared.proofs.content_lines.compare_bytes.Goals as goal

pub returns-in_err-expect_bytes : goal.returns-in_err-expect_bytes
returns-in_err-expect_bytes c =
    let p = err_from_is_err_and c.from_residual.result c.from_residual.ensures.1 in
    let n : ℕ = (length c.args.bytes.now + 63) / 64 in
    rw (p.1, p.2)
    (fails_here c.in_err-expect_bytes.field-0.0 (left c.loop-k.cursor) _ _ _ _ (line_there c.args.at n c.args.start c.args.bytes.now c.loop-k.k c.loop-k-test.true c.bytes_from.result.now c.bytes_from.ensures) c.loop-k.invariant c.in_err-expect_bytes.ensures)

pub loop-k-preserved : goal.loop-k-preserved
loop-k-preserved c =
    let n : ℕ = (length c.args.bytes.now + 63) / 64 in
    goes_on (left c.loop-k.cursor) (left c.expect_bytes.new.cursor) _ _ _ _ (line_there c.args.at n c.args.start c.args.bytes.now c.loop-k.k c.loop-k-test.true c.bytes_from.result.now c.bytes_from.ensures) c.loop-k.invariant c.in_ok-expect_bytes.ensures

pub returns : goal.returns
returns c =
    let n : ℕ = (length c.args.bytes.now + 63) / 64 in
    let past = c.loop-k-test.false in
    all_gone (left c.loop-k.cursor) _ _ (no_lines c.args.at n c.args.start c.args.bytes.now c.loop-k.k past) c.loop-k.invariant
