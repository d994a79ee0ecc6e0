use Rattle.std.proofs.lemmas.Result.{err_from_is_err_and}
use Rattle.cell_compared.specs.Left.{left}
use Rattle.cell_compared.proofs.Walking.{walk_fails, walks_both}
use Rattle.cell_compared.proofs.compare.compare.Goals as goal

pub returns-in_err-compare_before_end : goal.returns-in_err-compare_before_end
returns-in_err-compare_before_end c =
    let p = err_from_is_err_and c.from_residual.result c.from_residual.ensures.1 in
    rw (p.1, p.2) (walk_fails c.in_err-compare_before_end.field-0.0 (left c.args.cursor.now) _ _ c.in_err-compare_before_end.ensures)

pub returns : goal.returns
returns c =
    walks_both (left c.args.cursor.now) (left c.compare_before_end.new.cursor) (left c.expect.new.self) _ _ c.expect.result c.in_ok-compare_before_end.ensures c.expect.ensures
