use Rattle.std.proofs.lemmas.Result.{err_from_is_err_and}
use Rattle.cell_compared.specs.Left.{left}
use Rattle.cell_compared.proofs.Walking.{walk_fails, walks_both}
use Rattle.cell_compared.proofs.space_lines.compare_spaces.Goals as goal

pub returns-in_err-expect : goal.returns-in_err-expect
returns-in_err-expect c =
    let p = err_from_is_err_and c.from_residual.result c.from_residual.ensures.1 in
    rw (p.1, p.2) (walk_fails c.in_err-expect.field-0.0 (left c.args.cursor.now) _ _ c.in_err-expect.ensures)

pub returns : goal.returns
returns c =
    walks_both (left c.args.cursor.now) (left c.expect.new.self) (left c.compare_namespaces.new.cursor) _ _ c.compare_namespaces.result c.in_ok-expect.ensures c.compare_namespaces.ensures
