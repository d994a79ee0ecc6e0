use Rattle.std.proofs.Common.{Err}
use Rattle.std.proofs.lemmas.Result.{err_from_is_err_and}
use Rattle.cell_compared.specs.Left.{left}
use Rattle.cell_compared.proofs.Walking.{walk_fails, walks_both}
use Rattle.cell_compared.proofs.cell_lines.compare_cell.Goals as goal

pub returns-in_err-expect_cell : goal.returns-in_err-expect_cell
returns-in_err-expect_cell c =
    let p = err_from_is_err_and c.from_residual.result c.from_residual.ensures.1 in
    rw (p.1, p.2) (walk_fails c.in_err-expect_cell.field-0.0 (left c.args.cursor.now) _ _ c.in_err-expect_cell.ensures)

pub returns-in_err-compare_places : goal.returns-in_err-compare_places
returns-in_err-compare_places c =
    let p = err_from_is_err_and c.from_residual-in_err-compare_places.result c.from_residual-in_err-compare_places.ensures.1 in
    rw (p.1, p.2)
    (walks_both (left c.args.cursor.now) (left c.expect_cell.new.cursor) (left c.compare_places.new.cursor) _ _ (Err c.in_err-compare_places.field-0.0) c.in_ok-expect_cell.ensures
    (walk_fails c.in_err-compare_places.field-0.0 (left c.expect_cell.new.cursor) _ _ c.in_err-compare_places.ensures))

pub returns : goal.returns
returns c =
    walks_both (left c.args.cursor.now) (left c.expect_cell.new.cursor) (left c.compare_aliases.new.cursor) _ _ c.compare_aliases.result c.in_ok-expect_cell.ensures
    (walks_both (left c.expect_cell.new.cursor) (left c.compare_places.new.cursor) (left c.compare_aliases.new.cursor) _ _ c.compare_aliases.result c.in_ok-compare_places.ensures c.compare_aliases.ensures)
