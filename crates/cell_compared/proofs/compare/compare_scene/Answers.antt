use Rattle.std.proofs.Common.{Err}
use Rattle.std.proofs.lemmas.Result.{err_from_is_err_and}
use Rattle.cell_compared.specs.Left.{left}
use Rattle.cell_compared.proofs.Walking.{walk_fails, walks_both}
use Rattle.cell_compared.proofs.compare.compare_scene.Goals as goal

pub returns-in_err-compare_cells : goal.returns-in_err-compare_cells
returns-in_err-compare_cells c =
    let p = err_from_is_err_and c.from_residual.result c.from_residual.ensures.1 in
    rw (p.1, p.2) (walk_fails c.in_err-compare_cells.field-0.0 (left c.args.cursor.now) _ _ c.in_err-compare_cells.ensures)

pub returns-in_err-compare_links : goal.returns-in_err-compare_links
returns-in_err-compare_links c =
    let p = err_from_is_err_and c.from_residual-in_err-compare_links.result c.from_residual-in_err-compare_links.ensures.1 in
    rw (p.1, p.2)
    (walks_both (left c.args.cursor.now) (left c.compare_cells.new.cursor) (left c.compare_links.new.cursor) _ _ (Err c.in_err-compare_links.field-0.0) c.in_ok-compare_cells.ensures
    (walk_fails c.in_err-compare_links.field-0.0 (left c.compare_cells.new.cursor) _ _ c.in_err-compare_links.ensures))

pub returns : goal.returns
returns c =
    walks_both (left c.args.cursor.now) (left c.compare_cells.new.cursor) (left c.compare_names.new.cursor) _ _ c.compare_names.result c.in_ok-compare_cells.ensures
    (walks_both (left c.compare_cells.new.cursor) (left c.compare_links.new.cursor) (left c.compare_names.new.cursor) _ _ c.compare_names.result c.in_ok-compare_links.ensures c.compare_names.ensures)
