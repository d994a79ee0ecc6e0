use Rattle.std.proofs.Common.{Err, ap, sym, List, ◌∙◌}
use Rattle.std.proofs.lemmas.Result.{err_from_is_err_and}
use Rattle.cell_object.specs.declared.object.Object.{Object}
use Rattle.cell_relinked.specs.Linking.{world_in}
use Rattle.cell_compared.specs.Left.{left}
use Rattle.cell_compared.specs.Shown.{linked_shown}
use Rattle.cell_compared.specs.Walk.{walk}
use Rattle.cell_compared.proofs.Walking.{fails_same, walk_fails, walks_both}
use Rattle.cell_compared.proofs.compare.compare_before_end.Goals as goal

pub returns-in_err-compare_spaces : goal.returns-in_err-compare_spaces
returns-in_err-compare_spaces c =
    let p = err_from_is_err_and c.from_residual.result c.from_residual.ensures.1 in
    rw (p.1, p.2) (walk_fails c.in_err-compare_spaces.field-0.0 (left c.args.cursor.now) _ _ c.in_err-compare_spaces.ensures)

pub returns-in_err-compare_linked : goal.returns-in_err-compare_linked
returns-in_err-compare_linked c =
    let p = err_from_is_err_and c.from_residual-in_err-compare_linked.result c.from_residual-in_err-compare_linked.ensures.1 in
    let g = c.args.ground.now in
    rw (p.1, p.2)
    (walks_both (left c.args.cursor.now) (left c.compare_spaces.new.cursor) (left c.compare_linked.new.cursor) _ _ (Err c.in_err-compare_linked.field-0.0) c.in_ok-compare_spaces.ensures
    (walk_fails c.in_err-compare_linked.field-0.0 (left c.compare_spaces.new.cursor) _ _
    (fails_same c.in_err-compare_linked.field-0.0 _ _ (ap (λ (os : List Object). walk (left c.compare_spaces.new.cursor) (linked_shown (world_in g os))) c.deref.ensures.value) c.in_err-compare_linked.ensures)))

pub returns : goal.returns
returns c =
    let g = c.args.ground.now in
    walks_both (left c.args.cursor.now) (left c.compare_spaces.new.cursor) (left c.compare_contents.new.cursor) _ _ c.compare_contents.result c.in_ok-compare_spaces.ensures
    (walks_both (left c.compare_spaces.new.cursor) (left c.compare_linked.new.cursor) (left c.compare_contents.new.cursor) _ _ c.compare_contents.result
    (sym (ap (λ (os : List Object). walk (left c.compare_spaces.new.cursor) (linked_shown (world_in g os))) c.deref.ensures.value) ∙ c.in_ok-compare_linked.ensures) c.compare_contents.ensures.walks)
