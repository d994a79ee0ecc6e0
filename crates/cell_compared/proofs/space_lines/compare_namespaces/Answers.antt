use Rattle.std.proofs.Common.{refl, ap, map, List}
use Rattle.std.proofs.lemmas.List.{drop_all}
use Rattle.std.proofs.lemmas.Result.{err_from_is_err_and}
use Rattle.cell_num.specs.Lists.{numbered_from}
use Rattle.cell_world.specs.DumpLines.{ns_line}
use Rattle.cell_world.specs.declared.state.Namespace.{Namespace}
use Rattle.cell_compared.specs.Left.{left}
use Rattle.cell_compared.proofs.Pieces.{numbered}
use Rattle.cell_compared.proofs.Walking.{all_gone, fails_here, goes_on}
use Rattle.cell_compared.proofs.space_lines.compare_namespaces.Goals as goal

pub returns-in_err-expect_namespace : goal.returns-in_err-expect_namespace
returns-in_err-expect_namespace c =
    let p = err_from_is_err_and c.from_residual.result c.from_residual.ensures.1 in
    let spaces = c.args.spaces.now in
    rw (p.1, p.2)
    (fails_here c.in_err-expect_namespace.field-0.0 (left c.loop-number.cursor) _ _ _ _ (numbered spaces spaces refl c.loop-number.number c.index-spaces-number.result c.loop-number-test.true c.index-spaces-number.is ns_line) c.loop-number.invariant c.in_err-expect_namespace.ensures)

pub loop-number-preserved : goal.loop-number-preserved
loop-number-preserved c =
    let spaces = c.args.spaces.now in
    goes_on (left c.loop-number.cursor) (left c.expect_namespace.new.cursor) _ _ _ _ (numbered spaces spaces refl c.loop-number.number c.index-spaces-number.result c.loop-number-test.true c.index-spaces-number.is ns_line) c.loop-number.invariant c.in_ok-expect_namespace.ensures

pub returns : goal.returns
returns c =
    let past = c.loop-number-test.false in
    all_gone (left c.loop-number.cursor) _ _ (ap (λ (ys : List Namespace). map ns_line (numbered_from c.loop-number.number ys)) (drop_all c.loop-number.number c.args.spaces.now past)) c.loop-number.invariant
