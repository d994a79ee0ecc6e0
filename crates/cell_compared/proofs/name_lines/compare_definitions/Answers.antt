use Rattle.std.proofs.Common.{ap, arith, length, suc, List, ◌∙◌}
use Rattle.std.proofs.lemmas.Bool.{and_parts}
use Rattle.std.proofs.lemmas.List.{drop_all}
use Rattle.std.proofs.lemmas.Result.{err_from_is_err_and}
use Rattle.cell_described.specs.Faults.{object_at}
use Rattle.cell_object.specs.declared.object.Object.{Object}
use Rattle.cell_object.specs.declared.object.Symbol.{Symbol}
use Rattle.cell_object.specs.Parts.{is_defined, is_global}
use Rattle.cell_relinked.specs.Scene.{world_of}
use Rattle.cell_bearers.proofs.NamingLemmas.{definitions_from}
use Rattle.cell_relinked.proofs.Gotten.{got_there}
use Rattle.cell_relinked.proofs.Provided.{global_shared, symbol_bearers}
use Rattle.cell_compared.specs.Left.{left}
use Rattle.cell_compared.specs.Shown.{name_lines}
use Rattle.cell_compared.proofs.Pieces.{one_symbol}
use Rattle.cell_compared.proofs.Walking.{all_gone, fails_here, goes_on}
use Rattle.cell_compared.proofs.name_lines.compare_definitions.Goals as goal

pub expect_definition-requires-clause-bearers : goal.expect_definition-requires-clause-bearers
expect_definition-requires-clause-bearers c = λ definition.
    let scene = c.args.asked.now.scene.now in
    let xs = (object_at scene.objects.now c.args.cell.now.object).symbols in
    let same = c.as_slice-symbols.ensures ∙ ap (λ (o : Object). o.symbols) c.object.ensures in
    c.of_symbol-bearers.ensures
    ∙ symbol_bearers scene c.args.cell.now c.requires.fit c.loop-index.index c.index-symbols-index.result (got_there c.as_slice-symbols.result.now xs same c.loop-index.index c.index-symbols-index.result c.index-symbols-index.is c.loop-index-test.true)
    (global_shared c.index-symbols-index.result.bind (and_parts (is_global c.index-symbols-index.result.bind) (is_defined c.index-symbols-index.result.home) definition).0)

pub returns-in_err-expect_definition : goal.returns-in_err-expect_definition
returns-in_err-expect_definition c =
    let p = err_from_is_err_and c.from_residual.result c.from_residual.ensures.1 in
    let scene = c.args.asked.now.scene.now in
    let w = world_of scene in
    let ns = c.args.asked.now.ns in
    let read = c.as_slice-symbols.result.now in
    let xs = (object_at scene.objects.now c.args.cell.now.object).symbols in
    let same = c.as_slice-symbols.ensures ∙ ap (λ (o : Object). o.symbols) c.object.ensures in
    rw (p.1, p.2)
    (fails_here c.in_err-expect_definition.field-0.0 (left c.loop-index.cursor) _ _ _ _ (one_symbol w ns read xs same c.loop-index.index c.index-symbols-index.result c.loop-index-test.true c.index-symbols-index.is) c.loop-index.invariant c.in_err-expect_definition.ensures)

pub loop-index-preserved : goal.loop-index-preserved
loop-index-preserved c =
    let scene = c.args.asked.now.scene.now in
    let w = world_of scene in
    let ns = c.args.asked.now.ns in
    let read = c.as_slice-symbols.result.now in
    let xs = (object_at scene.objects.now c.args.cell.now.object).symbols in
    let same = c.as_slice-symbols.ensures ∙ ap (λ (o : Object). o.symbols) c.object.ensures in
    goes_on (left c.loop-index.cursor) (left c.expect_definition.new.cursor) _ _ _ _ (one_symbol w ns read xs same c.loop-index.index c.index-symbols-index.result c.loop-index-test.true c.index-symbols-index.is) c.loop-index.invariant c.in_ok-expect_definition.ensures

pub returns : goal.returns
returns c =
    let scene = c.args.asked.now.scene.now in
    let w = world_of scene in
    let ns = c.args.asked.now.ns in
    let read = c.as_slice-symbols.result.now in
    let xs = (object_at scene.objects.now c.args.cell.now.object).symbols in
    let same = c.as_slice-symbols.ensures ∙ ap (λ (o : Object). o.symbols) c.object.ensures in
    let past = c.loop-index-test.false in
    all_gone (left c.loop-index.cursor) _ _ (ap (λ (ys : List Symbol). name_lines w ns (definitions_from (suc c.loop-index.index) ys)) (drop_all c.loop-index.index xs (omega (arith, past, ap length same)))) c.loop-index.invariant
