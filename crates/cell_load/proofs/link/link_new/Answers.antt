use Rattle.std.proofs.Common.{subst, sym, ◌++◌}
use Rattle.std.proofs.lemmas.Result.{err_from_is_err_and}
use Rattle.cell_world.specs.declared.state.NewCell.{NewCell}
use Rattle.cell_num.specs.Lists.{In}
use Rattle.cell_num.proofs.Elements.{In-right}
use Rattle.cell_layout.proofs.Runs.{in_get}
use Rattle.cell_target.specs.Scene.{seen}
use Rattle.cell_load.proofs.Linked.{linked_more, none_linked, refused}
use Rattle.cell_load.proofs.link.link_new.Goals as goal

pub loop-place-init : goal.loop-place-init
loop-place-init c =
    none_linked (seen c.args.scene.now.ahead.now.namespaces (c.args.scene.now.present.now ++ c.args.scene.now.fresh.now) c.args.scene.now.ahead.now.cells) c.args.scene.now.fresh.now _ c.new.ensures.items c.new-2.ensures.items

pub link_one-requires-clause-there : goal.link_one-requires-clause-there
link_one-requires-clause-there c =
    In-right c.args.scene.now.present.now c.args.scene.now.fresh.now c.index-cells-place.result
    (subst (λ (x : NewCell). In x c.args.scene.now.fresh.now) (sym c.index-cells-place.is) (in_get c.args.scene.now.fresh.now c.loop-place.place c.index-cells-place.result c.loop-place-test.true))

pub returns-in_err-one : goal.returns-in_err-one
returns-in_err-one c =
    let p = err_from_is_err_and c.from_residual.result c.from_residual.ensures.1 in
    rw (p.1, p.2)
    (refused (seen c.args.scene.now.ahead.now.namespaces (c.args.scene.now.present.now ++ c.args.scene.now.fresh.now) c.args.scene.now.ahead.now.cells) c.args.scene.now.fresh.now c.loop-place.place c.loop-place.linked c.loop-place.invariant
    c.loop-place-test.true c.index-cells-place.result c.index-cells-place.is c.in_err-one.field-0.0 (c.in_err-one.ensures {u = tt}))

pub loop-place-preserved : goal.loop-place-preserved
loop-place-preserved c =
    linked_more (seen c.args.scene.now.ahead.now.namespaces (c.args.scene.now.present.now ++ c.args.scene.now.fresh.now) c.args.scene.now.ahead.now.cells) c.args.scene.now.fresh.now c.loop-place.place c.loop-place.linked c.loop-place.invariant
    c.loop-place-test.true c.index-cells-place.result c.index-cells-place.is c.in_ok-one.one c.add.new.self (c.in_ok-one.ensures {u = tt}) (c.in_ok-add.ensures {u = tt}).fields (c.in_ok-add.ensures {u = tt}).rows
