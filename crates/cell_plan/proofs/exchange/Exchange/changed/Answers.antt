use Rattle.std.proofs.Common.{subst, sym, map, arith, ◌++◌, Bor}
use Rattle.cell_world.specs.declared.state.NewCell.{NewCell}
use Rattle.std.proofs.lemmas.List.{length-map}
use Rattle.std.proofs.lemmas.Result.{err_from_is_err_and}
use Rattle.cell_num.specs.Lists.{In}
use Rattle.cell_plan.specs.Viewed.{view_of}
use Rattle.cell_plan.proofs.Exchanging.{all_added, one_added, one_refused}
use Rattle.cell_plan.proofs.Lists.{referred}
use Rattle.cell_plan.proofs.exchange.Exchange.changed.Goals as goal

pub add-requires-clause-there : goal.add-requires-clause-there
add-requires-clause-there c =
    subst (λ (r : Bor NewCell). In r.now (c.args.self.now.scene.now.present.now ++ c.args.self.now.scene.now.fresh.now)) (sym c.index-users-place.is) (c.requires.there c.loop-place.place c.index-users-place.result c.loop-place-test.true)

pub returns-in_err-add : goal.returns-in_err-add
returns-in_err-add c =
    let p = err_from_is_err_and c.from_residual-in_err-add.result c.from_residual-in_err-add.ensures.1 in
    let at = referred c.args.users.now c.loop-place.place c.index-users-place.result c.loop-place-test.true c.index-users-place.is in
    rw (p.1, p.2)
    (one_refused (view_of c.args.self.now) (map (λ r. r.now) c.args.users.now) c.loop-place.place c.loop-place.changed c.loop-place.invariant.to at.0 c.index-users-place.result.now at.1 c.add.new.changed c.in_err-add.field-0.0
    ((c.in_err-add.ensures {u = tt}).adds))

pub loop-place-preserved : goal.loop-place-preserved
loop-place-preserved c =
    let at = referred c.args.users.now c.loop-place.place c.index-users-place.result c.loop-place-test.true c.index-users-place.is in
    record {
      named = c.add.ensures.named;
      to = one_added (view_of c.args.self.now) (map (λ r. r.now) c.args.users.now) c.loop-place.place c.loop-place.changed c.loop-place.invariant.to at.0 c.index-users-place.result.now at.1 c.add.new.changed ((c.in_ok-add.ensures {u = tt}).adds);
    }

pub returns : goal.returns
returns c = all_added (view_of c.args.self.now) (map (λ r. r.now) c.args.users.now) c.loop-place.place c.loop-place.changed c.loop-place.invariant.to (omega (arith, c.loop-place-test.false, length-map c.args.users.now (λ r. r.now)))
