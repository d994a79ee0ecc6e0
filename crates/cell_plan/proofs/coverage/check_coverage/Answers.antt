use Rattle.std.proofs.Common.{arith, map, refl}
use Rattle.std.proofs.lemmas.List.{length-map}
use Rattle.std.proofs.lemmas.Result.{err_from_is_err_and}
use Rattle.cell_plan.proofs.Lacking.{all_covered, one_covered, one_lost}
use Rattle.cell_plan.proofs.Lists.{referred}
use Rattle.cell_plan.proofs.coverage.check_coverage.Goals as goal

pub loop-place-init : goal.loop-place-init
loop-place-init c = record { known = tt; left = λ w ahead. refl }

pub returns-in_err-check_user : goal.returns-in_err-check_user
returns-in_err-check_user c =
    let p = err_from_is_err_and c.from_residual.result c.from_residual.ensures.1 in
    let at = referred c.args.users.now c.loop-place.place c.index-users-place.result c.loop-place-test.true c.index-users-place.is in
    rw (p.1, p.2)
    (λ w ahead.
    one_lost w c.args.spaces.now _ (map (λ r. r.now) c.args.users.now) c.loop-place.place at.0 c.index-users-place.result.now at.1 (c.loop-place.invariant.left w ahead) c.in_err-check_user.field-0.0
    ((c.in_err-check_user.ensures {u = tt}).covers w ahead))

pub loop-place-preserved : goal.loop-place-preserved
loop-place-preserved c =
    let at = referred c.args.users.now c.loop-place.place c.index-users-place.result c.loop-place-test.true c.index-users-place.is in
    record {
      known = c.check_user.ensures.known;
      left = λ w ahead.
          one_covered w c.args.spaces.now _ (map (λ r. r.now) c.args.users.now) c.loop-place.place at.0 c.index-users-place.result.now at.1 (c.loop-place.invariant.left w ahead) ((c.in_ok-check_user.ensures {u = tt}).covers w ahead);
    }

pub returns : goal.returns
returns c = λ w ahead.
    all_covered w c.args.spaces.now _ (map (λ r. r.now) c.args.users.now) c.loop-place.place (omega (arith, c.loop-place-test.false, length-map c.args.users.now (λ r. r.now))) (c.loop-place.invariant.left w ahead)
