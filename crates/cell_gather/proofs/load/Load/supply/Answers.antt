use Rattle.std.proofs.Common.{◌∙◌, arith, sym}
use Rattle.std.proofs.lemmas.Result.{err_from_is_err_and}
use Rattle.cell_gather.specs.Growing.{new_of}
use Rattle.cell_gather.proofs.Supplies.{within}
use Rattle.cell_gather.proofs.Supplying.{few_with, one_longer, still_next, turn_done, turn_failed}
use Rattle.cell_gather.proofs.Turns.{led_nowhere}
use Rattle.cell_gather.proofs.load.Load.supply.Goals as goal

pub loop-alloc-init : goal.loop-alloc-init
loop-alloc-init c = record {
  growing = c.requires.growing;
  led = led_nowhere c.args.self.now.depot.now c.args.self.now.spaces.now c.args.self.now.next (new_of c.args.gathered.now);
  next = c.requires.next;
}

pub loop-alloc-preserved : goal.loop-alloc-preserved
loop-alloc-preserved c =
    let none = sym c.is_provided.ensures ∙ c.loop-alloc-test.true in
    let i = c.loop-alloc.invariant in
    record {
      growing = c.in_ok-bring_one.ensures.growing;
      led =
          turn_done c.args.self.now.depot.now c.args.self.now.spaces.now c.args.self.now.next c.args.self.now.given (new_of c.args.gathered.now) c.loop-alloc.gathered c.bring_one.new.gathered c.args.place c.args.ns c.args.needed_by c.args.name.now i.growing i.next none i.led
          tt (c.in_ok-bring_one.ensures.one) c.in_ok-bring_one.ensures.ends;
      next =
          still_next c.args.self.now.depot.now c.args.self.now.spaces.now c.args.self.now.next c.args.self.now.given (new_of c.args.gathered.now) c.loop-alloc.gathered c.bring_one.new.gathered c.args.place c.args.ns c.args.needed_by c.args.name.now i.growing i.next none i.led
          (c.in_ok-bring_one.ensures.one);
    }

pub loop-alloc-smaller : goal.loop-alloc-smaller
loop-alloc-smaller c =
    let i = c.loop-alloc.invariant in
    let longer = one_longer (new_of c.loop-alloc.gathered) (new_of c.bring_one.new.gathered) (c.in_ok-bring_one.ensures.one) in
    let few = few_with c.args.self.now.spaces.now c.args.self.now.next c.loop-alloc.gathered c.args.place i.growing (within (new_of c.loop-alloc.gathered) c.args.place i.next.turn.cell i.next.turn.at) in
    omega (arith, longer, few)

pub returns-in_err-bring_one-clause-leads : goal.returns-in_err-bring_one-clause-leads
returns-in_err-bring_one-clause-leads c =
    let none = sym c.is_provided.ensures ∙ c.loop-alloc-test.true in
    let i = c.loop-alloc.invariant in
    let p = err_from_is_err_and c.from_residual.result c.from_residual.ensures.1 in
    rw (p.1, p.2)
    (turn_failed c.args.self.now.depot.now c.args.self.now.spaces.now c.args.self.now.next c.args.self.now.given (new_of c.args.gathered.now) c.loop-alloc.gathered c.bring_one.new.gathered c.args.place c.args.ns c.args.needed_by c.args.name.now i.growing i.next none i.led
    c.in_err-bring_one.field-0.0 c.in_err-bring_one.ensures.ends)

pub returns-clause-provided : goal.returns-clause-provided
returns-clause-provided c = sym c.is_provided.ensures ∙ c.loop-alloc-test.false
