use Rattle.std.proofs.Common.{arith}
use Rattle.std.proofs.lemmas.List.Elements.{All-nil}
use Rattle.std.proofs.lemmas.Result.{err_from_is_err_and}
use Rattle.cell_gather.specs.Growing.{new_of, IsProvided}
use Rattle.cell_gather.proofs.Supplies.{need_is_next, names_stay, one_more_provided, place_supplied, turn_stays, within}
use Rattle.cell_gather.proofs.Supplying.{needs_failed}
use Rattle.cell_gather.proofs.Turns.{led_nowhere, led_on}
use Rattle.cell_gather.proofs.load.Load.supply_needs.Goals as goal

pub loop-need-init : goal.loop-need-init
loop-need-init c = record {
  growing = c.requires.growing;
  led = led_nowhere c.args.self.now.depot.now c.args.self.now.spaces.now c.args.self.now.next (new_of c.args.gathered.now);
  turn = c.requires.turn;
  provided = All-nil (IsProvided c.args.self.now.spaces.now (new_of c.args.gathered.now) c.args.ns);
}

pub supply-requires-clause-next : goal.supply-requires-clause-next
supply-requires-clause-next c =
    need_is_next c.args.self.now.spaces.now (new_of c.loop-need.gathered) c.args.place c.args.ns c.args.needed_by c.args.needs.now c.loop-need.need-index c.bytes.result.now (omega arith)
    (rw c.bytes.ensures c.need-item.is) c.loop-need.invariant.turn c.loop-need.invariant.provided

pub loop-need-preserved : goal.loop-need-preserved
loop-need-preserved c =
    let spaces = c.args.self.now.spaces.now in
    let mid = (new_of c.loop-need.gathered) in
    let new = (new_of c.supply.new.gathered) in
    let led = c.in_ok-supply.ensures.leads in
    record {
      growing = c.in_ok-supply.ensures.growing;
      led = led_on c.args.self.now.depot.now spaces c.args.self.now.next (new_of c.args.gathered.now) mid new c.loop-need.invariant.led led;
      turn = turn_stays spaces mid led.added new led.is c.args.place c.args.ns c.args.needed_by c.args.needs.now c.loop-need.invariant.turn;
      provided =
          one_more_provided spaces new c.args.place c.args.ns c.args.needed_by c.args.needs.now c.loop-need.need-index c.bytes.result.now (omega arith) (rw c.bytes.ensures c.need-item.is)
          (names_stay spaces mid led.added new led.is c.args.ns _ c.loop-need.invariant.provided) (c.in_ok-supply.ensures.provided);
    }

pub returns-in_err-supply-clause-leads : goal.returns-in_err-supply-clause-leads
returns-in_err-supply-clause-leads c =
    let i = c.loop-need.invariant in
    let p = err_from_is_err_and c.from_residual.result c.from_residual.ensures.1 in
    rw (p.1, p.2)
    (needs_failed c.args.self.now.depot.now c.args.self.now.spaces.now c.args.self.now.next (new_of c.args.gathered.now) (new_of c.supply.new.gathered) c.loop-need.gathered c.args.place i.growing
    (within (new_of c.loop-need.gathered) c.args.place i.turn.cell i.turn.at) i.led c.in_err-supply.field-0.0 c.in_err-supply.ensures.leads)

pub returns-clause-supplied : goal.returns-clause-supplied
returns-clause-supplied c =
    place_supplied c.args.self.now.spaces.now (new_of c.loop-need.gathered) c.args.place c.args.ns c.args.needed_by c.args.needs.now c.loop-need.need-index (omega arith) c.loop-need.invariant.turn c.loop-need.invariant.provided
