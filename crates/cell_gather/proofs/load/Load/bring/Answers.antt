use Rattle.std.proofs.Common.{◌≡◌, ◌++◌, [], arith}
use Rattle.std.proofs.lemmas.List.Elements.{All-append, All-same}
use Rattle.cell_world.specs.World.{Cell}
use Rattle.std.proofs.lemmas.Result.{err_from_is_err_and}
use Rattle.cell_gather.specs.Growing.{new_of}
use Rattle.cell_gather.proofs.Growths.{as_many}
use Rattle.cell_gather.proofs.Lacks.{no_lack}
use Rattle.cell_gather.proofs.Supplying.{bring_failed, none_supplied}
use Rattle.cell_gather.proofs.Turns.{done, led_nowhere, led_on}
use Rattle.cell_gather.proofs.load.Load.bring.Goals as goal

pub loop-place-init : goal.loop-place-init
loop-place-init c = record {
  growing = c.requires;
  led = led_nowhere c.args.self.now.depot.now c.args.self.now.spaces.now c.args.self.now.next (new_of c.args.gathered.now);
  supplied = none_supplied c.args.self.now.spaces.now (new_of c.args.gathered.now);
}

pub supply_cell-requires-clause-there : goal.supply_cell-requires-clause-there
supply_cell-requires-clause-there c =
    let many = as_many c.args.self.now.spaces.now c.args.self.now.next c.loop-place.gathered c.loop-place.invariant.growing in
    omega (arith, c.loop-place.gathered.cells.ok.0)

pub loop-place-smaller : goal.loop-place-smaller
loop-place-smaller c =
    let i = c.loop-place.invariant in
    let many = as_many c.args.self.now.spaces.now c.args.self.now.next c.loop-place.gathered i.growing in
    let few = i.growing.few in
    omega (arith, c.loop-place.gathered.cells.ok.0)

pub loop-place-preserved : goal.loop-place-preserved
loop-place-preserved c = record {
  growing = c.in_ok-supply_cell.ensures.growing;
  led =
      led_on c.args.self.now.depot.now c.args.self.now.spaces.now c.args.self.now.next (new_of c.args.gathered.now) (new_of c.loop-place.gathered) (new_of c.supply_cell.new.gathered) c.loop-place.invariant.led
      c.in_ok-supply_cell.ensures.leads;
  supplied = c.in_ok-supply_cell.ensures.supplied;
}

pub returns-in_err-supply_cell-clause-ends : goal.returns-in_err-supply_cell-clause-ends
returns-in_err-supply_cell-clause-ends c =
    let i = c.loop-place.invariant in
    let p = err_from_is_err_and c.from_residual.result c.from_residual.ensures.1 in
    rw (p.1, p.2)
    (bring_failed c.args.self.now.depot.now c.args.self.now.spaces.now c.args.self.now.next (new_of c.args.gathered.now) (new_of c.supply_cell.new.gathered) c.loop-place.gathered c.loop-place.place i.growing
    (let many = as_many c.args.self.now.spaces.now c.args.self.now.next c.loop-place.gathered i.growing in omega (arith, c.loop-place.gathered.cells.ok.0)) i.led c.in_err-supply_cell.field-0.0 c.in_err-supply_cell.ensures.leads)

pub returns-clause-ends : goal.returns-clause-ends
returns-clause-ends c =
    done c.args.self.now.depot.now c.args.self.now.spaces.now c.args.self.now.next (new_of c.args.gathered.now) (new_of c.loop-place.gathered) 1025 c.loop-place.invariant.led c.loop-place.invariant.growing.few (omega arith)
    (λ w is.
    no_lack c.args.self.now.spaces.now c.args.self.now.next c.args.self.now.given (new_of c.loop-place.gathered) c.loop-place.invariant.growing.above c.loop-place.invariant.growing.attached w is c.loop-place.place (let many = as_many c.args.self.now.spaces.now c.args.self.now.next
    c.loop-place.gathered c.loop-place.invariant.growing in omega (arith, c.loop-place.gathered.cells.ok.0)) c.loop-place.invariant.supplied)

pub returns-clause-plain : goal.returns-clause-plain
returns-clause-plain c = λ plain.
    let led = c.loop-place.invariant.led in
    All-same (λ (d : Cell). d.aliases ≡ []) (new_of c.loop-place.gathered) (new_of c.args.gathered.now ++ led.added) led.is (All-append (λ (d : Cell). d.aliases ≡ []) (new_of c.args.gathered.now) led.added plain led.plain)
