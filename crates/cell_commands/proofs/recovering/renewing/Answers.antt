use Rattle.std.proofs.Common.{[], ◌<◌, arith, ap, map, refl, length}
use Rattle.std.specs.Prelude.{IsTrue}
use Rattle.std.proofs.lemmas.List.{length-map}
use Rattle.std.proofs.lemmas.Result.{err_from_is_err_and}
use Rattle.cell_change.specs.Asking.{as_said}
use Rattle.cell_change.specs.declared.request.Options.{Options}
use Rattle.cell_num.proofs.Elements.{All-In}
use Rattle.cell_world.specs.Commands.Asked.{renewal}
use Rattle.cell_world.specs.Gather.{source_of}
use Rattle.cell_world.specs.World.{Cell, is_attached}
use Rattle.cell_commands.proofs.ItemLemmas.{all_asked, item_asked, item_failed, nothing_asked}
use Rattle.cell_commands.proofs.Renewing.{at_place, nth}
use Rattle.cell_commands.proofs.recovering.renewing.Goals as goal

pub loop-place-init : goal.loop-place-init
loop-place-init c w all at = nothing_asked (map source_of c.args.depot.now) w _ (renewal (map source_of c.args.depot.now)) all _ c.new.ensures.items c.new-2.ensures.items c.new-3.ensures.items refl

pub returns-in_err-add_renewal : goal.returns-in_err-add_renewal
returns-in_err-add_renewal c =
    let p = err_from_is_err_and c.from_residual.result c.from_residual.ensures.1 in
    rw (p.1, p.2)
    (λ w all at.
    let x = nth all c.args.cells.now at.are c.loop-place.place c.loop-place-test.true c.index-cells-place.result c.index-cells-place.is in
    item_failed (map source_of c.args.depot.now) w _ (renewal (map source_of c.args.depot.now)) all c.loop-place.place c.loop-place.change (c.loop-place.invariant w all at) x.here x.cell x.at c.in_err-add_renewal.field-0.0 c.add_renewal.new.change
    (c.in_err-add_renewal.ensures w x.cell (at_place w all at.there x.cell x.there) (record { is = x.placed; known = All-In (λ (d : Cell). d.ns < length w.namespaces) all at.known x.cell x.there; attached = All-In (λ (d : Cell). IsTrue (is_attached d.standing)) all at.attached x.cell x.there })))

pub loop-place-preserved : goal.loop-place-preserved
loop-place-preserved c w all at =
    let x = nth all c.args.cells.now at.are c.loop-place.place c.loop-place-test.true c.index-cells-place.result c.index-cells-place.is in
    item_asked (map source_of c.args.depot.now) w _ (renewal (map source_of c.args.depot.now)) all c.loop-place.place c.loop-place.change (c.loop-place.invariant w all at) x.here x.cell x.at c.add_renewal.new.change
    (c.in_ok-add_renewal.ensures w x.cell (at_place w all at.there x.cell x.there) (record { is = x.placed; known = All-In (λ (d : Cell). d.ns < length w.namespaces) all at.known x.cell x.there; attached = All-In (λ (d : Cell). IsTrue (is_attached d.standing)) all at.attached x.cell x.there }))

pub returns : goal.returns
returns c w all at =
    let few = length-map all (λ d. d.placed) in
    let same = ap length at.are in
    let many = length-map c.args.cells.now (λ d. d.now) in
    let x = all_asked (map source_of c.args.depot.now) w _ (renewal (map source_of c.args.depot.now)) all c.loop-place.place c.loop-place.change (c.loop-place.invariant w all at) (omega (arith, c.loop-place-test.false, few, same, many)) in
    record { asked = x.asked; all_are = x.all_are; none = x.none; enough = x.enough; said = λ wants. ap (λ (o : Options). as_said o wants []) x.options }
