use Rattle.std.proofs.Common.{◌∙◌, sym, ap}
use Rattle.std.specs.Prelude.{option_map}
use Rattle.cell_placed.specs.Keys.{section_in}
use Rattle.cell_world.proofs.InOrder.{none_there, other_there, this_there}
use Rattle.cell_relinked.proofs.places.place_of.Goals as goal

pub returns-in_err-place : goal.returns-in_err-place
returns-in_err-place c =
    ap (option_map (λ place. place.now)) c.from_residual.ensures
    ∙ sym (none_there section_in c.args.section c.args.places.now c.requires c.places_before.result c.places_before.ensures (c.in_err-place.ensures {u = tt}).lookup.0)

pub returns-then-place-section : goal.returns-then-place-section
returns-then-place-section c =
    let at = (c.in_ok-place.ensures {u = tt}).lookup in
    sym (other_there section_in c.args.section c.args.places.now c.requires c.places_before.result c.places_before.ensures c.in_ok-place.place.now at.0 at.1 c.if-place-section.true)

pub returns : goal.returns
returns c =
    let at = (c.in_ok-place.ensures {u = tt}).lookup in
    sym (this_there section_in c.args.section c.args.places.now c.requires c.places_before.result c.places_before.ensures c.in_ok-place.place.now at.0 at.1 c.if-place-section.false)
