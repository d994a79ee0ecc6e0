use Rattle.std.proofs.Common.{◌∙◌, sym, ap}
use Rattle.std.specs.Prelude.{◌&&◌}
use Rattle.cell_world.specs.Kept.{words_inside}
use Rattle.cell_hold.specs.Reached.{touches}
use Rattle.cell_hold.proofs.Reaching.{written_leads}
use Rattle.cell_hold.proofs.leads.section_leads.Goals as goal

pub returns-then-not-place : goal.returns-then-not-place
returns-then-not-place c = sym (ap (λ b. b && touches c.args.places.now (words_inside c.args.memory.now.regions c.args.place.now) c.args.cell.0) c.if-not-place.true)

pub returns : goal.returns
returns c =
    c.words_lead.ensures ∙ written_leads c.args.memory.now c.args.places.now c.args.place.now _ c.args.cell.0 c.if-not-place.false c.section_bytes-bytes.ensures
