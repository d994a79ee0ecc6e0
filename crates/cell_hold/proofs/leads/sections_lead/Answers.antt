use Rattle.std.proofs.Common.{sym, ◌∙◌}
use Rattle.cell_hold.proofs.Indexing.{no_place}
use Rattle.cell_hold.proofs.Reaching.{none_leads, one_leads}
use Rattle.cell_hold.proofs.leads.sections_lead.Goals as goal

pub returns-then-section_leads : goal.returns-then-section_leads
returns-then-section_leads c =
    one_leads c.args.memory.now c.args.places.now c.own-own.result.now c.args.from.0 c.own-own.ensures c.args.cell.0 c.loop-place.place-index no_place c.loop-place-test.true (sym c.section_leads.ensures ∙ c.if-section_leads.true)

pub returns : goal.returns
returns c =
    none_leads c.args.memory.now c.args.places.now c.own-own.result.now c.args.from.0 c.own-own.ensures c.args.cell.0 c.loop-place.place-index c.loop-place-test.false c.loop-place.invariant
