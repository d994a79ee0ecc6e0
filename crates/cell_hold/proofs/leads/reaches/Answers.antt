use Rattle.std.proofs.Common.{sym, ◌∙◌}
use Rattle.cell_hold.proofs.Reaching.{reaches_by_link, reaches_by_word}
use Rattle.cell_hold.proofs.leads.reaches.Goals as goal

pub returns-then-has_link : goal.returns-then-has_link
returns-then-has_link c = reaches_by_link c.args.memory.now c.args.places.now c.args.from.0 c.args.cell.0 c.args.graph.now (sym c.has_link.ensures ∙ c.if-has_link.true)

pub returns : goal.returns
returns c = reaches_by_word c.args.memory.now c.args.places.now c.args.from.0 c.args.cell.0 c.args.graph.now _ (sym c.has_link.ensures ∙ c.if-has_link.false) c.sections_lead.ensures
