use Rattle.std.proofs.Common.{◌∙◌}
use Rattle.cell_hold.specs.Places.{is_at}
use Rattle.cell_hold.proofs.Nearing.{at_own}
use Rattle.cell_hold.proofs.words.word_leads.Goals as goal

pub returns : goal.returns
returns c = c.is_in_one.ensures ∙ (c.own.ensures (is_at c.args.word) ∙ at_own c.args.places.now c.args.cell.0 c.args.word)
