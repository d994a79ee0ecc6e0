use Rattle.std.proofs.Common.{sym, ◌∙◌}
use Rattle.cell_bearers.specs.Namings.{borne}
use Rattle.cell_bearers.proofs.Rowing.{again_more}
use Rattle.cell_bearers.proofs.index.add_bearer.Goals as goal

pub returns-then-is_again : goal.returns-then-is_again
returns-then-is_again c =
    again_more c.args.bearers.now.items c.args.last (borne c.args.owner) c.in-Some.bearer (sym c.bearer_of.ensures ∙ c.in-Some.is) (sym c.is_again.ensures ∙ c.if-is_again.true)
