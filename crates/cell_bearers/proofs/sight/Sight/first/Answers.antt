use Rattle.std.proofs.Common.{◌∙◌}
use Rattle.cell_bearers.proofs.Stopping.{parts_found}
use Rattle.cell_bearers.proofs.sight.Sight.first.Goals as goal

pub returns-clause-first : goal.returns-clause-first
returns-clause-first c = λ ordered.
    c.sooner.ensures
    ∙ parts_found c.args.self.now c.args.bearers.now ordered c.object_count.result c.first_among.result c.first_among-2.result c.split_at.result.0.now c.split_at.result.1.now
    c.object_count.ensures.within c.object_count.ensures.count c.split_at.ensures.front c.split_at.ensures.back c.first_among.ensures.first c.first_among-2.ensures.first
