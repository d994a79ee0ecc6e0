use Rattle.std.proofs.Common.{None}
use Rattle.cell_depot.proofs.NameChanges.{updated}
use Rattle.cell_depot.proofs.names.NameMap.remove.Goals as goal

pub returns-clause-others : goal.returns-clause-others
returns-clause-others g c = λ q. updated (λ k. k.items) c.args.name.now c.args.self.now.entries c.remove.new.self None c.remove.ensures.updates q
