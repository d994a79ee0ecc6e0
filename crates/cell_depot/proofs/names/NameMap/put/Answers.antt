use Rattle.std.proofs.Common.{cond, Some, ap, ◌∙◌}
use Rattle.cell_num.specs.Lists.{equals}
use Rattle.cell_depot.specs.Values.{value_of}
use Rattle.cell_depot.proofs.NameChanges.{updated}
use Rattle.cell_depot.proofs.names.NameMap.put.Goals as goal

pub returns : goal.returns
returns g c = λ q.
    updated (λ k. k.items) c.in_ok-key.key.items c.args.self.now.entries c.insert.new.self (Some c.args.value) c.in_ok-insert.ensures.updates q
    ∙ ap (λ name. cond (equals name q) (Some c.args.value) (value_of c.args.self.now q)) c.in_ok-key.ensures.items
