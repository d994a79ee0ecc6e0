use Rattle.std.proofs.Common.{◌∙◌}
use Rattle.cell_file.proofs.NameLemmas.{has_is}
use Rattle.cell_file.proofs.names.Names.has.Goals as goal

pub returns : goal.returns
returns c = c.contains.ensures ∙ has_is c.args.name.now (λ k. k.now) c.args.self.now.set.keys
