use Rattle.std.proofs.Common.{ap, ◌∙◌}
use Rattle.std.specs.List.{list_any}
use Rattle.std.specs.Str.{bytes_eq}
use Rattle.cell_file.proofs.NameLemmas.{insert_is}
use Rattle.cell_file.proofs.names.Names.add.Goals as goal

pub returns-clause-added : goal.returns-clause-added
returns-clause-added c = λ q.
    ap (λ keys. list_any (λ k. bytes_eq q k.now) keys) c.in_ok-insert.ensures.keys ∙ insert_is q (λ k. k.now) c.args.name _
