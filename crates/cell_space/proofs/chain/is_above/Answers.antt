use Rattle.std.proofs.Common.{rules, tests}
use Rattle.std.specs.Prelude.{◌==◌}
use Rattle.std.proofs.lemmas.Iterator.Search.{any_from_yields_List}
use Rattle.std.proofs.lemmas.Iterator.Consumers.{YieldsList-from_first}
use Rattle.cell_world.specs.Names.{chain}
use Rattle.cell_space.proofs.chain.is_above.Goals as goal

pub returns : goal.returns
returns c =
    any_from_yields_List (λ n. n == c.args.other) _ _ _ c.any.ensures.ran
    (YieldsList-from_first (λ x. x) (λ s. s) (chain c.args.namespaces.now c.args.ns) c.chain_of.ensures)
    (λ x b q k. search (rules, tests))
