use Rattle.std.proofs.Common.{inl, inr, arith}
use Rattle.std.proofs.lemmas.Bool.Decides.{nat_tests}
use Rattle.cell_script.specs.Grammar.{name, symbol, argument}
use Rattle.cell_script.proofs.Count.{not_three}
use Rattle.cell_script.proofs.command.read_spawn.Goals as goal
use Rattle.cell_script.proofs.command.read_spawn.Goals.{in_default-via-then-arguments-lt3, in_default-via-else-arguments-lt3+else-arguments-lt4}

pub returns-in_default : goal.returns-in_default
returns-in_default c = elim c.in_default.branch [
  | in_default-via-then-arguments-lt3 w ↦ not_three name symbol argument _ c.args.arguments.now (inl (grind (arith, nat_tests)))
  | in_default-via-else-arguments-lt3+else-arguments-lt4 w ↦ not_three name symbol argument _ c.args.arguments.now (inr (grind (arith, nat_tests)))
]
