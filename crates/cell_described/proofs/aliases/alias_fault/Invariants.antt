use Rattle.std.proofs.Common.{◌≡◌, drop}
use Rattle.cell_described.specs.Faults.{alias_fault}
use Rattle.cell_described.proofs.aliases.alias_fault.Given as goal

-- those before are on definitions
abbrev pub invariant-loop-alias : goal.invariant-loop-alias
invariant-loop-alias l = alias_fault l.object (drop l.alias-index l.aliases) ≡ alias_fault l.object l.aliases
