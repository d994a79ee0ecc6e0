use Rattle.std.proofs.Common.{◌≡◌, ◌++◌, ◌-◌, length}
use Rattle.cell_world.specs.Names.{chain}
use Rattle.cell_relinked.proofs.Chaining.{onward}
use Rattle.cell_relinked.proofs.chain.chain_of.Given as goal

-- the namespaces so far, and those that are left, are all of them
abbrev pub invariant-loop : goal.invariant-loop
invariant-loop l = l.spaces.items ++ onward l.namespaces (length l.namespaces - l.counter) l.next ≡ chain l.namespaces l.fn.ns
