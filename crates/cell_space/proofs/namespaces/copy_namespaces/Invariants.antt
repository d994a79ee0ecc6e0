use Rattle.std.proofs.Common.{◌≡◌, take}
use Rattle.cell_space.proofs.namespaces.copy_namespaces.Given as goal

abbrev pub invariant-loop-space : goal.invariant-loop-space
invariant-loop-space l = l.copies.items ≡ take l.space-index l.namespaces
