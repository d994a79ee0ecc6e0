use Rattle.std.proofs.Common.{◌≡◌}
use Rattle.cell_world.specs.Names.{chain}
use Rattle.cell_world.specs.declared.state.Standing.TheVariants.{Attached}
use Rattle.cell_space.specs.Nearest.{nearest_in}
use Rattle.cell_space.proofs.ahead.Ahead.nearest_attached.Given as goal

-- the namespaces that are left decide
abbrev pub invariant-loop-space : goal.invariant-loop-space
invariant-loop-space l = nearest_in l.space-iterator Attached l.name l.self.cells ≡ nearest_in (chain l.self.namespaces l.ns) Attached l.name l.self.cells
