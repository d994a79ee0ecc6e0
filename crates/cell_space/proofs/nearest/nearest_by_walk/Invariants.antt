use Rattle.std.proofs.Common.{◌≡◌}
use Rattle.cell_world.specs.Names.{chain}
use Rattle.cell_space.specs.Nearest.{nearest_in}
use Rattle.cell_space.proofs.nearest.nearest_by_walk.Given as goal

-- the namespaces that are left decide
abbrev pub invariant-loop-other : goal.invariant-loop-other
invariant-loop-other l = nearest_in l.other-iterator l.state l.name l.cells ≡ nearest_in (chain l.namespaces l.ns) l.state l.name l.cells
