use Rattle.std.proofs.Common.{◌≡◌, ◌<◌, length}
use Rattle.std.specs.Prelude.{All}
use Rattle.cell_world.specs.Names.{chain}
use Rattle.cell_space.specs.Ahead.{is_there_in}
use Rattle.cell_space.proofs.ahead.Ahead.climb_for.Given as goal

-- those that are left decide, and they are there
abbrev pub invariant-loop-space : goal.invariant-loop-space
invariant-loop-space l = record {
  left : is_there_in l.space-iterator l.stem l.self.cells ≡ is_there_in (chain l.self.namespaces l.ns) l.stem l.self.cells;
  inside : All (λ n. n < length l.self.namespaces) l.space-iterator;
}
