use Rattle.std.proofs.Common.{◌≡◌, ◌<◌, length, map}
use Rattle.std.specs.Prelude.{All}
use Rattle.cell_world.specs.Gather.{source_of}
use Rattle.cell_world.specs.Names.{chain}
use Rattle.cell_gather.specs.Choosing.{nearest_now}
use Rattle.cell_gather.proofs.load.Load.nearest.Given as goal

-- the namespaces that are left decide, and they are there
abbrev pub invariant-loop-space : goal.invariant-loop-space
invariant-loop-space l = record {
  left : nearest_now (map source_of l.self.depot.now) l.self.spaces.now.namespaces l.space-iterator l.stem ≡ nearest_now (map source_of l.self.depot.now) l.self.spaces.now.namespaces (chain l.self.spaces.now.namespaces l.ns) l.stem;
  inside : All (λ n. n < length l.self.spaces.now.namespaces) l.space-iterator;
}
