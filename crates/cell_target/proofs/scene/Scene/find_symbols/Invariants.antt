use Rattle.std.proofs.Common.{◌≡◌, ◌++◌, map, take}
use Rattle.cell_world.specs.Linked.Target.{symbol_target}
use Rattle.cell_target.specs.Scene.{in_state, seen}
use Rattle.cell_target.specs.Named.{IsNamed, world_of}
use Rattle.cell_target.proofs.scene.Scene.find_symbols.Given as goal

-- the targets of the symbols so far
abbrev pub invariant-loop-index : goal.invariant-loop-index
invariant-loop-index l = record {
  named : IsNamed (world_of l.self) l.named;
  targets : l.targets.items ≡ map (λ s. symbol_target (seen l.self.ahead.now.namespaces (l.self.present.now ++ l.self.fresh.now) l.self.ahead.now.cells) (in_state l.cell l.state) s s.home) (take l.index l.cell.object.symbols);
}
