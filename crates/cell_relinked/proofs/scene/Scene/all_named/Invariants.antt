use Rattle.std.proofs.Common.{◌≡◌, map, take}
use Rattle.std.specs.Prelude.{position, unwrap_or}
use Rattle.cell_audit.specs.Linking.{lacks_provider}
use Rattle.cell_described.specs.Faults.{object_at}
use Rattle.cell_world.specs.Linked.Target.{target_of}
use Rattle.cell_world.specs.declared.state.Target.TheVariants.{Number}
use Rattle.cell_relinked.specs.Scene.{seen_in, world_of}
use Rattle.cell_relinked.proofs.scene.Scene.all_named.Given as goal

-- what the entries so far name
abbrev pub invariant-loop-index : goal.invariant-loop-index
invariant-loop-index l = record {
  targets : l.targets.items ≡ map (λ e. unwrap_or (target_of (world_of l.self) (seen_in l.self l.cell) e) (Number 0)) (take l.index (object_at l.self.objects.now l.cell.object).entries);
  lacking : l.lacking ≡ position (lacks_provider (world_of l.self) (seen_in l.self l.cell)) (take l.index (object_at l.self.objects.now l.cell.object).entries);
  highs : l.highs.object.now ≡ object_at l.self.objects.now l.cell.object;
}
