use Rattle.std.proofs.Common.{◌≡◌, drop, map}
use Rattle.cell_relinked.specs.Linking.{lined, unlinked_among, world_in}
use Rattle.cell_relinked.proofs.unlinked.check_linked.Given as goal

-- those before are linked
abbrev pub invariant-loop-index : goal.invariant-loop-index
invariant-loop-index l = record {
  same : l.objects.items ≡ l.fn.objects.items;
  so_far : unlinked_among (world_in l.ground l.fn.objects.items) (map (lined l.ground l.fn.objects.items) (drop l.index l.ground.cells.now)) ≡ unlinked_among (world_in l.ground l.fn.objects.items) (map (lined l.ground l.fn.objects.items) l.ground.cells.now);
}
