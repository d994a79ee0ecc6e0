use Rattle.std.proofs.Common.{◌≡◌}
use Rattle.cell_commit.specs.Commit.{AreRoom, all_mapped}
use Rattle.cell_commit.proofs.regions.map_regions.Given as goal

-- the memory so far, with the regions that are left mapped, is as it is to be
abbrev pub invariant-loop-region : goal.invariant-loop-region
invariant-loop-region l = record {
  mapped : all_mapped l.memory l.region-iterator.rest.items ≡ all_mapped l.fn.memory l.fn.regions.items;
  room : AreRoom l.memory l.region-iterator.rest.items;
}
