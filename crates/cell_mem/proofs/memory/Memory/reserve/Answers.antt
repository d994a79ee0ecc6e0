use Rattle.std.proofs.Common.{arith}
use Rattle.cell_mem.proofs.Held.{held_few}
use Rattle.cell_mem.proofs.memory.Memory.reserve.Goals as goal

pub invariant_of-self : goal.invariant_of-self
invariant_of-self c =
    let s = c.self.invariant in
    record {
      space = s.space;
      regions = s.regions;
      in_place = s.in_place;
      laid = s.laid;
      bytes = s.bytes;
      firsts = s.firsts;
      index = s.index;
      sealed = s.sealed;
      near = s.near;
      few = omega (arith, s.few, s.regions, held_few c.self.inside.regions.items, c.max-self-inside.ensures, c.ranges.regions.fits);
    }
