use Rattle.std.proofs.Common.{arith}
use Rattle.cell_mem.proofs.Soundness.{found_page}
use Rattle.cell_mem.proofs.memory.Memory.come_near.Goals as goal

pub invariant_of-self : goal.invariant_of-self
invariant_of-self c =
    let s = c.self.invariant in
    let f = found_page c.self.inside c.args.self.now c.args.addr c.in-Some.first s c.self.view_is (c.in-Some.ensures {u = tt}) in
    record {
      space = s.space;
      regions = s.regions;
      in_place = s.in_place;
      laid = s.laid;
      bytes = s.bytes;
      firsts = s.firsts;
      index = s.index;
      sealed = s.sealed;
      near = omega (arith, f.is_at.inside, s.regions);
      few = s.few;
    }
