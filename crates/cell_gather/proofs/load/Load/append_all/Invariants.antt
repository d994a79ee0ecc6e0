use Rattle.std.proofs.Common.{◌≡◌, ◌+◌, drop, length, map}
use Rattle.cell_world.specs.Gather.{source_of}
use Rattle.cell_gather.specs.Gathering.{append_wanted}
use Rattle.cell_gather.specs.Growing.{new_of, HavePlain, IsGrowing}
use Rattle.cell_gather.proofs.Appends.{AreLeft}
use Rattle.cell_gather.proofs.load.Load.append_all.Given as goal

-- the wants that are left lead to what all lead to
abbrev pub invariant-loop-want : goal.invariant-loop-want
invariant-loop-want l = record {
  growing : IsGrowing l.self.spaces.now l.self.next l.gathered;
  many : length (new_of l.gathered) ≡ length (new_of l.fn.gathered) + l.want-index;
  plain : HavePlain (new_of l.fn.gathered) → HavePlain (new_of l.gathered);
  left : AreLeft l.self.spaces.now l.self.next (append_wanted (map source_of l.self.depot.now)) (new_of l.fn.gathered) l.wants (new_of l.gathered) (drop l.want-index l.wants);
}
