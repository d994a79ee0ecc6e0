use Rattle.std.proofs.Common.{◌≡◌, ◌+◌, drop, length}
use Rattle.cell_gather.specs.Growing.{IsGrowing, new_of}
use Rattle.cell_gather.specs.Renaming.{renamed_now}
use Rattle.cell_gather.proofs.load.Load.reexport.Given as goal

-- the wants that are left lead to what all lead to
abbrev pub invariant-loop-place : goal.invariant-loop-place
invariant-loop-place l = record {
  growing : IsGrowing l.self.spaces.now l.self.next l.gathered;
  many : length (new_of l.gathered) ≡ length (new_of l.fn.gathered);
  left : renamed_now l.self.spaces.now (l.self.next + l.place) (new_of l.gathered) (drop l.place l.wants) ≡ renamed_now l.self.spaces.now l.self.next (new_of l.fn.gathered) l.wants;
}
