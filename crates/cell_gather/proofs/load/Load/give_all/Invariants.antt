use Rattle.std.proofs.Common.{◌≡◌, drop}
use Rattle.cell_gather.specs.Growing.{IsGrowing, new_of}
use Rattle.cell_gather.specs.Renaming.{IsNew, take_all_now}
use Rattle.cell_gather.proofs.load.Load.give_all.Given as goal

-- the names that are left lead to what all lead to
abbrev pub invariant-loop-place : goal.invariant-loop-place
invariant-loop-place l = record {
  growing : IsGrowing l.self.spaces.now l.self.next l.gathered;
  new : IsNew (new_of l.gathered) l.cell.0 l.path.ns l.heritage;
  left : take_all_now l.self.spaces.now l.cell.0 (new_of l.gathered) (drop l.place l.names) ≡ take_all_now l.self.spaces.now l.cell.0 (new_of l.fn.gathered) l.names;
}
