use Rattle.std.proofs.Common.{◌-◌}
use Rattle.cell_gather.specs.Growing.{new_of, IsGrowing, IsLed, AreSupplied}
use Rattle.cell_gather.proofs.load.Load.bring.Given as goal

-- the cells before the place lack nothing
abbrev pub invariant-loop-place : goal.invariant-loop-place
invariant-loop-place l = record {
  growing : IsGrowing l.self.spaces.now l.self.next l.gathered;
  led : IsLed l.self.depot.now l.self.spaces.now l.self.next (new_of l.fn.gathered) (new_of l.gathered);
  supplied : AreSupplied l.self.spaces.now (new_of l.gathered) l.place;
}

abbrev pub decreases-loop-place : goal.decreases-loop-place
decreases-loop-place l = 1024 - l.place
