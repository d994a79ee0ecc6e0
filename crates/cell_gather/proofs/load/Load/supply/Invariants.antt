use Rattle.std.proofs.Common.{◌-◌, length}
use Rattle.cell_gather.specs.Growing.{new_of, IsGrowing, IsLed, IsNext}
use Rattle.cell_gather.proofs.load.Load.supply.Given as goal

abbrev pub invariant-loop-alloc : goal.invariant-loop-alloc
invariant-loop-alloc l = record {
  growing : IsGrowing l.self.spaces.now l.self.next l.gathered;
  led : IsLed l.self.depot.now l.self.spaces.now l.self.next (new_of l.fn.gathered) (new_of l.gathered);
  next : IsNext l.self.spaces.now (new_of l.gathered) l.place l.ns l.needed_by l.name;
}

abbrev pub decreases-loop-alloc : goal.decreases-loop-alloc
decreases-loop-alloc l = 1025 - length (new_of l.gathered)
