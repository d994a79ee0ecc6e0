use Rattle.std.proofs.Common.{take}
use Rattle.std.specs.Prelude.{All}
use Rattle.cell_gather.specs.Growing.{new_of, IsGrowing, IsLed, IsProvided, IsTurnOf}
use Rattle.cell_gather.proofs.load.Load.supply_needs.Given as goal

abbrev pub invariant-loop-need : goal.invariant-loop-need
invariant-loop-need l = record {
  growing : IsGrowing l.self.spaces.now l.self.next l.gathered;
  led : IsLed l.self.depot.now l.self.spaces.now l.self.next (new_of l.fn.gathered) (new_of l.gathered);
  turn : IsTurnOf l.self.spaces.now (new_of l.gathered) l.place l.ns l.needed_by l.needs;
  provided : All (IsProvided l.self.spaces.now (new_of l.gathered) l.ns) (take l.need-index l.needs);
}
