use Rattle.std.proofs.Common.{◌≡◌, drop, map}
use Rattle.cell_world.specs.World.{World}
use Rattle.cell_plan.specs.Coverage.{IsAhead}
use Rattle.cell_plan.specs.Known.{IsKnown}
use Rattle.cell_plan.proofs.Lacking.{lost_of}
use Rattle.cell_plan.proofs.coverage.check_coverage.Given as goal

-- those that are left decide
abbrev pub invariant-loop-place : goal.invariant-loop-place
invariant-loop-place l = record {
  known : IsKnown l.ahead l.known;
  left : (w : World)
      → IsAhead w l.ahead
      → lost_of w l.spaces (map (λ c. c.0) l.old.cells.now) (map (λ c. c.now) l.users)
      ≡ lost_of w l.spaces (map (λ c. c.0) l.old.cells.now) (drop l.place (map (λ c. c.now) l.users));
}
