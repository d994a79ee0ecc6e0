use Rattle.std.proofs.Common.{◌≡◌, None, map, take}
use Rattle.std.specs.Prelude.{find}
use Rattle.cell_world.specs.Commands.Recovery.{runs_at}
use Rattle.cell_world.specs.World.{attached}
use Rattle.cell_recover.proofs.recovery.plan_recovery.Given as goal

-- no cell so far has the pc
abbrev pub invariant-loop-place : goal.invariant-loop-place
invariant-loop-place l = find (λ c. runs_at l.pc (attached c)) (map (λ c. c.now) (take l.place l.fn.cells)) ≡ None
