use Rattle.std.proofs.Common.{map}
use Rattle.cell_target.specs.Named.{IsNamed, world_of}
use Rattle.cell_plan.specs.Viewed.{view_of}
use Rattle.cell_plan.proofs.Exchanging.{IsChangeTo}
use Rattle.cell_plan.proofs.exchange.Exchange.changed.Given as goal

-- the users so far
abbrev pub invariant-loop-place : goal.invariant-loop-place
invariant-loop-place l = record {
  named : IsNamed (world_of l.self.scene.now) l.named;
  to : IsChangeTo (view_of l.self) (map (λ c. c.now) l.users) l.place l.changed;
}
