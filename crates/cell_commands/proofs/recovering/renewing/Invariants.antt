use Rattle.std.proofs.Common.{List, map}
use Rattle.cell_world.specs.Commands.Asked.{renewal}
use Rattle.cell_world.specs.Gather.{source_of}
use Rattle.cell_world.specs.World.{Cell, World}
use Rattle.cell_commands.specs.Renewals.{AreAt}
use Rattle.cell_commands.proofs.ItemLemmas.{IsAskedTo}
use Rattle.cell_commands.proofs.recovering.renewing.Given as goal

-- the cells so far
abbrev pub invariant-loop-place : goal.invariant-loop-place
invariant-loop-place l =
    (w : World) (all : List Cell) → AreAt w all (map (λ c. c.now) l.cells) → IsAskedTo (map source_of l.depot) w l.initial.change.options (renewal (map source_of l.depot)) all l.place l.change
