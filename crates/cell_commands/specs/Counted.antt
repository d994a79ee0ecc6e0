-- What the commands count that bring cells in the place of others.
--     swap_plan ..       the plan of the change that a swap asks for
--     swap_counts ..     what it counts, be it accepted or refused
--     renewal_counts ..  what a recovery counts
use Rattle.std.specs.Prelude.{ℕ, Bool, List, [], None, Some}
use Rattle.cell_world.specs.declared.command.SwapItem.{SwapItem}
use Rattle.cell_world.specs.Commands.Asked.{renewing, wants_of}
use Rattle.cell_world.specs.Change.{Plan as PlanSaid, plan_of}
use Rattle.cell_world.specs.Gather.{Source}
use Rattle.cell_world.specs.Outcome.{Outcome, ◌>>=◌}
use Rattle.cell_world.specs.World.{Cell, Task, World}
use Rattle.cell_machine.specs.Does.{Counts}
use Rattle.cell_change.specs.Counted.{most_by}
use Rattle.cell_change.specs.Transferring.{stacks_for}
use Rattle.cell_commands.specs.Renewals.{wanted_anew}

abbrev pub swap_plan : List Source → World → List SwapItem → Bool → Bool → List (List ℕ) → ℕ → Outcome PlanSaid
swap_plan sources w items reexport strict routines budget =
    wants_of sources w items
    >>= (λ wants. plan_of sources w (record { wants = wants; reexport = reexport; strict = strict; routines = routines; budget = budget; restarts = None; copies = [] }))

abbrev pub swap_counts : List Source → World → List SwapItem → Bool → Bool → List (List ℕ) → ℕ → Counts
swap_counts sources w items reexport strict routines budget =
    record {
      stacks = stacks_for routines;
      undone = Some (most_by (swap_plan sources w items reexport strict routines budget) (stacks_for routines));
    }

-- no routine has a stack
abbrev pub renewal_counts : List Source → World → ℕ → (World → Task → List Cell) → Counts
renewal_counts sources w number set =
    record {
      stacks = 0;
      undone = Some (most_by (wanted_anew sources w number set >>= (λ wants. plan_of sources w (renewing wants number))) 0);
    }
