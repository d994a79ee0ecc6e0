-- What is answered once a change has come so far that its new cells have their places.
--     IsOfPlaced answer      a plan, an entry that doesn't fit, or a task that stands inside what changes
--     HasAnswered ..         the answer is what linking this machine is refused for, or its plan
use Rattle.std.specs.Prelude.{◌≡◌, List, Option, None, Ok, Err, ℕ}
use Rattle.cell_world.specs.declared.refusal.Refusal.TheVariants.{Overflow, Torn}
use Rattle.cell_world.specs.Change.{Change, Plan, new_since, plan_of, restart_refusal, restarted_task}
use Rattle.cell_world.specs.Changed.{changed_fields}
use Rattle.cell_world.specs.Gather.{Source}
use Rattle.cell_world.specs.Linked.Linking.{link_refusal}
use Rattle.cell_world.specs.Outcome.{Outcome, ◌>>◌, refused_by}
use Rattle.cell_world.specs.Linked.Relink.{relink}
use Rattle.cell_world.specs.Commands.SwapTransfer.{Begin, begins_of, routines_in, stack_for}
use Rattle.cell_world.specs.World.{World}
use Rattle.cell_change_law.specs.Sound.{HasCome}

abbrev pub IsOfPlaced : Outcome Plan → Type 0
IsOfPlaced (Ok plan) = Unit {0}
IsOfPlaced (Err (Overflow cell section offset kind)) = Unit {0}
IsOfPlaced (Err (Torn task cell section offset)) = Unit {0}
IsOfPlaced (Err refusal) = ⊥

pub record HasAnswered (sources : List Source) (v : World) (c : Change) : Type 0 where
  pub placed : World
  pub come : HasCome sources v c placed
  pub begins : List Begin
  pub stack : Option ℕ
  pub begin_all : begins_of (new_since v come.gathered) c.routines ≡ Ok begins
  pub begins_again : restart_refusal v c come.gathered ≡ None
  pub stack_free : stack_for placed c.routines ≡ Ok stack
  pub answer : plan_of sources v c
      ≡ (refused_by (link_refusal v placed) >> Ok (record { fresh = new_since v placed; changed = changed_fields v placed; linked = relink placed; stack = stack; routines = routines_in placed begins; restarted = restarted_task v c placed }))
