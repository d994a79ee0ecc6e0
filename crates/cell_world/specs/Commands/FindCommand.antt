-- `find NS SYMBOL`: where the provider of a name has it.
use Rattle.std.specs.Prelude.{ℕ, List, Option, Some, None, option_and_then}
use Rattle.cell_world.specs.declared.reply.Found.{Found}
use Rattle.cell_world.specs.declared.reply.Reply.TheVariants.{Find as FindDone}
use Rattle.cell_world.specs.declared.state.Target.{Target}
use Rattle.cell_world.specs.declared.state.Target.TheVariants.{Section, Number}
use Rattle.cell_world.specs.World.{World}
use Rattle.cell_world.specs.Names.{attached_provider}
use Rattle.cell_world.specs.Linked.Target.{provided_target}
use Rattle.cell_world.specs.Outcome.{Outcome, ◌>>=◌}
use Rattle.cell_world.specs.Answer.{Done, done, space_of}

abbrev pub found_at : Target → Option Found
found_at (Section key offset addr) = Some (record { key = key; offset = offset; addr = addr })
found_at (Number value) = None

-- the place of the provider's symbol, for a namespace
abbrev pub found_in : World → ℕ → List ℕ → Option Found
found_in w ns symbol = option_and_then found_at (option_and_then (provided_target w) (attached_provider w ns symbol))

abbrev pub next_find : World → List ℕ → List ℕ → Outcome Done
next_find w name symbol = do
  ns ← space_of w name
  done (FindDone (found_in w ns symbol)) w
