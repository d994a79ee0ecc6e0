-- `dump CELL SECTION`: the bytes of a section as they are now.
use Rattle.std.specs.Prelude.{ℕ, [], unwrap_or, decimal}
use Rattle.cell_world.specs.declared.refusal.Refusal.TheVariants.{Unknown}
use Rattle.cell_world.specs.declared.reply.Reply.TheVariants.{Dump as DumpDone}
use Rattle.cell_world.specs.World.{World, key_of}
use Rattle.cell_world.specs.Linked.Target.{start_of}
use Rattle.cell_object.specs.Parts.{section_of}
use Rattle.cell_world.specs.Running.Memory.{read}
use Rattle.cell_world.specs.Outcome.{Outcome, ◌>>=◌, found}
use Rattle.cell_world.specs.Answer.{Done, done, present_cell}

abbrev pub next_dump : World → ℕ → ℕ → Outcome Done
next_dump w number section = do
  c ← present_cell w number
  s ← found (section_of c.object section) (Unknown (decimal section))
  done (DumpDone (key_of number section) (start_of c.placed section) (unwrap_or (read w (start_of c.placed section) s.size) [])) w
