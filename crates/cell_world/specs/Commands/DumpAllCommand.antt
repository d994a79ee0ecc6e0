-- `dumpall`: the whole machine, line by line.
use Rattle.cell_world.specs.declared.reply.Reply.TheVariants.{DumpAll as DumpAllDone}
use Rattle.cell_world.specs.World.{World}
use Rattle.cell_world.specs.DumpLines.{dump_lines}
use Rattle.cell_world.specs.Outcome.{Outcome}
use Rattle.cell_world.specs.Answer.{Done, done}

abbrev pub next_dump_all : World → Outcome Done
next_dump_all w = done (DumpAllDone (dump_lines w)) w
