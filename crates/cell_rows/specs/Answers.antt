-- What a script answers, command by command.
use Rattle.std.specs.Prelude.{List, [], ◌∷◌, Result}
use Rattle.cell_world.specs.declared.command.Command.{Command}
use Rattle.cell_world.specs.declared.refusal.Refusal.{Refusal}
use Rattle.cell_world.specs.declared.reply.Reply.{Reply}
use Rattle.cell_world.specs.Gather.{Source}
use Rattle.cell_world.specs.Next.{next}
use Rattle.cell_world.specs.World.{World}

abbrev pub answers : List Source → World → List Command → List (Result Reply Refusal)
answers sources w [] = []
answers sources w (command ∷ rest) = (next sources w command).answer ∷ answers sources (next sources w command).world rest
