-- A swap needs room for the new cell while the old one is still there, and a task's stack takes some of it.
use Rattle.std.specs.Prelude.{true, false, List, [], ◌∷◌, Ok, Err, Result, codes}
use Rattle.cell_object.specs.declared.object.Section.{Section}
use Rattle.cell_object.specs.declared.object.Fill.TheVariants.{Zero}
use Rattle.cell_world.specs.declared.command.Command.{Command}
use Rattle.cell_world.specs.declared.command.Command.TheVariants.{Load, Spawn, Kill}
use Rattle.cell_world.specs.declared.refusal.Refusal.{Refusal}
use Rattle.cell_world.specs.declared.refusal.Refusal.TheVariants.{Exhausted}
use Rattle.cell_world.specs.declared.reply.Reply.{Reply}
use Rattle.cell_world.specs.declared.reply.Reply.TheVariants.{Load as LoadDone, Spawn as SpawnDone, Kill as KillDone, Swap as SwapDone}
use Rattle.cell_world.specs.Answer.{ids}
use Rattle.cell_world.specs.Gather.{Source}
use Rattle.cell_rows.specs.Pieces.{defined, source}
use Rattle.cell_rows.specs.Swaps.{item, swap}
use Rattle.cell_rows.specs.Transfers.{bare}

-- twelve pages of zeros
abbrev pub zeros : Section
zeros = record { number = 1; name = codes ".bss"; write = true; exec = false; fill = Zero; align = 8; size = 49152; bytes = [] }

abbrev pub files : List Source
files = bare (codes "k#c.o") (codes "c::f") ∷ source (codes "n#c-4.o") (zeros ∷ []) (defined (codes "c::f") 1 0 ∷ []) [] ∷ []

abbrev pub script : List Command
script =
    Load (codes "k") (codes "c") ∷ Spawn (codes "k") (codes "c::f") 0 ∷ swap (item (codes "k") (codes "c") (codes "n#c-4.o") ∷ []) false
    ∷ Kill 1 ∷ swap (item (codes "k") (codes "c") (codes "n#c-4.o") ∷ []) false ∷ []

abbrev pub answered : List (Result Reply Refusal)
answered =
    Ok (LoadDone (ids (1 ∷ [])) 0) ∷ Ok (SpawnDone 1 0x10000000) ∷ Err (Exhausted 12 11) ∷ Ok (KillDone 1)
    ∷ Ok (SwapDone 1 (ids (2 ∷ [])) 0 (ids (1 ∷ [])) (ids [])) ∷ []
