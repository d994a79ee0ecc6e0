-- A cell that stands aside with a task in it: what it calls is replaced under it, and the task's next call goes to the new cell.
use Rattle.std.specs.Prelude.{false, List, [], ◌∷◌, Ok, Result, codes}
use Rattle.cell_world.specs.declared.command.Command.{Command}
use Rattle.cell_world.specs.declared.command.Command.TheVariants.{Load, Spawn, Step, Purge}
use Rattle.cell_world.specs.declared.refusal.Refusal.{Refusal}
use Rattle.cell_world.specs.declared.reply.Reply.{Reply}
use Rattle.cell_world.specs.declared.reply.Reply.TheVariants.{Load as LoadDone, Spawn as SpawnDone, Step as StepDone, Swap as SwapDone, Purge as PurgeDone}
use Rattle.cell_world.specs.declared.reply.TaskState.TheVariants.{Done}
use Rattle.cell_world.specs.Answer.{ids}
use Rattle.cell_world.specs.Gather.{Source}
use Rattle.cell_rows.specs.Pieces.{text, code, defined, source}
use Rattle.cell_rows.specs.Swaps.{item, swap}
use Rattle.cell_rows.specs.Sequences.{caller, giver, ran}

abbrev pub files : List Source
files =
    caller (codes "k#m.o") (codes "m::go") (codes "o::f") ∷ giver (codes "k#o.o") (codes "o::f") 1
    ∷ source (codes "n#m-2.o") (text 1 (code (0x00900513 ∷ 0x00008067 ∷ [])) ∷ []) (defined (codes "m::go") 1 0 ∷ []) []
    ∷ giver (codes "n#o-2.o") (codes "o::f") 2 ∷ []

abbrev pub script : List Command
script =
    Load (codes "k") (codes "m") ∷ Spawn (codes "k") (codes "m::go") 0 ∷ Step 1 1
    ∷ swap (item (codes "k") (codes "m") (codes "n#m-2.o") ∷ []) false
    ∷ swap (item (codes "k") (codes "o") (codes "n#o-2.o") ∷ []) false ∷ Step 1 100 ∷ Purge ∷ []

abbrev pub answered : List (Result Reply Refusal)
answered =
    Ok (LoadDone (ids (1 ∷ 2 ∷ [])) 1) ∷ Ok (SpawnDone 1 0x10000000) ∷ Ok (StepDone (ran 1))
    ∷ Ok (SwapDone 1 (ids (3 ∷ [])) 0 (ids []) (ids (1 ∷ [])))
    ∷ Ok (SwapDone 2 (ids (4 ∷ [])) 1 (ids (2 ∷ [])) (ids (1 ∷ [])))
    ∷ Ok (StepDone (record { task = 1; turns = 7; state = Done 2; out = [] })) ∷ Ok (PurgeDone (ids (1 ∷ []))) ∷ []
