-- Two cells are replaced together while a task stands in one of them: the old two go on with each other, and go when the task has ended.
use Rattle.std.specs.Prelude.{false, List, [], ◌∷◌, Ok, Result, codes}
use Rattle.cell_world.specs.declared.command.Command.{Command}
use Rattle.cell_world.specs.declared.command.Command.TheVariants.{Load, Spawn, Step, Purge}
use Rattle.cell_world.specs.declared.refusal.Refusal.{Refusal}
use Rattle.cell_world.specs.declared.reply.Reply.{Reply}
use Rattle.cell_world.specs.declared.reply.Reply.TheVariants.{Load as LoadDone, Spawn as SpawnDone, Step as StepDone, Swap as SwapDone, Purge as PurgeDone}
use Rattle.cell_world.specs.declared.reply.TaskState.TheVariants.{Done}
use Rattle.cell_world.specs.Answer.{ids}
use Rattle.cell_world.specs.Gather.{Source}
use Rattle.cell_rows.specs.Pieces.{text, code, defined, source}
use Rattle.cell_rows.specs.Swaps.{item, swap}
use Rattle.cell_rows.specs.Sequences.{caller, giver, ran}

abbrev pub files : List Source
files =
    caller (codes "k#a.o") (codes "a::go") (codes "b::in") ∷ giver (codes "k#b.o") (codes "b::in") 5
    ∷ giver (codes "n#a-2.o") (codes "a::go") 0
    ∷ source (codes "n#b-2.o") (text 1 (code (0x00008067 ∷ [])) ∷ []) (defined (codes "b::other") 1 0 ∷ []) [] ∷ []

abbrev pub script : List Command
script =
    Load (codes "k") (codes "a") ∷ Spawn (codes "k") (codes "a::go") 0 ∷ Step 1 1
    ∷ swap (item (codes "k") (codes "a") (codes "n#a-2.o") ∷ item (codes "k") (codes "b") (codes "n#b-2.o") ∷ []) false
    ∷ Step 1 100 ∷ Purge ∷ []

abbrev pub answered : List (Result Reply Refusal)
answered =
    Ok (LoadDone (ids (1 ∷ 2 ∷ [])) 1) ∷ Ok (SpawnDone 1 0x10000000) ∷ Ok (StepDone (ran 1))
    ∷ Ok (SwapDone 1 (ids (3 ∷ 4 ∷ [])) 0 (ids []) (ids (1 ∷ 2 ∷ [])))
    ∷ Ok (StepDone (record { task = 1; turns = 7; state = Done 5; out = [] })) ∷ Ok (PurgeDone (ids (1 ∷ 2 ∷ []))) ∷ []
