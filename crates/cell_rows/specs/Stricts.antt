-- A strict swap is refused as long as a task holds the old cell; one that isn't strict puts the cell aside.
use Rattle.std.specs.Prelude.{true, false, List, [], ◌∷◌, Ok, Err, Result, codes}
use Rattle.cell_num.specs.declared.ids.Holder.TheVariants.{Task}
use Rattle.cell_world.specs.declared.command.Command.{Command}
use Rattle.cell_world.specs.declared.command.Command.TheVariants.{Load, Spawn, Step, Swap}
use Rattle.cell_world.specs.declared.refusal.Refusal.{Refusal}
use Rattle.cell_world.specs.declared.refusal.Refusal.TheVariants.{Held}
use Rattle.cell_world.specs.declared.reply.Reply.{Reply}
use Rattle.cell_world.specs.declared.reply.Reply.TheVariants.{Load as LoadDone, Spawn as SpawnDone, Step as StepDone, Swap as SwapDone}
use Rattle.cell_world.specs.Answer.{ids}
use Rattle.cell_rows.specs.Swaps.{item, swap}
use Rattle.cell_rows.specs.Sequences.{ran}

-- the files are those of `Asides`
abbrev pub script : List Command
script =
    Load (codes "k") (codes "m") ∷ Spawn (codes "k") (codes "m::go") 0 ∷ Step 1 1
    ∷ Swap (item (codes "k") (codes "m") (codes "n#m-2.o") ∷ []) false true [] 10000
    ∷ swap (item (codes "k") (codes "m") (codes "n#m-2.o") ∷ []) false ∷ []

abbrev pub answered : List (Result Reply Refusal)
answered =
    Ok (LoadDone (ids (1 ∷ 2 ∷ [])) 1) ∷ Ok (SpawnDone 1 0x10000000) ∷ Ok (StepDone (ran 1)) ∷ Err (Held (record { 0 = 1 }) (Task 1))
    ∷ Ok (SwapDone 1 (ids (3 ∷ [])) 0 (ids []) (ids (1 ∷ []))) ∷ []
