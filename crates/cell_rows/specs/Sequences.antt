-- A task between the two instructions of a call: the call isn't changed under it, but a step later it is.
use Rattle.std.specs.Prelude.{ℕ, false, List, [], ◌∷◌, ◌+◌, ◌*◌, Ok, Err, Result, codes, pos}
use Rattle.cell_num.specs.declared.kinds.RelKind.TheVariants.{CallPlt}
use Rattle.cell_world.specs.declared.command.Command.{Command}
use Rattle.cell_world.specs.declared.command.Command.TheVariants.{Load, Spawn, Step}
use Rattle.cell_world.specs.declared.refusal.Refusal.{Refusal}
use Rattle.cell_world.specs.declared.refusal.Refusal.TheVariants.{Torn}
use Rattle.cell_world.specs.declared.reply.Reply.{Reply}
use Rattle.cell_world.specs.declared.reply.Reply.TheVariants.{Load as LoadDone, Spawn as SpawnDone, Step as StepDone, Swap as SwapDone}
use Rattle.cell_world.specs.declared.reply.TaskRun.{TaskRun}
use Rattle.cell_world.specs.declared.reply.TaskState.TheVariants.{Ready}
use Rattle.cell_world.specs.Answer.{ids}
use Rattle.cell_world.specs.Gather.{Source}
use Rattle.cell_rows.specs.Pieces.{text, code, defined, undefined, entry, source}
use Rattle.cell_rows.specs.Swaps.{item, swap}

-- yield, a call of a name, and the end with what it gave
abbrev pub caller : List ℕ → List ℕ → List ℕ → Source
caller file go name =
    source file (text 1 (code (0x00300893 ∷ 0x00000073 ∷ 0x00000097 ∷ 0x000080e7 ∷ 0x00000893 ∷ 0x00000073 ∷ [])) ∷ [])
    (defined go 1 0 ∷ undefined name ∷ []) (entry 1 8 CallPlt 2 (pos 0) ∷ [])

-- `li a0` with that number, and the way back
abbrev pub giver : List ℕ → List ℕ → ℕ → Source
giver file name n = source file (text 1 (code ((1048576 * n + 0x00000513) ∷ 0x00008067 ∷ [])) ∷ []) (defined name 1 0 ∷ []) []

abbrev pub files : List Source
files =
    caller (codes "k#m.o") (codes "m::go") (codes "o::f") ∷ giver (codes "k#o.o") (codes "o::f") 1
    ∷ giver (codes "n#o-2.o") (codes "o::f") 2 ∷ []

abbrev pub script : List Command
script =
    Load (codes "k") (codes "m") ∷ Spawn (codes "k") (codes "m::go") 0 ∷ Step 1 3
    ∷ swap (item (codes "k") (codes "o") (codes "n#o-2.o") ∷ []) false ∷ Step 1 1
    ∷ swap (item (codes "k") (codes "o") (codes "n#o-2.o") ∷ []) false ∷ []

abbrev pub ran : ℕ → TaskRun
ran turns = record { task = 1; turns = turns; state = Ready; out = [] }

abbrev pub answered : List (Result Reply Refusal)
answered =
    Ok (LoadDone (ids (1 ∷ 2 ∷ [])) 1) ∷ Ok (SpawnDone 1 0x10000000) ∷ Ok (StepDone (ran 3))
    ∷ Err (Torn 1 (record { 0 = 1 }) 1 8) ∷ Ok (StepDone (ran 1)) ∷ Ok (SwapDone 1 (ids (3 ∷ [])) 1 (ids []) (ids (2 ∷ []))) ∷ []
