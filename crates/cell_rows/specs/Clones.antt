-- A sibling of a namespace, with a crate of its own: a swap in the one leaves the other. `k` has no sibling.
use Rattle.std.specs.Prelude.{ℕ, false, List, [], ◌∷◌, ◌+◌, ◌*◌, Ok, Err, Result, codes}
use Rattle.cell_world.specs.declared.command.Command.{Command}
use Rattle.cell_world.specs.declared.command.Command.TheVariants.{Ns, Load, Spawn, Step, Clone}
use Rattle.cell_world.specs.declared.refusal.Refusal.{Refusal}
use Rattle.cell_world.specs.declared.refusal.Refusal.TheVariants.{NameTaken, NoParent}
use Rattle.cell_world.specs.declared.reply.Reply.{Reply}
use Rattle.cell_world.specs.declared.reply.Reply.TheVariants.{Ns as NsDone, Load as LoadDone, Spawn as SpawnDone, Step as StepDone, Swap as SwapDone, Clone as CloneDone}
use Rattle.cell_world.specs.declared.reply.TaskState.TheVariants.{Done}
use Rattle.cell_world.specs.Answer.{ids}
use Rattle.cell_world.specs.Gather.{Source}
use Rattle.cell_rows.specs.Pieces.{text, code, defined, source}
use Rattle.cell_rows.specs.Recovers.{ran}
use Rattle.cell_rows.specs.Swaps.{item, swap}

-- li a0, the number / li a7, 0 / ecall
abbrev pub ender : List ℕ → ℕ → Source
ender file n = source file (text 1 (code ((1048576 * n + 0x513) ∷ 0x893 ∷ 0x73 ∷ [])) ∷ []) (defined (codes "a::go") 1 0 ∷ []) []

abbrev pub files : List Source
files = ender (codes "u#a.o") 1 ∷ ender (codes "n#a-2.o") 2 ∷ []

abbrev pub script : List Command
script =
    Ns (codes "u") (codes "k") ∷ Load (codes "u") (codes "a") ∷ Clone (codes "u") (codes "v") ∷ swap (item (codes "u") (codes "a") (codes "n#a-2.o") ∷ []) false
    ∷ Spawn (codes "v") (codes "a::go") 0 ∷ Step 1 9 ∷ Spawn (codes "u") (codes "a::go") 0 ∷ Step 2 9 ∷ []

abbrev pub answered : List (Result Reply Refusal)
answered =
    Ok (NsDone (codes "u")) ∷ Ok (LoadDone (ids (1 ∷ [])) 0) ∷ Ok (CloneDone (codes "v") (ids (2 ∷ [])) 0) ∷ Ok (SwapDone 1 (ids (3 ∷ [])) 0 (ids (1 ∷ [])) (ids []))
    ∷ Ok (SpawnDone 1 0x10001000) ∷ Ok (StepDone (ran 1 3 (Done 1))) ∷ Ok (SpawnDone 2 0x10002000) ∷ Ok (StepDone (ran 2 3 (Done 2))) ∷ []

abbrev pub refused : List Command
refused = Clone (codes "k") (codes "z") ∷ Ns (codes "u") (codes "k") ∷ Clone (codes "u") (codes "u") ∷ Clone (codes "u") (codes "w") ∷ []

abbrev pub refused_so : List (Result Reply Refusal)
refused_so = Err (NoParent (codes "k")) ∷ Ok (NsDone (codes "u")) ∷ Err (NameTaken (codes "u")) ∷ Ok (CloneDone (codes "w") (ids []) 0) ∷ []
