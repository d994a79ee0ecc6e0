-- A WEAK definition yields to a GLOBAL one, where no task stands inside what changes.
use Rattle.std.specs.Prelude.{List, [], ◌∷◌, Ok, Err, Some, Result, codes, pos}
use Rattle.cell_num.specs.declared.kinds.RelKind.TheVariants.{CallPlt}
use Rattle.cell_world.specs.declared.command.Command.{Command}
use Rattle.cell_world.specs.declared.command.Command.TheVariants.{Load, Spawn, Step, Find}
use Rattle.cell_world.specs.declared.refusal.Refusal.{Refusal}
use Rattle.cell_world.specs.declared.refusal.Refusal.TheVariants.{Torn}
use Rattle.cell_world.specs.declared.reply.Reply.{Reply}
use Rattle.cell_world.specs.declared.reply.Reply.TheVariants.{Load as LoadDone, Spawn as SpawnDone, Step as StepDone, Find as FindDone}
use Rattle.cell_world.specs.World.{key_of}
use Rattle.cell_world.specs.Answer.{ids}
use Rattle.cell_world.specs.Gather.{Source}
use Rattle.cell_rows.specs.Pieces.{text, code, defined, weakly_defined, entry, source}
use Rattle.cell_rows.specs.Sequences.{ran}

-- a call of its own weak name, and its way back
abbrev pub files : List Source
files =
    source (codes "k#d.o") (text 1 (code (0x00000097 ∷ 0x000080e7 ∷ 0x00008067 ∷ 0x00008067 ∷ [])) ∷ [])
    (weakly_defined (codes "d::f") 1 12 ∷ defined (codes "d::go") 1 0 ∷ []) (entry 1 0 CallPlt 1 (pos 0) ∷ []) ∷
    source (codes "k#e.o") (text 1 (code (0x00008067 ∷ [])) ∷ []) (defined (codes "d::f") 1 0 ∷ []) [] ∷ []

abbrev pub script : List Command
script =
    Load (codes "k") (codes "d") ∷ Spawn (codes "k") (codes "d::go") 0 ∷ Step 1 1 ∷ Load (codes "k") (codes "e")
    ∷ Step 1 1 ∷ Load (codes "k") (codes "e") ∷ Find (codes "k") (codes "d::f") ∷ []

abbrev pub answered : List (Result Reply Refusal)
answered =
    Ok (LoadDone (ids (1 ∷ [])) 1) ∷ Ok (SpawnDone 1 0x10000000) ∷ Ok (StepDone (ran 1)) ∷ Err (Torn 1 (record { 0 = 1 }) 1 0)
    ∷ Ok (StepDone (ran 1)) ∷ Ok (LoadDone (ids (2 ∷ [])) 1)
    ∷ Ok (FindDone (Some (record { key = key_of 2 1; offset = 0; addr = 0x10005000 }))) ∷ []
