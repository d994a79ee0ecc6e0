-- A task that faulted outside all code has no crate to recover, and is rebuilt by what it holds. Another task keeps the old crate.
use Rattle.std.specs.Prelude.{ℕ, List, [], ◌∷◌, Ok, Err, Result, codes}
use Rattle.cell_num.specs.declared.ids.Cause.TheVariants.{Fetch, Jump}
use Rattle.cell_world.specs.declared.command.Command.{Command}
use Rattle.cell_world.specs.declared.command.Command.TheVariants.{Load, Spawn, Step, Recover, Rebuild}
use Rattle.cell_world.specs.declared.refusal.Refusal.{Refusal}
use Rattle.cell_world.specs.declared.refusal.Refusal.TheVariants.{NotFaulted, NoCrate}
use Rattle.cell_world.specs.declared.reply.Reply.{Reply}
use Rattle.cell_world.specs.declared.reply.Reply.TheVariants.{Load as LoadDone, Spawn as SpawnDone, Step as StepDone, Rebuild as RebuildDone}
use Rattle.cell_world.specs.declared.reply.TaskState.TheVariants.{Fault}
use Rattle.cell_world.specs.Answer.{ids}
use Rattle.cell_world.specs.Gather.{Source}
use Rattle.cell_rows.specs.Pieces.{text, code, defined, source}
use Rattle.cell_rows.specs.Recovers.{ran}

-- jalr zero, 2(a0)
abbrev pub files : List Source
files = source (codes "k#e.o") (text 1 (code (0x250067 ∷ [])) ∷ []) (defined (codes "e::go") 1 0 ∷ []) [] ∷ []

abbrev pub begin : ℕ → Command
begin arg = Spawn (codes "k") (codes "e::go") arg

abbrev pub script : List Command
script =
    Load (codes "k") (codes "e") ∷ begin 0x10000000 ∷ Step 1 5 ∷ begin 0xffffe ∷ Step 2 5
    ∷ Recover 2 ∷ Rebuild 2 ∷ Recover 2 ∷ []

abbrev pub answered : List (Result Reply Refusal)
answered =
    Ok (LoadDone (ids (1 ∷ [])) 0) ∷ Ok (SpawnDone 1 0x10000000) ∷ Ok (StepDone (ran 1 1 (Fault Jump 0x10000000))) ∷ Ok (SpawnDone 2 0x10000000)
    ∷ Ok (StepDone (ran 2 2 (Fault Fetch 0x100000))) ∷ Err (NoCrate 2 0x100000) ∷ Ok (RebuildDone 2 1 (ids (2 ∷ [])) 0 (ids []) (ids (1 ∷ []))) ∷ Err (NotFaulted 2) ∷ []
