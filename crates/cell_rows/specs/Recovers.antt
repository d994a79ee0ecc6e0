-- A task that faulted, since what it needed had been used up, begins again in a fresh instance of its crate.
use Rattle.std.specs.Prelude.{ℕ, List, [], ◌∷◌, Ok, Err, Result, codes, decimal, pos}
use Rattle.cell_num.specs.declared.ids.Cause.TheVariants.{Break}
use Rattle.cell_num.specs.declared.kinds.RelKind.TheVariants.{PcrelHi20, PcrelLo12I, Branch}
use Rattle.cell_world.specs.declared.command.Command.{Command}
use Rattle.cell_world.specs.declared.command.Command.TheVariants.{Load, Spawn, Step, Recover}
use Rattle.cell_world.specs.declared.refusal.Refusal.{Refusal}
use Rattle.cell_world.specs.declared.refusal.Refusal.TheVariants.{Unknown}
use Rattle.cell_world.specs.declared.reply.Reply.{Reply}
use Rattle.cell_world.specs.declared.reply.Reply.TheVariants.{Load as LoadDone, Spawn as SpawnDone, Step as StepDone, Recover as RecoverDone}
use Rattle.cell_world.specs.declared.reply.TaskRun.{TaskRun}
use Rattle.cell_world.specs.declared.reply.TaskState.{TaskState}
use Rattle.cell_world.specs.declared.reply.TaskState.TheVariants.{Done, Fault}
use Rattle.cell_world.specs.Answer.{ids}
use Rattle.cell_world.specs.Gather.{Source}
use Rattle.cell_rows.specs.Pieces.{text, writable, code, defined, label, entry, source}

-- la t0, the number / ld t1, 0(t0) / beq t1, zero, to the ebreak / sd zero, 0(t0) / li a7, 0 / ecall / ebreak
abbrev pub files : List Source
files =
    source (codes "k#f.o")
    (text 1 (code (0x297 ∷ 0x28293 ∷ 0x2b303 ∷ 0x30063 ∷ 0x2b023 ∷ 0x893 ∷ 0x73 ∷ 0x100073 ∷ [])) ∷ writable 2 (1 ∷ 0 ∷ 0 ∷ 0 ∷ 0 ∷ 0 ∷ 0 ∷ 0 ∷ []) ∷ [])
    (label (codes "here") 1 0 ∷ label (codes "f::bad") 1 28 ∷ label (codes "f::v") 2 0 ∷ defined (codes "f::go") 1 0 ∷ [])
    (entry 1 0 PcrelHi20 3 (pos 0) ∷ entry 1 4 PcrelLo12I 1 (pos 0) ∷ entry 1 12 Branch 2 (pos 0) ∷ []) ∷ []

abbrev pub begin : ℕ → Command
begin arg = Spawn (codes "k") (codes "f::go") arg

abbrev pub script : List Command
script = Load (codes "k") (codes "f") ∷ begin 5 ∷ Step 1 20 ∷ begin 6 ∷ Step 2 20 ∷ Recover 2 ∷ Step 2 20 ∷ Recover 2 ∷ []

abbrev pub ran : ℕ → ℕ → TaskState → TaskRun
ran task turns state = record { task = task; turns = turns; state = state; out = [] }

abbrev pub answered : List (Result Reply Refusal)
answered =
    Ok (LoadDone (ids (1 ∷ [])) 3) ∷ Ok (SpawnDone 1 0x10000000) ∷ Ok (StepDone (ran 1 7 (Done 5))) ∷ Ok (SpawnDone 2 0x10000000)
    ∷ Ok (StepDone (ran 2 5 (Fault Break 0x1000001c))) ∷ Ok (RecoverDone 2 1 (ids (2 ∷ [])) 3 (ids (1 ∷ [])) (ids []))
    ∷ Ok (StepDone (ran 2 7 (Done 6))) ∷ Err (Unknown (decimal 2)) ∷ []
