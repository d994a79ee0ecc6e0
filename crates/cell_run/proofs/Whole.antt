-- A run that nothing cuts off but want of memory.
use Rattle.std.proofs.Common.{◌≡◌, inl, inr, ℕ, ◌+◌, ◌<◌, List, [], ◌++◌, Some, length, length-append, refl, ap, subst, arith}
use Rattle.cell_io.specs.Written.{IsFull}
use Rattle.cell_io.specs.MemorySink.{room_in}
use Rattle.cell_run.specs.declared.status.Status.{Status}
use Rattle.cell_run.specs.declared.status.Status.TheVariants.{Done, SomeRefused, Usage, NoScript, BadScript, TooLarge, ReadFault, WriteFault, OutOfMemory}
use Rattle.cell_run.specs.Run.{Run, IsWhole, WritesRun}

pub whole : (run : Run) (status : Status) (old new : List ℕ) (room : ℕ) (failing : List ℕ) → failing ≡ [] → length old + length run.text < room
    → WritesRun run status (Some old) (Some new) → (status ≡ ReadFault → ⊥) → (status ≡ WriteFault → IsFull (room_in failing room) (Some new)) → IsWhole run status old new
whole run status old new room failing none more (inl all) read full = inl (all.0, all.1)
whole run Done old new room failing none more (inr cut) read full = absurd cut.0
whole run SomeRefused old new room failing none more (inr cut) read full = absurd cut.0
whole run Usage old new room failing none more (inr cut) read full = absurd cut.0
whole run NoScript old new room failing none more (inr cut) read full = absurd cut.0
whole run (BadScript n) old new room failing none more (inr cut) read full = absurd cut.0
whole run (TooLarge what limit) old new room failing none more (inr cut) read full = absurd cut.0
whole run ReadFault old new room failing none more (inr cut) read full = absurd (read refl)
whole run WriteFault old new room failing none more (inr cut) read full =
    let used_up : length new ≡ room = subst (λ f. IsFull (room_in f room) (Some new)) none (full refl) in
    let written : length new ≡ length (old ++ cut.1.part) = ap length cut.1.appended in
    let text : length run.text ≡ length (cut.1.part ++ cut.1.rest) = ap length cut.1.is in
    absurd (omega (arith, used_up, written, text, length-append old cut.1.part, length-append cut.1.part cut.1.rest))
whole run OutOfMemory old new room failing none more (inr cut) read full = inr refl
