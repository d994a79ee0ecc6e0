-- Where no undo is begun, none is begun after an instruction.
use Rattle.std.proofs.Common.{◌≡◌, ap, ◌∙◌, Option, Some, None}
use Rattle.cell_hart.specs.declared.hart.Hart.{Hart}
use Rattle.cell_hart.specs.declared.stop.Stop.{Stop}
use Rattle.cell_hart.specs.Step.{Steps, written_by}
use Rattle.cell_mem.specs.State.{MemoryState}
use Rattle.cell_mem.specs.Undo.{noted}
use Rattle.cell_world.specs.Running.Undo.{record_of}
use Rattle.cell_world.specs.Running.Memory.{Write}
use Rattle.cell_world.specs.Running.Execute.{Effect, Goes, Calls, Traps}

written_none : (store : Option Write) (old : MemoryState) → old.undo ≡ None → (written_by store old).undo ≡ None
written_none None old none = none
written_none (Some x) old none = ap (noted (record_of old.regions x)) none

pub no_undo : (stop : Stop) (effect : Effect) (before after : Hart) (old new : MemoryState)
    → old.undo ≡ None → Steps stop effect before after old new → new.undo ≡ None
no_undo stop (Goes registers pc store) before after old new none s = ap (λ m. m.undo) s.3 ∙ written_none store old none
no_undo stop Calls before after old new none s = ap (λ m. m.undo) s.1.2 ∙ none
no_undo stop (Traps cause) before after old new none s = ap (λ m. m.undo) s.1.2 ∙ none
