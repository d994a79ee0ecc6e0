-- What a transfer on a stack of its own leaves.
--     with_zeros m start        the memory with a stack of zeros that starts there
--     said names failure        the answer: the refusal has the name of the routine that failed
--     CanCarry m t              there is room for the stack, writes are left for all turns, and the stack's bytes are those of a new one
--     IsCarried m t result n    the routines ran on the stack, which is gone again, and an undo gives back what it gave back before
use Rattle.std.specs.Prelude.{◌≡◌, ◌-◌, ◌<◌, ℕ, All, List, Option, None, Some, Result, Ok, Err, is_some, true, false, [], length, replicate, slice_index_or}
use Rattle.cell_world.specs.declared.refusal.Refusal.{Refusal}
use Rattle.cell_world.specs.declared.refusal.Refusal.TheVariants.{Transfer as TransferRefused}
use Rattle.cell_world.specs.declared.transfer.Failure.{Failure}
use Rattle.cell_world.specs.Placed.Layout.{permission_of}
use Rattle.cell_world.specs.declared.layout.Class.TheVariants.{Writable}
use Rattle.cell_world.specs.Placed.Pages.{filled}
use Rattle.cell_world.specs.Running.Transfer.{Transferred, transferred}
use Rattle.cell_world.specs.Running.Turn.{without_region}
use Rattle.cell_num.specs.Limits.{stack_size}
use Rattle.cell_hart.specs.Step.{seen_of}
use Rattle.cell_mem.specs.State.{HasWrites, IsRoom, MemoryState, before_in, mapped, one_more}
use Rattle.cell_xfer.specs.declared.carrying.Transfer.{Transfer}
use Rattle.cell_xfer.specs.Named.{AnswersAs, addresses_as}

abbrev pub with_zeros : MemoryState → ℕ → MemoryState
with_zeros m start = mapped m start (permission_of Writable) (replicate stack_size 0)

abbrev pub said : List (List ℕ) → Option Failure → Result (Unit {0}) Refusal
said names None = Ok tt
said names (Some failure) = Err (TransferRefused (slice_index_or names failure.routine []) failure.why)

pub record CanCarry (m : MemoryState) (t : Transfer) : Type 0 where
  pub begun : is_some m.undo ≡ true
  pub writes : HasWrites m t.budget
  pub room : IsRoom m t.stack stack_size
  pub zeros : t.zeros.items ≡ replicate stack_size 0
  pub unsealed : filled m.sealed (t.stack - m.base) stack_size false ≡ m.sealed
  pub names : All (λ r. r.name < length t.names.items) t.routines.items

abbrev pub Carries : Transferred → Transfer → Result (Unit {0}) Refusal → MemoryState → Type 0
Carries x t result n = (n.regions ≡ without_region t.stack x.regions) × (result ≡ said t.names.items x.failure)

pub record IsCarried (m : MemoryState) (t : Transfer) (result : Result (Unit {0}) Refusal) (n : MemoryState) : Type 0 where
  pub back : before_in n ≡ before_in m
  pub begun : is_some n.undo ≡ true
  pub rest : n ≡ record m { regions = n.regions; undo = n.undo; maps = one_more m.maps }
  pub done : (old new : List (List ℕ × ℕ)) → AnswersAs t.addresses.old old → AnswersAs t.addresses.new new
      → Carries (transferred t.budget (record { old = addresses_as old; new = addresses_as new }) (seen_of (with_zeros m t.stack)) t.stack t.routines.items) t result n
