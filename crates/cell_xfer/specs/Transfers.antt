-- What the routines of a swap leave.
--     Transfers n addresses m stack routines result m'      within n turns, from memory m, they end as `result` says, and leave m'
use Rattle.std.specs.Prelude.{◌≡◌, ℕ, List, Option, None, Some, Result, Ok, Err}
use Rattle.cell_world.specs.declared.transfer.Failure.{Failure}
use Rattle.cell_world.specs.declared.transfer.Routine.{Routine}
use Rattle.cell_world.specs.Running.Transfer.{Addresses, transferred}
use Rattle.cell_hart.specs.Step.{seen_of}
use Rattle.cell_mem.specs.State.{MemoryState}

abbrev pub failure_of : Result (Unit {0}) Failure → Option Failure
failure_of (Ok u) = None
failure_of (Err failure) = Some failure

abbrev pub Transfers : ℕ → Addresses → MemoryState → ℕ → List Routine → Result (Unit {0}) Failure → MemoryState → Type 0
Transfers n addresses m stack routines result m' =
    (record { regions = m'.regions; failure = failure_of result }) ≡ transferred n addresses (seen_of m) stack routines
