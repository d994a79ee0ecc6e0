-- Transfers by hand, over a text and eight bytes of data: a routine that stores 9 and returns a code, and one that asks for a name.
use Rattle.std.specs.Prelude.{ℕ, ◌+◌, ◌*◌, false, List, [], ◌∷◌, Option, Some, None, codes, flat_map}
use Rattle.cell_num.specs.declared.ids.Why.{Why}
use Rattle.cell_num.specs.Bits.{bytes_of}
use Rattle.cell_world.specs.World.{Region}
use Rattle.cell_world.specs.Placed.Layout.{permission_of}
use Rattle.cell_world.specs.declared.layout.Class.TheVariants.{Text, Writable}
use Rattle.cell_world.specs.declared.transfer.Failure.{Failure}
use Rattle.cell_world.specs.declared.transfer.Routine.{Routine}
use Rattle.cell_world.specs.Running.Execute.{Seen}
use Rattle.cell_world.specs.Running.Transfer.{Addresses, Transferred, transferred}
use Rattle.cell_laws.specs.Progress.{Progress, Runs, Ended, progress_after}
use Rattle.cell_world.specs.declared.transfer.Record.{Record}

-- at 0x10000
abbrev pub text : List ℕ → Region
text words = record { start = 0x10000; permission = permission_of Text; bytes = flat_map (bytes_of 4) words }

-- at 0x11000
abbrev pub holding : ℕ → Region
holding value = record { start = 0x11000; permission = permission_of Writable; bytes = bytes_of 8 value }

-- without seals
abbrev pub seen : List Region → Seen
seen regions = record { regions = regions; is_sealed = λ addr k. false }

abbrev pub stack : ℕ
stack = 0x20000

abbrev pub routine : Routine
routine = record { name = 3; entry = 0x10000 }

-- at most n turns of one routine
abbrev pub by_hand : ℕ → Addresses → List Region → Transferred
by_hand n addresses regions = transferred n addresses (seen regions) stack (routine ∷ [])

-- la t0, the data / li t1, 9 / sd t1, 0(t0) / li a0, the code / ret
abbrev pub stores : ℕ → Region
stores code = text (0x1297 ∷ 0x28293 ∷ 0x900313 ∷ 0x62b023 ∷ (code * 0x100000 + 0x513) ∷ 0x8067 ∷ [])

abbrev pub storing : ℕ → ℕ → Transferred
storing code n = by_hand n (record { old = []; new = [] }) (stores code ∷ holding 0 ∷ [])

-- the pc at which it stands after n turns, until it has ended
abbrev pub pc_of : Progress → Option ℕ
pc_of (Runs r) = Some r.hart.pc
pc_of (Ended t) = None

abbrev pub pc_after : ℕ → ℕ → Option ℕ
pc_after code n =
    pc_of (progress_after n (record { old = []; new = [] }) (seen (stores code ∷ holding 0 ∷ [])) stack (routine ∷ []))

-- what its one store displaced
abbrev pub displaced : List Record
displaced = record { addr = 0x11000; width = 8; before = 0 } ∷ []

-- la a0, the data / li a1, 4 / li a7, the call / ecall / ret
abbrev pub asks : ℕ → Region
asks call = text (0x1517 ∷ 0x400593 ∷ (call * 0x100000 + 0x893) ∷ 0x73 ∷ 0x8067 ∷ [])

-- the data begins with `s::v`, which is at 0x4000 in the old cells and at 0x5000 in the new ones
abbrev pub named : ℕ
named = 0x763a3a73

abbrev pub asking : ℕ → Transferred
asking call =
    by_hand 5
    (record { old = record { name = codes "s::v"; addr = 0x4000 } ∷ []; new = record { name = codes "s::v"; addr = 0x5000 } ∷ [] })
    (asks call ∷ holding named ∷ [])

-- the routine ended so
abbrev pub failed : Why → Option Failure
failed why = Some (record { routine = 3; why = why })
