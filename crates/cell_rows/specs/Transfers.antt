-- A transfer routine that stores 9 into another cell: as long as it fails nothing changes, and the swap that it ends well stores it.
use Rattle.std.specs.Prelude.{ℕ, false, List, [], ◌∷◌, ◌+◌, ◌*◌, Ok, Err, Result, codes, pos}
use Rattle.cell_num.specs.declared.ids.Why.TheVariants.{Returned, Budget}
use Rattle.cell_num.specs.declared.kinds.RelKind.TheVariants.{PcrelHi20, PcrelLo12I}
use Rattle.cell_world.specs.declared.command.Command.{Command}
use Rattle.cell_world.specs.declared.command.Command.TheVariants.{Load, Dump, Swap}
use Rattle.cell_world.specs.declared.refusal.Refusal.{Refusal}
use Rattle.cell_world.specs.declared.refusal.Refusal.TheVariants.{Transfer}
use Rattle.cell_world.specs.declared.reply.Reply.{Reply}
use Rattle.cell_world.specs.declared.reply.Reply.TheVariants.{Load as LoadDone, Dump as DumpDone, Swap as SwapDone}
use Rattle.cell_world.specs.World.{key_of}
use Rattle.cell_world.specs.Answer.{ids}
use Rattle.cell_world.specs.Gather.{Source}
use Rattle.cell_rows.specs.Pieces.{text, writable, code, label, defined, undefined, entry, source}
use Rattle.cell_rows.specs.Swaps.{item}

-- a text with the way back alone
abbrev pub bare : List ℕ → List ℕ → Source
bare file name = source file (text 1 (code (0x00008067 ∷ [])) ∷ []) (defined name 1 0 ∷ []) []

-- the same, and then a routine that stores 9 where `s::v` is and returns the number
abbrev pub storing : List ℕ → ℕ → Source
storing file n =
    source file
    (text 1 (code (0x00008067 ∷ 0x00000297 ∷ 0x00028293 ∷ 0x00900313 ∷ 0x0062b023 ∷ (1048576 * n + 0x00000513) ∷ 0x00008067 ∷ [])) ∷ [])
    (label (codes ".La1") 1 4 ∷ defined (codes "c::f") 1 0 ∷ defined (codes "c::mv") 1 4 ∷ undefined (codes "s::v") ∷ [])
    (entry 1 4 PcrelHi20 4 (pos 0) ∷ entry 1 8 PcrelLo12I 1 (pos 0) ∷ [])

abbrev pub files : List Source
files =
    bare (codes "k#c.o") (codes "c::f")
    ∷ source (codes "k#s.o") (writable 1 (1 ∷ 0 ∷ 0 ∷ 0 ∷ 0 ∷ 0 ∷ 0 ∷ 0 ∷ []) ∷ []) (defined (codes "s::v") 1 0 ∷ []) []
    ∷ storing (codes "n#c-2.o") 7 ∷ storing (codes "n#c-3.o") 0 ∷ []

-- with the routine, within so many turns
abbrev pub swap_within : List ℕ → ℕ → Command
swap_within file turns = Swap (item (codes "k") (codes "c") file ∷ []) false false (codes "c::mv" ∷ []) turns

abbrev pub script : List Command
script =
    Load (codes "k") (codes "s") ∷ Load (codes "k") (codes "c") ∷ swap_within (codes "n#c-2.o") 10000 ∷ Dump 1 1
    ∷ swap_within (codes "n#c-3.o") 5 ∷ swap_within (codes "n#c-3.o") 6 ∷ Dump 1 1 ∷ []

abbrev pub shown : ℕ → Reply
shown n = DumpDone (key_of 1 1) 0x10000000 (n ∷ 0 ∷ 0 ∷ 0 ∷ 0 ∷ 0 ∷ 0 ∷ 0 ∷ [])

abbrev pub answered : List (Result Reply Refusal)
answered =
    Ok (LoadDone (ids (1 ∷ [])) 0) ∷ Ok (LoadDone (ids (2 ∷ [])) 0) ∷ Err (Transfer (codes "c::mv") (Returned 7)) ∷ Ok (shown 1)
    ∷ Err (Transfer (codes "c::mv") Budget) ∷ Ok (SwapDone 1 (ids (3 ∷ [])) 2 (ids (2 ∷ [])) (ids [])) ∷ Ok (shown 9) ∷ []
