-- Routines that ask for an address in the old or the new cells and store it into another cell. An old cell whose address stands there by then is kept.
use Rattle.std.specs.Prelude.{ℕ, Bool, true, false, List, [], ◌∷◌, ◌+◌, ◌*◌, Ok, Err, Result, codes, pos}
use Rattle.cell_num.specs.declared.ids.Holder.TheVariants.{Cell}
use Rattle.cell_num.specs.declared.kinds.RelKind.TheVariants.{PcrelHi20, PcrelLo12I}
use Rattle.cell_world.specs.declared.command.Command.{Command}
use Rattle.cell_world.specs.declared.command.Command.TheVariants.{Load, Dump, Swap}
use Rattle.cell_world.specs.declared.refusal.Refusal.{Refusal}
use Rattle.cell_world.specs.declared.refusal.Refusal.TheVariants.{Held}
use Rattle.cell_world.specs.declared.reply.Reply.{Reply}
use Rattle.cell_world.specs.declared.reply.Reply.TheVariants.{Load as LoadDone, Dump as DumpDone, Swap as SwapDone}
use Rattle.cell_world.specs.World.{key_of}
use Rattle.cell_world.specs.Answer.{ids}
use Rattle.cell_world.specs.Gather.{Source}
use Rattle.cell_rows.specs.Pieces.{text, writable, code, label, defined, undefined, entry, source}
use Rattle.cell_rows.specs.Swaps.{item}
use Rattle.cell_rows.specs.Transfers.{bare}

-- a way back, and then a routine that makes that call with the four bytes at `s::n` and stores what it gives where `s::v` is
abbrev pub asker : List ℕ → ℕ → Source
asker file call =
    source file
    (text 1
    (code (0x00008067 ∷ 0x00000517 ∷ 0x00050513 ∷ 0x00400593 ∷ (1048576 * call + 0x00000893) ∷ 0x00000073
    ∷ 0x00000297 ∷ 0x00028293 ∷ 0x00a2b023 ∷ 0x00000513 ∷ 0x00008067 ∷ [])) ∷ [])
    (label (codes ".La1") 1 4 ∷ label (codes ".La2") 1 24 ∷ defined (codes "c::f") 1 0 ∷ defined (codes "c::mv") 1 4
    ∷ undefined (codes "s::n") ∷ undefined (codes "s::v") ∷ [])
    (entry 1 4 PcrelHi20 5 (pos 0) ∷ entry 1 8 PcrelLo12I 1 (pos 0) ∷ entry 1 24 PcrelHi20 6 (pos 0)
    ∷ entry 1 28 PcrelLo12I 2 (pos 0) ∷ [])

-- eight bytes of zeros, and the name `c::f`
abbrev pub files : List Source
files =
    bare (codes "k#c.o") (codes "c::f")
    ∷ source (codes "k#s.o") (writable 1 (0 ∷ 0 ∷ 0 ∷ 0 ∷ 0 ∷ 0 ∷ 0 ∷ 0 ∷ codes "c::f") ∷ [])
    (defined (codes "s::v") 1 0 ∷ defined (codes "s::n") 1 8 ∷ []) []
    ∷ asker (codes "n#c-4.o") 4 ∷ asker (codes "n#c-5.o") 5 ∷ []

abbrev pub swap_asking : List ℕ → Bool → Command
swap_asking file strict = Swap (item (codes "k") (codes "c") file ∷ []) false strict (codes "c::mv" ∷ []) 10000

abbrev pub script : List Command
script =
    Load (codes "k") (codes "s") ∷ Load (codes "k") (codes "c") ∷ swap_asking (codes "n#c-4.o") true ∷ Dump 1 1
    ∷ swap_asking (codes "n#c-5.o") true ∷ Dump 1 1 ∷ swap_asking (codes "n#c-4.o") false ∷ Dump 1 1 ∷ []

-- the second byte of the address that stands there, and the fourth
abbrev pub shown : ℕ → ℕ → Reply
shown b d = DumpDone (key_of 1 1) 0x10000000 (0 ∷ b ∷ 0 ∷ d ∷ 0 ∷ 0 ∷ 0 ∷ 0 ∷ codes "c::f")

abbrev pub answered : List (Result Reply Refusal)
answered =
    Ok (LoadDone (ids (1 ∷ [])) 0) ∷ Ok (LoadDone (ids (2 ∷ [])) 0) ∷ Err (Held (record { 0 = 2 }) (Cell (record { 0 = 1 }))) ∷ Ok (shown 0 0)
    ∷ Ok (SwapDone 1 (ids (3 ∷ [])) 4 (ids (2 ∷ [])) (ids [])) ∷ Ok (shown 0x20 0x10)
    ∷ Ok (SwapDone 2 (ids (4 ∷ [])) 4 (ids []) (ids (3 ∷ []))) ∷ Ok (shown 0x20 0x10) ∷ []
