-- A name that is WEAK and undefined is 0 until a definition comes, and again once that has gone.
use Rattle.std.specs.Prelude.{false, List, [], ◌∷◌, Ok, Err, Result, codes, pos, replicate}
use Rattle.cell_num.specs.declared.kinds.RelKind.TheVariants.{Abs64}
use Rattle.cell_num.specs.declared.ids.Holder.TheVariants.{Cell as CellHolder}
use Rattle.cell_world.specs.declared.command.Command.{Command}
use Rattle.cell_world.specs.declared.command.Command.TheVariants.{Load, Dump, Unload}
use Rattle.cell_world.specs.declared.refusal.Refusal.{Refusal}
use Rattle.cell_world.specs.declared.refusal.Refusal.TheVariants.{Held}
use Rattle.cell_world.specs.declared.reply.Reply.{Reply}
use Rattle.cell_world.specs.declared.reply.Reply.TheVariants.{Load as LoadDone, Dump as DumpDone, Swap as SwapDone}
use Rattle.cell_world.specs.World.{key_of}
use Rattle.cell_world.specs.Answer.{ids}
use Rattle.cell_world.specs.Gather.{Source}
use Rattle.cell_rows.specs.Pieces.{read_only, writable, defined, weakly_undefined, entry, source}
use Rattle.cell_rows.specs.Swaps.{item, swap}

abbrev pub files : List Source
files =
    source (codes "k#u.o") (read_only 1 (replicate 8 0) ∷ []) (weakly_undefined (codes "v::w") ∷ []) (entry 1 0 Abs64 1 (pos 0) ∷ []) ∷
    source (codes "k#v.o") (writable 1 (5 ∷ replicate 7 0) ∷ []) (defined (codes "v::w") 1 0 ∷ []) [] ∷
    source (codes "n#v-2.o") (writable 1 (replicate 8 0) ∷ []) [] [] ∷ []

abbrev pub script : List Command
script =
    Load (codes "k") (codes "u") ∷ Dump 1 1 ∷ Load (codes "k") (codes "v") ∷ Dump 1 1
    ∷ Unload (record { ns = codes "k"; stem = codes "v" } ∷ [])
    ∷ swap (item (codes "k") (codes "v") (codes "n#v-2.o") ∷ []) false ∷ Dump 1 1 ∷ []

abbrev pub answered : List (Result Reply Refusal)
answered =
    Ok (LoadDone (ids (1 ∷ [])) 1) ∷ Ok (DumpDone (key_of 1 1) 0x10000000 (replicate 8 0))
    ∷ Ok (LoadDone (ids (2 ∷ [])) 1) ∷ Ok (DumpDone (key_of 1 1) 0x10000000 (0x00 ∷ 0x10 ∷ 0x00 ∷ 0x10 ∷ 0x00 ∷ 0x00 ∷ 0x00 ∷ 0x00 ∷ []))
    ∷ Err (Held (record { 0 = 2 }) (CellHolder (record { 0 = 1 })))
    ∷ Ok (SwapDone 1 (ids (3 ∷ [])) 1 (ids (2 ∷ [])) (ids [])) ∷ Ok (DumpDone (key_of 1 1) 0x10000000 (replicate 8 0)) ∷ []
