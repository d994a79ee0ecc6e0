-- `b` names a word of `a`, which was loaded before it.
use Rattle.std.specs.Prelude.{List, [], ◌∷◌, Ok, Result, codes, pos}
use Rattle.cell_num.specs.declared.kinds.RelKind.TheVariants.{Abs64}
use Rattle.cell_world.specs.declared.command.Command.{Command}
use Rattle.cell_world.specs.declared.command.Command.TheVariants.{Load, Dump}
use Rattle.cell_world.specs.declared.refusal.Refusal.{Refusal}
use Rattle.cell_world.specs.declared.reply.Reply.{Reply}
use Rattle.cell_world.specs.declared.reply.Reply.TheVariants.{Load as LoadDone, Dump as DumpDone}
use Rattle.cell_world.specs.World.{key_of}
use Rattle.cell_world.specs.Answer.{ids}
use Rattle.cell_world.specs.Gather.{Source}
use Rattle.cell_rows.specs.Pieces.{writable, read_only, defined, undefined, entry, source}

abbrev pub files : List Source
files =
    source (codes "k#a.o") (writable 1 (7 ∷ 0 ∷ 0 ∷ 0 ∷ 0 ∷ 0 ∷ 0 ∷ 0 ∷ []) ∷ []) (defined (codes "a::n") 1 0 ∷ []) [] ∷
    source (codes "k#b.o") (read_only 1 (0 ∷ 0 ∷ 0 ∷ 0 ∷ 0 ∷ 0 ∷ 0 ∷ 0 ∷ 1 ∷ 0 ∷ 0 ∷ 0 ∷ 0 ∷ 0 ∷ 0 ∷ 0 ∷ []) ∷ [])
    (defined (codes "b::p") 1 0 ∷ undefined (codes "a::n") ∷ []) (entry 1 0 Abs64 2 (pos 4) ∷ []) ∷ []

abbrev pub script : List Command
script = Load (codes "k") (codes "a") ∷ Load (codes "k") (codes "b") ∷ Dump 2 1 ∷ []

abbrev pub answered : List (Result Reply Refusal)
answered =
    Ok (LoadDone (ids (1 ∷ [])) 0) ∷ Ok (LoadDone (ids (2 ∷ [])) 1)
    ∷ Ok (DumpDone (key_of 2 1) 0x10001000 (0x04 ∷ 0x00 ∷ 0x00 ∷ 0x10 ∷ 0x00 ∷ 0x00 ∷ 0x00 ∷ 0x00 ∷ 0x01 ∷ 0x00 ∷ 0x00 ∷ 0x00 ∷ 0x00 ∷ 0x00 ∷ 0x00 ∷ 0x00 ∷ [])) ∷ []
