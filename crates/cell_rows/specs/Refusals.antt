-- Words that name nothing, stems without a file or with two, and a name without a provider.
use Rattle.std.specs.Prelude.{List, [], ◌∷◌, Err, Result, codes, pos}
use Rattle.cell_num.specs.declared.kinds.RelKind.TheVariants.{Abs64}
use Rattle.cell_world.specs.declared.command.Command.{Command}
use Rattle.cell_world.specs.declared.command.Command.TheVariants.{Load, Dump}
use Rattle.cell_world.specs.declared.refusal.Refusal.{Refusal}
use Rattle.cell_world.specs.declared.refusal.Refusal.TheVariants.{Unknown, NoObject, Ambiguous, Missing}
use Rattle.cell_world.specs.declared.reply.Reply.{Reply}
use Rattle.cell_world.specs.Gather.{Source}
use Rattle.cell_rows.specs.Pieces.{read_only, defined, undefined, entry, source}

-- two files of the stem `zz`, one whose name has no file, and one whose name has one
abbrev pub files : List Source
files =
    source (codes "k#b.o") (read_only 1 (0 ∷ 0 ∷ 0 ∷ 0 ∷ 0 ∷ 0 ∷ 0 ∷ 0 ∷ []) ∷ []) (undefined (codes "a::n") ∷ []) (entry 1 0 Abs64 1 (pos 0) ∷ []) ∷
    source (codes "k#c.o") (read_only 1 (0 ∷ 0 ∷ 0 ∷ 0 ∷ 0 ∷ 0 ∷ 0 ∷ 0 ∷ []) ∷ []) (undefined (codes "zz::x") ∷ []) (entry 1 0 Abs64 1 (pos 0) ∷ []) ∷
    source (codes "k#zz-1.o") (read_only 1 (0 ∷ 0 ∷ 0 ∷ 0 ∷ []) ∷ []) (defined (codes "zz::x") 1 0 ∷ []) [] ∷
    source (codes "k#zz-2.o") (read_only 1 (0 ∷ 0 ∷ 0 ∷ 0 ∷ []) ∷ []) (defined (codes "zz::x") 1 0 ∷ []) [] ∷ []

abbrev pub script : List Command
script =
    Load (codes "k") (codes "yy") ∷ Load (codes "k") (codes "zz") ∷ Load (codes "q") (codes "zz") ∷ Load (codes "k") (codes "b") ∷ Load (codes "k") (codes "c")
    ∷ Dump 1 1 ∷ []

abbrev pub answered : List (Result Reply Refusal)
answered =
    Err (NoObject (codes "yy")) ∷ Err (Ambiguous (codes "k#zz-1.o") (codes "k#zz-2.o")) ∷ Err (Unknown (codes "q"))
    ∷ Err (Missing (codes "a::n") (record { 0 = 1 })) ∷ Err (Ambiguous (codes "k#zz-1.o") (codes "k#zz-2.o")) ∷ Err (Unknown (codes "1")) ∷ []
