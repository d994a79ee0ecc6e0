-- The last address that HI20 reaches, and the first that it does not, from 0x7fffe000 on.
use Rattle.std.specs.Prelude.{ℕ, List, [], ◌∷◌, ◌++◌, Ok, Err, Result, codes, pos, replicate}
use Rattle.cell_num.specs.declared.kinds.RelKind.TheVariants.{Hi20}
use Rattle.cell_world.specs.declared.command.Command.{Command}
use Rattle.cell_world.specs.declared.command.Command.TheVariants.{Load, Dump}
use Rattle.cell_world.specs.declared.refusal.Refusal.{Refusal}
use Rattle.cell_world.specs.declared.refusal.Refusal.TheVariants.{Overflow}
use Rattle.cell_world.specs.declared.reply.Reply.{Reply}
use Rattle.cell_world.specs.declared.reply.Reply.TheVariants.{Load as LoadDone, Dump as DumpDone}
use Rattle.cell_world.specs.World.{key_of}
use Rattle.cell_world.specs.Answer.{ids}
use Rattle.cell_world.specs.Gather.{Source}
use Rattle.cell_rows.specs.Pieces.{text, writable, defined, entry, source}

-- `lui a0` with the upper part of an address so far into the data
abbrev pub upper_of : List ℕ → ℕ → Source
upper_of name value =
    source name (text 1 (55 ∷ 5 ∷ 0 ∷ 0 ∷ []) ∷ writable 2 (replicate value 0 ++ 1 ∷ []) ∷ []) (defined (codes "h::x") 2 value ∷ []) (entry 1 0 Hi20 1 (pos 0) ∷ [])

abbrev pub files : List Source
files = upper_of (codes "k#h.o") 2047 ∷ upper_of (codes "k#i.o") 2048 ∷ []

abbrev pub script : List Command
script = Load (codes "k") (codes "i") ∷ Load (codes "k") (codes "h") ∷ Dump 1 1 ∷ []

abbrev pub answered : List (Result Reply Refusal)
answered =
    Err (Overflow (record { 0 = 1 }) 1 0 Hi20) ∷ Ok (LoadDone (ids (1 ∷ [])) 1)
    ∷ Ok (DumpDone (key_of 1 1) 0x7fffe000 (55 ∷ 245 ∷ 255 ∷ 127 ∷ [])) ∷ []
