-- A field that is the difference of two names, one of which comes from another cell after a swap.
use Rattle.std.specs.Prelude.{ℕ, Bool, false, List, [], ◌∷◌, Ok, Result, codes, pos, replicate}
use Rattle.cell_num.specs.declared.kinds.RelKind.TheVariants.{Add32, Sub32}
use Rattle.cell_world.specs.declared.command.Command.{Command}
use Rattle.cell_world.specs.declared.command.Command.TheVariants.{Load, Dump, Swap}
use Rattle.cell_world.specs.declared.command.SwapItem.{SwapItem}
use Rattle.cell_world.specs.declared.refusal.Refusal.{Refusal}
use Rattle.cell_world.specs.declared.reply.Reply.{Reply}
use Rattle.cell_world.specs.declared.reply.Reply.TheVariants.{Load as LoadDone, Dump as DumpDone, Swap as SwapDone}
use Rattle.cell_world.specs.World.{key_of}
use Rattle.cell_world.specs.Answer.{ids}
use Rattle.cell_world.specs.Gather.{Source}
use Rattle.cell_rows.specs.Pieces.{read_only, defined, undefined, entry, source}

abbrev pub item : List ℕ → List ℕ → List ℕ → SwapItem
item ns stem file = record { ns = ns; stem = stem; file = file }

-- without routines, and not strict
abbrev pub swap : List SwapItem → Bool → Command
swap items reexport = Swap items reexport false [] 10000

abbrev pub files : List Source
files =
    source (codes "k#p.o") (read_only 1 (replicate 20 0) ∷ []) (defined (codes "p::hi") 1 16 ∷ []) [] ∷
    source (codes "k#q.o") (read_only 1 (replicate 4 0) ∷ []) (defined (codes "q::lo") 1 0 ∷ []) [] ∷
    source (codes "k#t.o") (read_only 1 (replicate 4 0) ∷ []) (undefined (codes "p::hi") ∷ undefined (codes "q::lo") ∷ [])
    (entry 1 0 Add32 1 (pos 0) ∷ entry 1 0 Sub32 2 (pos 0) ∷ []) ∷
    source (codes "n#p-2.o") (read_only 1 (replicate 36 0) ∷ []) (defined (codes "p::hi") 1 32 ∷ []) [] ∷ []

abbrev pub script : List Command
script =
    Load (codes "k") (codes "t") ∷ Dump 1 1 ∷ swap (item (codes "k") (codes "p") (codes "n#p-2.o") ∷ []) false ∷ Dump 1 1 ∷ []

abbrev pub answered : List (Result Reply Refusal)
answered =
    Ok (LoadDone (ids (1 ∷ 2 ∷ 3 ∷ [])) 1)
    ∷ Ok (DumpDone (key_of 1 1) 0x10000000 (0x10 ∷ 0xf0 ∷ 0xff ∷ 0xff ∷ []))
    ∷ Ok (SwapDone 1 (ids (4 ∷ [])) 1 (ids (2 ∷ [])) (ids []))
    ∷ Ok (DumpDone (key_of 1 1) 0x10000000 (0x20 ∷ 0x10 ∷ 0x00 ∷ 0x00 ∷ [])) ∷ []
