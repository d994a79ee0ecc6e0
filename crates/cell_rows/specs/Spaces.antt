-- Two namespaces under `k`, each with an `a` of its own; `b` in one of them needs `c`, which `k` has.
use Rattle.std.specs.Prelude.{ℕ, false, List, [], ◌∷◌, Ok, Err, Some, None, Result, codes, pos}
use Rattle.cell_num.specs.declared.kinds.RelKind.TheVariants.{Abs64}
use Rattle.cell_object.specs.declared.object.Section.{Section}
use Rattle.cell_world.specs.declared.command.Command.{Command}
use Rattle.cell_world.specs.declared.command.Command.TheVariants.{Ns, Load, Find, Map, Dump}
use Rattle.cell_world.specs.declared.refusal.Refusal.{Refusal}
use Rattle.cell_world.specs.declared.refusal.Refusal.TheVariants.{Unknown, NameTaken, Duplicate}
use Rattle.cell_world.specs.declared.reply.MapCell.{MapCell}
use Rattle.cell_world.specs.declared.reply.Reply.{Reply}
use Rattle.cell_world.specs.declared.reply.Reply.TheVariants.{Ns as NsDone, Load as LoadDone, Find as FindDone, Map as MapDone, Dump as DumpDone}
use Rattle.cell_world.specs.World.{key_of}
use Rattle.cell_world.specs.Answer.{ids}
use Rattle.cell_world.specs.Gather.{Source}
use Rattle.cell_rows.specs.Pieces.{read_only, defined, undefined, entry, source}

abbrev pub words : Section
words = read_only 1 (0 ∷ 0 ∷ 0 ∷ 0 ∷ 0 ∷ 0 ∷ 0 ∷ 0 ∷ [])

-- `d` has a name of `a` again
abbrev pub files : List Source
files =
    source (codes "k#a.o") (words ∷ []) (defined (codes "a::y") 1 0 ∷ []) [] ∷
    source (codes "u#a.o") (words ∷ []) (defined (codes "a::x") 1 4 ∷ []) [] ∷
    source (codes "v#a.o") (words ∷ []) (defined (codes "a::x") 1 0 ∷ []) [] ∷
    source (codes "u#b.o") (words ∷ []) (undefined (codes "c::y") ∷ []) (entry 1 0 Abs64 1 (pos 2) ∷ []) ∷
    source (codes "k#c.o") (words ∷ []) (defined (codes "c::y") 1 0 ∷ []) [] ∷
    source (codes "u#d.o") (words ∷ []) (defined (codes "a::x") 1 0 ∷ []) [] ∷ []

abbrev pub script : List Command
script =
    Ns (codes "u") (codes "k") ∷ Ns (codes "v") (codes "k") ∷ Ns (codes "k") (codes "u") ∷ Ns (codes "w") (codes "q")
    ∷ Load (codes "u") (codes "a") ∷ Load (codes "v") (codes "a") ∷ Load (codes "k") (codes "a") ∷ Load (codes "u") (codes "d") ∷ Load (codes "u") (codes "b")
    ∷ Find (codes "u") (codes "a::x") ∷ Find (codes "v") (codes "c::y") ∷ Find (codes "k") (codes "a::x") ∷ Find (codes "q") (codes "a::x")
    ∷ Dump 3 1 ∷ Map ∷ []

-- a cell with that one section
abbrev pub cell : ℕ → List ℕ → List ℕ → List ℕ → ℕ → MapCell
cell number ns stem file start =
    record {
      cell = record { 0 = number };
      ns = ns;
      stem = stem;
      file = file;
      group = None;
      sections = record { section = 1; write = false; exec = false; start = start; size = 8 } ∷ [];
    }

abbrev pub cells : List MapCell
cells =
    cell 1 (codes "u") (codes "a") (codes "u#a.o") 0x1000_0000 ∷ cell 2 (codes "v") (codes "a") (codes "v#a.o") 0x1000_1000 ∷
    cell 3 (codes "u") (codes "b") (codes "u#b.o") 0x1000_2000 ∷ cell 4 (codes "k") (codes "c") (codes "k#c.o") 0x1000_3000 ∷ []

abbrev pub answered : List (Result Reply Refusal)
answered =
    Ok (NsDone (codes "u")) ∷ Ok (NsDone (codes "v")) ∷ Err (NameTaken (codes "k")) ∷ Err (Unknown (codes "q"))
    ∷ Ok (LoadDone (ids (1 ∷ [])) 0) ∷ Ok (LoadDone (ids (2 ∷ [])) 0) ∷ Err (Duplicate (codes "a") (record { 0 = 1 })) ∷ Err (Duplicate (codes "a::x") (record { 0 = 1 }))
    ∷ Ok (LoadDone (ids (3 ∷ 4 ∷ [])) 1)
    ∷ Ok (FindDone (Some (record { key = key_of 1 1; offset = 4; addr = 0x1000_0004 })))
    ∷ Ok (FindDone (Some (record { key = key_of 4 1; offset = 0; addr = 0x1000_3000 }))) ∷ Ok (FindDone None) ∷ Err (Unknown (codes "q"))
    ∷ Ok (DumpDone (key_of 3 1) 0x1000_2000 (0x02 ∷ 0x30 ∷ 0x00 ∷ 0x10 ∷ 0x00 ∷ 0x00 ∷ 0x00 ∷ 0x00 ∷ [])) ∷ Ok (MapDone cells) ∷ []
