-- Where a routine may begin is seen before there is room for the new cells, and room for its stack comes after theirs.
use Rattle.std.specs.Prelude.{ℕ, true, false, List, [], ◌∷◌, Ok, Err, Result, codes}
use Rattle.cell_num.specs.declared.ids.Why.TheVariants.{Budget}
use Rattle.cell_object.specs.declared.object.Section.{Section}
use Rattle.cell_object.specs.declared.object.Fill.TheVariants.{Zero}
use Rattle.cell_world.specs.declared.command.Command.{Command}
use Rattle.cell_world.specs.declared.command.Command.TheVariants.{Load, Spawn, Swap}
use Rattle.cell_world.specs.declared.refusal.Refusal.{Refusal}
use Rattle.cell_world.specs.declared.refusal.Refusal.TheVariants.{Exhausted, NoEntry, Transfer}
use Rattle.cell_world.specs.declared.reply.Reply.{Reply}
use Rattle.cell_world.specs.declared.reply.Reply.TheVariants.{Load as LoadDone, Spawn as SpawnDone, Swap as SwapDone}
use Rattle.cell_world.specs.Answer.{ids}
use Rattle.cell_world.specs.Gather.{Source}
use Rattle.cell_rows.specs.Pieces.{text, code, defined, source}
use Rattle.cell_rows.specs.Swaps.{item}
use Rattle.cell_rows.specs.Rooms.{zeros}

-- seven pages of zeros
abbrev pub seven : Section
seven = record { number = 2; name = codes ".bss"; write = true; exec = false; fill = Zero; align = 8; size = 28672; bytes = [] }

abbrev pub way_back : Section
way_back = text 1 (code (0x00008067 ∷ []))

abbrev pub files : List Source
files =
    source (codes "k#c.o") (way_back ∷ []) (defined (codes "c::f::h01") 1 0 ∷ []) []
    ∷ source (codes "n#c-4.o") (zeros ∷ []) (defined (codes "c::f") 1 0 ∷ []) []
    ∷ source (codes "n#c-5.o") (way_back ∷ seven ∷ []) (defined (codes "c::f") 1 0 ∷ []) []
    ∷ source (codes "n#c-6.o") (way_back ∷ []) (defined (codes "c::f::h02") 1 0 ∷ []) [] ∷ []

-- under the old names too, with one routine
abbrev pub swap_with : List ℕ → List ℕ → ℕ → Command
swap_with file name turns = Swap (item (codes "k") (codes "c") file ∷ []) true false (name ∷ []) turns

-- twelve pages of zeros are no place to begin, and an alias is none; eleven pages are free, of which eight and then four are wanted
abbrev pub script : List Command
script =
    Load (codes "k") (codes "c") ∷ Spawn (codes "k") (codes "c::f::h01") 0
    ∷ swap_with (codes "n#c-4.o") (codes "c::f") 10 ∷ swap_with (codes "n#c-5.o") (codes "c::f") 10
    ∷ swap_with (codes "n#c-6.o") (codes "c::f::h01") 10 ∷ swap_with (codes "n#c-6.o") (codes "c::f::h02") 0
    ∷ swap_with (codes "n#c-6.o") (codes "c::f::h02") 1 ∷ []

abbrev pub answered : List (Result Reply Refusal)
answered =
    Ok (LoadDone (ids (1 ∷ [])) 0) ∷ Ok (SpawnDone 1 0x10000000) ∷ Err (NoEntry (codes "c::f")) ∷ Err (Exhausted 4 3)
    ∷ Err (NoEntry (codes "c::f::h01")) ∷ Err (Transfer (codes "c::f::h02") Budget)
    ∷ Ok (SwapDone 1 (ids (2 ∷ [])) 0 (ids []) (ids (1 ∷ []))) ∷ []
