-- A cell is replaced by one whose names end in another hash: users of the old name need it as a second name of the new one.
use Rattle.std.specs.Prelude.{true, false, List, [], ◌∷◌, Ok, Err, Some, Result, codes, pos, replicate}
use Rattle.cell_num.specs.declared.kinds.RelKind.TheVariants.{CallPlt, Abs64}
use Rattle.cell_world.specs.declared.command.Command.{Command}
use Rattle.cell_world.specs.declared.command.Command.TheVariants.{Load, Find}
use Rattle.cell_world.specs.declared.refusal.Refusal.{Refusal}
use Rattle.cell_world.specs.declared.refusal.Refusal.TheVariants.{Missing}
use Rattle.cell_world.specs.declared.reply.Reply.{Reply}
use Rattle.cell_world.specs.declared.reply.Reply.TheVariants.{Load as LoadDone, Find as FindDone, Swap as SwapDone}
use Rattle.cell_world.specs.World.{key_of}
use Rattle.cell_world.specs.Answer.{ids}
use Rattle.cell_world.specs.Gather.{Source}
use Rattle.cell_rows.specs.Pieces.{text, code, read_only, defined, undefined, entry, source}
use Rattle.cell_rows.specs.Swaps.{item, swap}

-- the way back, under these names, each an instruction later
abbrev pub files : List Source
files =
    source (codes "k#app.o") (text 1 (code (0x00000097 ∷ 0x000080e7 ∷ 0x00008067 ∷ [])) ∷ [])
    (defined (codes "app::go") 1 0 ∷ undefined (codes "log::put::h01") ∷ []) (entry 1 0 CallPlt 2 (pos 0) ∷ []) ∷
    source (codes "k#late.o") (read_only 1 (replicate 8 0) ∷ []) (undefined (codes "log::put::h01") ∷ []) (entry 1 0 Abs64 1 (pos 0) ∷ []) ∷
    source (codes "k#log-01.o") (text 1 (code (0x00008067 ∷ [])) ∷ []) (defined (codes "log::put::h01") 1 0 ∷ []) [] ∷
    source (codes "n#log-02.o") (text 1 (code (0x00008067 ∷ [])) ∷ []) (defined (codes "log::put::h02") 1 0 ∷ []) [] ∷
    source (codes "n#log-03.o") (text 1 (code (0x00008067 ∷ 0x00008067 ∷ [])) ∷ []) (defined (codes "log::put::h03") 1 0 ∷ defined (codes "log::put::h04") 1 4 ∷ []) [] ∷ []

abbrev pub script : List Command
script =
    Load (codes "k") (codes "app")
    ∷ swap (item (codes "k") (codes "log") (codes "n#log-02.o") ∷ []) false
    ∷ swap (item (codes "k") (codes "log") (codes "n#log-02.o") ∷ []) true
    ∷ Load (codes "k") (codes "late") ∷ Find (codes "k") (codes "log::put::h01")
    ∷ swap (item (codes "k") (codes "log") (codes "n#log-03.o") ∷ []) true ∷ []

abbrev pub answered : List (Result Reply Refusal)
answered =
    Ok (LoadDone (ids (1 ∷ 2 ∷ [])) 1) ∷ Err (Missing (codes "log::put::h01") (record { 0 = 1 }))
    ∷ Ok (SwapDone 1 (ids (3 ∷ [])) 1 (ids (2 ∷ [])) (ids [])) ∷ Ok (LoadDone (ids (4 ∷ [])) 1)
    ∷ Ok (FindDone (Some (record { key = key_of 3 1; offset = 0; addr = 0x10002000 })))
    ∷ Err (Missing (codes "log::put::h01") (record { 0 = 1 })) ∷ []
