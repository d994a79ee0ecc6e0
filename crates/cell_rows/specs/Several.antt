-- Several routines on one stack with turns for all together, and one in a cell that was brought.
use Rattle.std.specs.Prelude.{ℕ, false, List, [], ◌∷◌, Ok, Err, Result, codes, pos}
use Rattle.cell_num.specs.declared.ids.Cause.TheVariants.{Break}
use Rattle.cell_num.specs.declared.ids.Why.TheVariants.{Budget, Trap}
use Rattle.cell_num.specs.declared.kinds.RelKind.TheVariants.{CallPlt}
use Rattle.cell_world.specs.declared.command.Command.{Command}
use Rattle.cell_world.specs.declared.command.Command.TheVariants.{Load, Swap}
use Rattle.cell_world.specs.declared.refusal.Refusal.{Refusal}
use Rattle.cell_world.specs.declared.refusal.Refusal.TheVariants.{Transfer}
use Rattle.cell_world.specs.declared.reply.Reply.{Reply}
use Rattle.cell_world.specs.declared.reply.Reply.TheVariants.{Load as LoadDone, Swap as SwapDone}
use Rattle.cell_world.specs.Answer.{ids}
use Rattle.cell_world.specs.Gather.{Source}
use Rattle.cell_rows.specs.Pieces.{text, code, defined, undefined, entry, source}
use Rattle.cell_rows.specs.Swaps.{item}
use Rattle.cell_rows.specs.Transfers.{bare}

-- a way back and a break; and a call of `b::mv` with a way back
abbrev pub files : List Source
files =
    bare (codes "k#b.o") (codes "b::mv") ∷ bare (codes "k#c.o") (codes "c::f")
    ∷ source (codes "n#c-2.o") (text 1 (code (0x00008067 ∷ 0x00100073 ∷ [])) ∷ [])
    (defined (codes "c::f") 1 0 ∷ defined (codes "c::stop") 1 4 ∷ []) []
    ∷ source (codes "n#c-3.o") (text 1 (code (0x00000097 ∷ 0x000080e7 ∷ 0x00008067 ∷ [])) ∷ [])
    (defined (codes "c::f") 1 0 ∷ undefined (codes "b::mv") ∷ []) (entry 1 0 CallPlt 2 (pos 0) ∷ []) ∷ []

abbrev pub swap_with : List ℕ → List (List ℕ) → ℕ → Command
swap_with file names turns = Swap (item (codes "k") (codes "c") file ∷ []) false false names turns

abbrev pub script : List Command
script =
    Load (codes "k") (codes "c") ∷ swap_with (codes "n#c-2.o") (codes "c::f" ∷ codes "c::stop" ∷ []) 1
    ∷ swap_with (codes "n#c-2.o") (codes "c::f" ∷ codes "c::stop" ∷ []) 2
    ∷ swap_with (codes "n#c-2.o") (codes "c::f" ∷ codes "c::f" ∷ []) 2
    ∷ swap_with (codes "n#c-3.o") (codes "b::mv" ∷ []) 1 ∷ []

abbrev pub answered : List (Result Reply Refusal)
answered =
    Ok (LoadDone (ids (1 ∷ [])) 0) ∷ Err (Transfer (codes "c::stop") Budget) ∷ Err (Transfer (codes "c::stop") (Trap Break 0x10001004))
    ∷ Ok (SwapDone 1 (ids (2 ∷ [])) 0 (ids (1 ∷ [])) (ids [])) ∷ Ok (SwapDone 2 (ids (3 ∷ 4 ∷ [])) 1 (ids (2 ∷ [])) (ids [])) ∷ []
