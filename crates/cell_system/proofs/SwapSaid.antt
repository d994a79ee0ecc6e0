-- What a script can say of a swap.
use Rattle.std.proofs.Common.{◌≡◌, ℕ, ◌<◌, Bool, true, List, length}
use Rattle.std.proofs.lemmas.Bool.{ltb-true}
use Rattle.cell_script.specs.Script.{is_said}
use Rattle.cell_world.specs.declared.command.Command.TheVariants.{Swap}
use Rattle.cell_world.specs.declared.command.SwapItem.{SwapItem}

-- it names a cell
pub said_swap : (items : List SwapItem) (reexport strict : Bool) (routines : List (List ℕ)) (budget : ℕ) → is_said (Swap items reexport strict routines budget) ≡ true → 0 < length items
said_swap items reexport strict routines budget e = ltb-true 0 (length items) e
