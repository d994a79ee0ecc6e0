-- What the words of a swap ask for.
--     ending_for strict, options_of words   how the change ends, and what it does
--     old_placed w item                  the cell that an item replaces
--     Asks sources v all count o result  the change that asks for all these wants, which replaces that many cells, or the refusal
--     AddsWant sources v one old result new   the same of one want more
use Rattle.std.specs.Prelude.{◌≡◌, ◌≤◌, ◌++◌, ◌∷◌, [], ℕ, Bool, List, Some, Result, Ok, Err, length, if◌then◌else◌}
use Rattle.cell_world.specs.declared.command.SwapItem.{SwapItem}
use Rattle.cell_world.specs.declared.fail.Fail.{Fail}
use Rattle.cell_world.specs.declared.state.NewCell.{NewCell}
use Rattle.cell_world.specs.Change.{Want as Wanted}
use Rattle.cell_world.specs.Following.{FailsAs}
use Rattle.cell_world.specs.Gather.{Source}
use Rattle.cell_world.specs.Outcome.{Outcome, ◌>>=◌}
use Rattle.cell_world.specs.Commands.UnloadCommand.{attached_cell}
use Rattle.cell_world.specs.World.{Cell, World}
use Rattle.cell_gather.specs.declared.want.Want.{Want}
use Rattle.cell_change.specs.declared.request.Change.{Change}
use Rattle.cell_change.specs.declared.request.Ending.{Ending}
use Rattle.cell_change.specs.declared.request.Ending.TheVariants.{Lenient, Strict}
use Rattle.cell_change.specs.declared.request.Options.{Options}
use Rattle.cell_change.specs.Asking.{IsAsked, IsWantOf}
use Rattle.cell_commands.specs.declared.swapping.SwapWords.{SwapWords}

abbrev pub ending_for : Bool → Ending
ending_for strict = if strict then Strict else Lenient

abbrev pub options_of : SwapWords → Options
options_of words = record { reexport = words.reexport; routines = words.routines; budget = words.budget; ending = ending_for words.strict }

-- the attached cell that an item names, in its places
abbrev pub old_placed : World → SwapItem → Outcome NewCell
old_placed w item = attached_cell w (record { ns = item.ns; stem = item.stem }) >>= (λ c. Ok c.placed)

pub record AreAsked (sources : List Source) (v : World) (all : Outcome (List Wanted)) (count : ℕ) (o : Options) (change : Change) : Type 0 where
  pub asked : IsAsked sources v change
  pub all_are : all ≡ Ok asked.wants
  pub none : asked.copies ≡ []
  pub enough : count ≤ length change.replaced.items
  pub options : change.options ≡ o

abbrev pub Asks : List Source → World → Outcome (List Wanted) → ℕ → Options → Result Change Fail → Type 0
Asks sources v all count o (Ok change) = AreAsked sources v all count o change
Asks sources v all count o (Err fail) = FailsAs fail all

pub record HasWant (sources : List Source) (v : World) (one : Outcome Wanted) (old new : Change) : Type 0 where
  pub wanted : Wanted
  pub cell : Cell
  pub want : Want
  pub is : one ≡ Ok wanted
  pub of : IsWantOf sources v wanted want
  pub replaces : wanted.replaces ≡ Some cell
  pub wants : new.wants.items ≡ old.wants.items ++ want ∷ []
  pub numbers : new.replaced.items ≡ old.replaced.items ++ cell.id ∷ []
  pub copies : new.copies.items ≡ old.copies.items
  pub options : new.options ≡ old.options

abbrev pub AddsWant : List Source → World → Outcome Wanted → Change → Result (Unit {0}) Fail → Change → Type 0
AddsWant sources v one old (Ok done) new = HasWant sources v one old new
AddsWant sources v one old (Err fail) new = FailsAs fail one
