-- What a recovery asks for: fresh instances of cells from their own files, and that a task begins again.
--     wanted_anew sources w number set    the wants, by the cells that the faulted task of that number is to have renewed
--     AreAt w all placed                  these are attached cells of w, in these places
--     AddsRenewal sources placed old result new   the want of such a cell is added, or the refusal
--     AsksRenewals sources placed number result   the change that renews such cells, or the refusal
--     AsksFor sources w number set result         the change that renews the cells of the task, or the refusal
use Rattle.std.specs.Prelude.{[], ◌≡◌, ◌==◌, ◌≤◌, ◌<◌, ℕ, not, All, IsTrue, List, Result, Ok, Err, length, map}
use Rattle.cell_num.specs.Lists.{In}
use Rattle.cell_world.specs.declared.fail.Fail.{Fail}
use Rattle.cell_world.specs.declared.refusal.Refusal.TheVariants.{NoCrate}
use Rattle.cell_world.specs.declared.state.NewCell.{NewCell}
use Rattle.cell_world.specs.Change.{Want as Wanted}
use Rattle.cell_world.specs.Commands.Asked.{renewal, renewals, renewing}
use Rattle.cell_world.specs.Commands.Recovery.{faulted_task}
use Rattle.cell_world.specs.Following.{FailsAs}
use Rattle.cell_world.specs.Gather.{Source}
use Rattle.cell_world.specs.Outcome.{Outcome, ◌>>=◌, ◌>>◌, need}
use Rattle.cell_world.specs.World.{Cell, Task, World, is_attached}
use Rattle.cell_space.specs.Joined.{placed_of}
use Rattle.cell_change.specs.declared.request.Change.{Change}
use Rattle.cell_change.specs.Asking.{IsAsked, as_said}
use Rattle.cell_commands.specs.Items.{AddsWant}

abbrev pub renewed_cells : List Source → World → (World → Task → List Cell) → Task → Outcome (List Wanted)
renewed_cells sources w set t = need (not (length (set w t) == 0)) (NoCrate t.number t.pc) >> renewals sources (set w t)

abbrev pub wanted_anew : List Source → World → ℕ → (World → Task → List Cell) → Outcome (List Wanted)
wanted_anew sources w number set = faulted_task w number >>= renewed_cells sources w set

pub record IsAt (w : World) (c : Cell) (placed : NewCell) : Type 0 where
  pub is : c.placed ≡ placed
  pub known : c.ns < length w.namespaces
  pub attached : IsTrue (is_attached c.standing)

pub record AreAt (w : World) (all : List Cell) (placed : List NewCell) : Type 0 where
  pub are : map placed_of all ≡ placed
  pub there : All (λ c. In c w.cells) all
  pub known : All (λ c. c.ns < length w.namespaces) all
  pub attached : All (λ c. IsTrue (is_attached c.standing)) all

abbrev pub AddsRenewal : List Source → NewCell → Change → Result (Unit {0}) Fail → Change → Type 0
AddsRenewal sources placed old result new =
    (w : World) (c : Cell) → In c w.cells → IsAt w c placed → AddsWant sources w (renewal sources c) old result new

-- what is asked for, and how
pub record AreAskedAnew (sources : List Source) (w : World) (all : Outcome (List Wanted)) (count number : ℕ) (change : Change) : Type 0 where
  pub asked : IsAsked sources w change
  pub all_are : all ≡ Ok asked.wants
  pub none : asked.copies ≡ []
  pub enough : count ≤ length change.replaced.items
  pub said : (wants : List Wanted) → as_said change.options wants [] ≡ renewing wants number

abbrev pub AsksAnew : List Source → World → Outcome (List Wanted) → ℕ → ℕ → Result Change Fail → Type 0
AsksAnew sources w all count number (Ok change) = AreAskedAnew sources w all count number change
AsksAnew sources w all count number (Err fail) = FailsAs fail all

abbrev pub AsksRenewals : List Source → List NewCell → ℕ → Result Change Fail → Type 0
AsksRenewals sources placed number result =
    (w : World) (all : List Cell) → AreAt w all placed → AsksAnew sources w (renewals sources all) (length all) number result

abbrev pub AsksFor : List Source → World → ℕ → (World → Task → List Cell) → Result Change Fail → Type 0
AsksFor sources w number set result = AsksAnew sources w (wanted_anew sources w number set) 1 number result
