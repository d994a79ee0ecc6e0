-- The cell that a task stands in, as it is found among the attached cells.
use Rattle.std.proofs.Common.{◌≡◌, ◌∙◌, ap, ℕ, Bor, List, [], map, take, None, Some}
use Rattle.std.specs.Prelude.{filter, find}
use Rattle.cell_world.specs.Commands.Recovery.{runs_at}
use Rattle.cell_world.specs.declared.state.NewCell.{NewCell}
use Rattle.cell_world.specs.World.{World, attached, is_attached}
use Rattle.cell_space.specs.Joined.{placed_of}
use Rattle.cell_commands.proofs.Renewing.{IsFirst, first_taken, none_taken}

module _ (w : World) (pc : ℕ) (cells : List (Bor NewCell)) (are : map (λ c. c.now) cells ≡ map placed_of (filter (λ c. is_attached c.standing) w.cells)) where
  found_in : (given : List (Bor NewCell)) → given ≡ cells → find (λ p. runs_at pc (attached p)) (map (λ c. c.now) given) ≡ find (λ p. runs_at pc (attached p)) (map placed_of (filter (λ c. is_attached c.standing) w.cells))
  found_in given same = ap (λ (cs : List (Bor NewCell)). find (λ p. runs_at pc (attached p)) (map (λ c. c.now) cs)) same ∙ ap (find (λ p. runs_at pc (attached p))) are

  pub first_cell : (p : NewCell) (given : List (Bor NewCell)) → given ≡ cells → Some p ≡ find (λ p. runs_at pc (attached p)) (map (λ c. c.now) given) → IsFirst pc w.cells p
  first_cell p given same e = first_taken pc w.cells p (e ∙ found_in given same)

  pub no_cell : (given : List (Bor NewCell)) → given ≡ cells → None ≡ find (λ p. runs_at pc (attached p)) (map (λ c. c.now) given) → take 1 (filter (runs_at pc) w.cells) ≡ []
  no_cell given same e = none_taken pc w.cells (e ∙ found_in given same)
