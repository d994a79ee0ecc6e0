-- What is left to look at, one cell after another.
use Rattle.std.proofs.Common.{◌≡◌, sym, ◌∙◌, ap, ℕ, ◌<◌, ◌≤◌, ◌+◌, List, map, length, drop, get_or}
use Rattle.std.specs.Prelude.{Option, Some, None}
use Rattle.std.proofs.lemmas.List.{drop_all, drop_more}
use Rattle.cell_num.specs.declared.ids.CellId.{CellId}
use Rattle.cell_num.specs.Lists.{or_else}
use Rattle.cell_world.specs.declared.refusal.Refusal.{Refusal}
use Rattle.cell_world.specs.Kept.{Holding}
use Rattle.cell_world.specs.Commands.UnloadCommand.{first_held}
use Rattle.cell_unload.specs.Sweep.{refusal_of}

module _ (h : Holding) where
  abbrev pub held_in : List CellId → Option Refusal
  held_in cells = first_held h (map (λ (c : CellId). c.0) cells)

  pub held_first : (cells : List CellId) (i : ℕ) (d : CellId) (r : Refusal) → i < length cells → Some r ≡ refusal_of h (get_or cells i d).0
      → held_in cells ≡ held_in (drop i cells) → Some r ≡ held_in cells
  held_first cells i d r lt k e =
      sym (e ∙ (ap held_in (drop_more cells i d lt) ∙ ap (λ (o : Option Refusal). or_else o (held_in (drop (i + 1) cells))) (sym k)))

  pub held_later : (cells : List CellId) (i : ℕ) (d : CellId) → i < length cells → None ≡ refusal_of h (get_or cells i d).0
      → held_in cells ≡ held_in (drop i cells) → held_in cells ≡ held_in (drop (i + 1) cells)
  held_later cells i d lt k e =
      e ∙ (ap held_in (drop_more cells i d lt) ∙ ap (λ (o : Option Refusal). or_else o (held_in (drop (i + 1) cells))) (sym k))

-- where none of the cells is left, none is kept
pub ended : (h : Holding) (cells : List CellId) (i : ℕ) → length cells ≤ i → held_in h cells ≡ held_in h (drop i cells) → None ≡ held_in h cells
ended h cells i le e = sym (e ∙ ap (held_in h) (drop_all i cells le))
