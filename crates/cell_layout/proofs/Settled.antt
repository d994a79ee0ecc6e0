-- Cells that are put in their places, one after another.
use Rattle.std.proofs.Common.{◌≡◌, refl, sym, ◌∙◌, ap, arith, ℕ, ◌≤◌, List, [], ◌∷◌, length, Option, Ok}
use Rattle.cell_world.specs.Outcome.{Outcome}
use Rattle.cell_place.specs.Space.{SpaceState}
use Rattle.cell_layout.specs.declared.cells.TakenRuns.{TakenRuns}
use Rattle.cell_layout.specs.declared.placements.Placements.{Placements}
use Rattle.cell_layout.specs.Placing.{FindsExtra, extra_start}
use Rattle.cell_world.specs.declared.layout.Starts.{Starts}
use Rattle.cell_world.specs.declared.state.NewCell.{NewCell}
use Rattle.cell_world.specs.declared.state.SecPlace.{SecPlace}
use Rattle.cell_layout.specs.Many.{AreFound, ArePlaced, all_in_places, all_places, in_places, with_places}

-- the cells of these starts
settled_as : (starts : List Starts) (cells : List NewCell) → length starts ≡ length cells → with_places (all_places starts cells) cells ≡ all_in_places starts cells
settled_as [] [] long = refl
settled_as [] (c ∷ cells) long = absurd (omega (arith, long))
settled_as (s ∷ starts) [] long = absurd (omega (arith, long))
settled_as (s ∷ starts) (c ∷ cells) long = ap (λ (cs : List NewCell). in_places s c ∷ cs) (settled_as starts cells (omega (arith, long)))

places_for : (starts : List Starts) (cells : List NewCell) → length starts ≡ length cells → length (all_places starts cells) ≡ length cells
places_for [] [] long = refl
places_for [] (c ∷ cells) long = absurd (omega (arith, long))
places_for (s ∷ starts) [] long = absurd (omega (arith, long))
places_for (s ∷ starts) (c ∷ cells) long = let rest = places_for starts cells (omega (arith, long)) in omega (arith, rest)

-- the cells' runs, then the extra one
module _ (old mid : SpaceState) (from : List NewCell) (pages : ℕ) (p : Placements) (found : AreFound old from p mid) where
  pub enough : length p.places.items ≤ length from
  enough = omega (arith, ap length found.places, places_for found.starts from found.each)

  pub placed : (start : Option ℕ) (now : List NewCell) (taken : TakenRuns) → FindsExtra mid pages (Ok start) → now ≡ with_places p.places.items from
      → taken.regions.items ≡ p.regions.items → taken.extra ≡ start → ArePlaced old from pages taken mid now
  placed start now taken extra cells regions is = record {
    starts = found.starts;
    each = found.each;
    runs = found.runs;
    extra = ap (λ b. extra_start b mid.taken pages) (sym found.base) ∙ (extra ∙ ap (λ (s : Option ℕ). let o : Outcome (Option ℕ) = Ok s in o) (sym is));
    base = found.base;
    few = found.few;
    cells = cells ∙ (ap (λ (ps : List (List SecPlace)). with_places ps from) found.places ∙ settled_as found.starts from found.each);
    regions = regions ∙ found.regions;
  }
