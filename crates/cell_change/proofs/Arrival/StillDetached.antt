-- The cells that are put aside, listed one after another.
use Rattle.std.proofs.Common.{◌≡◌, refl, sym, ◌∙◌, ap, ap₂, ℕ, ◌+◌, Bool, cond, not, List, [], ◌∷◌, ◌++◌, append-nil, take}
use Rattle.std.specs.Prelude.{Option, filter, flat_map}
use Rattle.std.proofs.lemmas.Grind.{flat_map-append}
use Rattle.cell_num.specs.declared.ids.CellId.{CellId}
use Rattle.cell_world.specs.declared.state.NewCell.{NewCell}
use Rattle.cell_world.specs.Answer.{ids, numbers_of}
use Rattle.cell_world.specs.Commands.MapCommand.{group_of}
use Rattle.cell_world.specs.World.{Cell, Standing, is_attached}
use Rattle.cell_world.specs.declared.state.Standing.TheVariants.{Attached, Detached}
use Rattle.cell_change.specs.Exchanged.{unless_attached}

abbrev pub detached : Cell → List CellId
detached c = unless_attached c.id (group_of c.standing)

pub one_more : (cells : List Cell) (n : ℕ) (c : Cell) → take (n + 1) cells ≡ take n cells ++ c ∷ [] → (x : NewCell) → c.placed ≡ x → (group : Option ℕ) → group ≡ group_of c.standing
    → (old new : List CellId) → old ≡ flat_map detached (take n cells) → new ≡ old ++ unless_attached x.id group → new ≡ flat_map detached (take (n + 1) cells)
one_more cells n c next x placed group is old new so_far added =
    added
    ∙ (ap₂ (λ (xs : List CellId) (g : Option ℕ). xs ++ unless_attached x.id g) so_far is
    ∙ (ap (λ (y : NewCell). flat_map detached (take n cells) ++ unless_attached y.id (group_of c.standing)) (sym placed)
    ∙ (ap (λ (xs : List CellId). flat_map detached (take n cells) ++ xs) (sym (append-nil (detached c)))
    ∙ (sym (flat_map-append detached (take n cells) (c ∷ [])) ∙ ap (flat_map detached) (sym next)))))

abbrev is_out : Cell → Bool
is_out c = not (is_attached c.standing)

pub all_detached : (cells : List Cell) → flat_map detached cells ≡ ids (numbers_of (filter is_out cells))
all_detached [] = refl
all_detached (c ∷ cells) = go c.standing (all_detached cells)
  where
    go : (standing : Standing) → flat_map detached cells ≡ ids (numbers_of (filter is_out cells))
        → unless_attached c.id (group_of standing) ++ flat_map detached cells ≡ ids (numbers_of (cond (not (is_attached standing)) (c ∷ filter is_out cells) (filter is_out cells)))
    go Attached e = e
    go (Detached k) e = ap (λ (xs : List CellId). c.id ∷ xs) e
