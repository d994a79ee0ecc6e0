-- A new cell behind all others.
use Rattle.std.proofs.Common.{◌≡◌, refl, ap, ◌∙◌, ℕ, ◌<◌, true, cond, List, [], ◌∷◌, ◌++◌, Some, None, length, arith, subst}
use Rattle.std.specs.Prelude.{All, Option, find}
use Rattle.std.proofs.lemmas.List.Elements.{All-head, All-push, All-tail}
use Rattle.std.proofs.lemmas.Bool.{ne_eqb, le-ltb}
use Rattle.cell_world.specs.declared.state.Namespace.{Namespace}
use Rattle.cell_world.specs.declared.state.Standing.TheVariants.{Attached}
use Rattle.cell_space.specs.declared.cell.SpaceCell.{SpaceCell}
use Rattle.cell_space.specs.declared.index.Holder.{Holder}
use Rattle.cell_space.specs.Ahead.{AreAhead}
use Rattle.cell_space.specs.Index.{Grows, IsListed}
use Rattle.cell_space.specs.Named.{is_in, is_numbered, with_cell, cell_numbered}
use Rattle.cell_space.specs.Spaces.{SpacesState, AreKept}
use Rattle.cell_space.proofs.Holding.{whole_more}
use Rattle.cell_space.proofs.Keeping.{kept_with}

module _ (n : ℕ) where
  abbrev pub Below : SpaceCell → Type 0
  Below c = c.cell.0 < n

  pub new_number : (cells : List SpaceCell) → All Below cells → cell_numbered cells n ≡ None
  new_number [] all = refl
  new_number (c ∷ cells) all =
      let lt = All-head Below c cells all in
      ap (λ b. cond b (Some c) (find (is_numbered n) cells)) (ne_eqb c.cell.0 n (λ e. omega (arith, lt, e)))
      ∙ new_number cells (All-tail Below c cells all)

  pub stands_last : (c : SpaceCell) (cells : List SpaceCell) → c.cell.0 ≡ n → All Below cells → with_cell c cells ≡ cells ++ c ∷ []
  stands_last c [] e all = refl
  stands_last c (d ∷ cells) e all =
      let lt = All-head Below d cells all in
      ap (λ b. cond b (c ∷ d ∷ cells) (d ∷ with_cell c cells)) (le-ltb c.cell.0 d.cell.0 (omega (arith, lt, e)))
      ∙ ap (λ ds. d ∷ ds) (stands_last c cells e (All-tail Below d cells all))

  pub below_later : (front cells : List SpaceCell) → All Below (front ++ cells) → All Below cells
  below_later [] cells all = all
  below_later (c ∷ front) cells all = below_later front cells (All-tail Below c (front ++ cells) all)

module _ (present : SpacesState) (namespaces : List Namespace) (fresh : List SpaceCell) (f : ℕ → ℕ → Option Holder) (ahead : AreAhead present namespaces fresh f) where
  -- the index takes in more
  pub ahead_more : (g : ℕ → ℕ → Option Holder) (n : ℕ) → Grows fresh n f g → AreAhead present namespaces fresh g
  ahead_more g n grows = record {
    same = ahead.same;
    attached = ahead.attached;
    kept = record { sound = ahead.kept.sound; rising = ahead.kept.rising; whole = whole_more fresh ahead.kept.rising n f g grows ahead.kept.whole };
  }

  -- and one more cell
  pub ahead_with : (g : ℕ → ℕ → Option Holder) (c : SpaceCell) → c.ns < length namespaces → All (Below c.cell.0) fresh → Grows fresh c.cell.0 f g → IsListed g c → is_in Attached c ≡ true
      → AreAhead present namespaces (fresh ++ c ∷ []) g
  ahead_with g c there below grows listed on = record {
    same = ahead.same;
    attached = All-push (λ (d : SpaceCell). is_in Attached d ≡ true) fresh c ahead.attached on;
    kept = subst (λ cells. AreKept namespaces cells g) (stands_last c.cell.0 c fresh refl below)
        (kept_with namespaces fresh f ahead.kept g c there (new_number c.cell.0 fresh below) grows listed);
  }
