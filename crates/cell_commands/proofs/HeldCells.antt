-- The cells that a faulted task holds.
use Rattle.std.proofs.Common.{◌≡◌, refl, sym, ◌∙◌, ap, subst, arith, ℕ, Bor, Bool, true, false, not, List, [], ◌∷◌, map, length, Option, None, Some, Ok}
use Rattle.std.specs.Prelude.{◌==◌, Err, Result, decimal, option_map}
use Rattle.std.proofs.lemmas.Bool.{eqb-true}
use Rattle.cell_world.specs.declared.fail.Fail.{Fail}
use Rattle.cell_world.specs.declared.refusal.Refusal.TheVariants.{NotFaulted, Unknown}
use Rattle.cell_world.specs.declared.state.NewCell.{NewCell}
use Rattle.cell_world.specs.Coherent.{IsCoherent}
use Rattle.cell_world.specs.Commands.Recovery.{faulted_task, rebuild_of}
use Rattle.cell_world.specs.Commands.Asked.{renewals}
use Rattle.cell_world.specs.Gather.{Source}
use Rattle.cell_world.specs.Outcome.{Outcome, ◌>>=◌, ◌>>◌, found, need}
use Rattle.cell_world.specs.Running.Words.{words_of}
use Rattle.cell_world.specs.World.{Cell, Region, Task, World, is_ready, task_of}
use Rattle.cell_space.specs.Joined.{placed_of}
use Rattle.cell_change.specs.declared.request.Change.{Change}
use Rattle.cell_commands.specs.Renewals.{AsksAnew, AsksFor, AsksRenewals}
use Rattle.cell_commands.proofs.Anew.{held_at, renewed_so}

-- none is found
pub none_held : (all : List Cell) (cells : List (Bor NewCell)) → map (λ c. c.now) cells ≡ map placed_of all → (length cells == 0) ≡ true → all ≡ []
none_held [] cells e empty = refl
none_held (c ∷ all) [] e empty = absurd (cc e)
none_held (c ∷ all) (b ∷ cells) e empty = let none = eqb-true (length (b ∷ cells)) 0 empty in absurd (omega (arith, none))

-- a task that has faulted is live
pub still_live : (w : World) (number : ℕ) (t : Task) → faulted_task w number ≡ Ok t → task_of w number ≡ Some t
still_live w number t e = go (task_of w number) refl e
  where
    needs : (u : Task) (b : Bool) → (need b (NotFaulted number) >> (let o : Outcome Task = Ok u in o)) ≡ Ok t → Some u ≡ Some t
    needs u true k = ap (λ (x : Outcome Task). elim x as (λ _. Option Task) [ Ok v ↦ Some v | Err r ↦ None ]) k
    needs u false k = absurd cc

    go : (o : Option Task) → task_of w number ≡ o → (found o (Unknown (decimal number)) >>= (λ u. need (not (is_ready u)) (NotFaulted number) >> Ok u)) ≡ Ok t → task_of w number ≡ Some t
    go None f k = absurd cc
    go (Some u) f k = f ∙ needs u (not (is_ready u)) k

pub with_held : (sources : List Source) (w : World) → IsCoherent w → (number : ℕ) (t : Task) → faulted_task w number ≡ Ok t → (cells : List (Bor NewCell)) → map (λ c. c.now) cells ≡ map placed_of (rebuild_of w t) → (length cells == 0) ≡ false
    → (result : Result Change Fail) → AsksRenewals sources (map (λ c. c.now) cells) number result → AsksFor sources w number rebuild_of result
with_held sources w h number t faulted cells are some result asks = go (rebuild_of w t) refl
  where
    nonempty : map (λ c. c.now) cells ≡ [] → ⊥
    nonempty e = empty cells e some
      where
        empty : (cs : List (Bor NewCell)) → map (λ c. c.now) cs ≡ [] → (length cs == 0) ≡ false → ⊥
        empty [] k s = cc s
        empty (b ∷ cs) k s = cc k

    go : (all : List Cell) → rebuild_of w t ≡ all → AsksFor sources w number rebuild_of result
    go [] e = absurd (nonempty (are ∙ ap (map placed_of) e))
    go (c ∷ all) e =
        renewed_so sources w number rebuild_of t faulted c all e result
        (subst (λ (cs : List Cell). AsksAnew sources w (renewals sources cs) (length cs) number result) e (asks w (rebuild_of w t) (held_at w h t (map (λ x. x.now) cells) (sym are))))

-- the words of the live task
pub some_words : (regions : List Region) (t : Task) (live : Option Task) (words : List ℕ) → live ≡ Some t → option_map (words_of regions) live ≡ Some words → words_of regions t ≡ words
some_words regions t live words e w = same (words_of regions t) words (ap (option_map (words_of regions)) (sym e) ∙ w)
  where
    same : (a b : List ℕ) → Some a ≡ Some b → a ≡ b
    same a b k = cc
