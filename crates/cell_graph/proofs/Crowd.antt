-- How many places a chain can have.
use Rattle.std.proofs.Common.{◌≡◌, inl, inr, ℕ, zero, suc, ◌<◌, ◌≤◌, true, cond, List, [], ◌∷◌, Option, None, is_some, length, get_or, set, count_by, refl, ap, ◌∙◌, arith}
use Rattle.std.proofs.lemmas.List.{get_or-set_other, get_or_past}
use Rattle.std.proofs.lemmas.List.Sums.{sum_by-set}
use Rattle.cell_graph.specs.Chains.{Has, IsApart}
use Rattle.cell_graph.proofs.Linked.{lacks_has}

module _ {T : Type 0} where
  within : (slots : List (Option T)) (p : ℕ) → is_some (get_or slots p None) ≡ true → p < length slots
  within slots p full = grind (arith, get_or_past)

  -- no more places stand apart and have a value than there are values
  pub crowd : (places : List ℕ) (slots : List (Option T)) → IsApart places → ((p : ℕ) → Has places p → is_some (get_or slots p None) ≡ true)
      → length places ≤ count_by is_some slots
  crowd [] slots apart full = omega arith
  crowd (p ∷ places) slots apart full =
      let here = full p (inl refl) in
      let count = sum_by-set (λ o. cond (is_some o) 1 0) slots p None None (within slots p here) in
      let one : cond (is_some (get_or slots p None)) 1 0 ≡ suc zero = ap (λ b. cond b 1 0) here in
      let later = crowd places (set slots p None) apart.1 (λ q has. ap is_some (get_or-set_other slots p q None None (lacks_has places p q apart.0 has)) ∙ full q (inr has)) in
      omega (arith, count, one, later)
