-- How many words a command has.
use Rattle.std.proofs.Common.{◌≡◌, ℕ, ◌<◌, List, [], ◌∷◌, Bor, None, map, length, arith, refl, ◌⊎◌, inl, inr}
use Rattle.std.specs.declared.option.Option.{Option}
use Rattle.cell_world.specs.declared.command.Command.{Command}
use Rattle.cell_script.specs.Grammar.{all_three}

-- fewer than three words, or more, are no three words
pub not_three : {A B C : Type 0} (one : List ℕ → Option A) (other : List ℕ → Option B) (last : List ℕ → Option C) (command : A → B → C → Command) (words : List (Bor (List ℕ)))
    → (length words < 3) ⊎ (3 < length words) → None ≡ all_three one other last command (map (λ word. word.now) words)
not_three one other last command [] count = refl
not_three one other last command (a ∷ []) count = refl
not_three one other last command (a ∷ b ∷ []) count = refl
not_three one other last command (a ∷ b ∷ c ∷ []) (inl few) = absurd (omega (arith, few))
not_three one other last command (a ∷ b ∷ c ∷ []) (inr many) = absurd (omega (arith, many))
not_three one other last command (a ∷ b ∷ c ∷ d ∷ words) count = refl
