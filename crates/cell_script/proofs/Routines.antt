-- Where the routines of a swap end.
use Rattle.std.proofs.Common.{◌≡◌, refl, arith, ℕ, ◌<◌, false, List, [], ◌∷◌, ◌⊎◌, inl, inr, Bor, get_or, length, map}
use Rattle.std.specs.Prelude.{bytes_eq, codes}
use Rattle.cell_script.specs.Grammar.{after_routines, routine_words}
use Rattle.cell_script.proofs.Lines.{no_text}

-- no routine stands in front
pub record IsBehindRoutines (words : List (List ℕ)) : Type 0 where
  pub none : routine_words words ≡ []
  pub all : after_routines words ≡ words

pub is_behind : (words : List (Bor (List ℕ))) → (length words < 2) ⊎ (bytes_eq (get_or words 0 no_text).now (codes "transfer") ≡ false) → IsBehindRoutines (map (λ word. word.now) words)
is_behind [] ends = record { none = refl; all = refl }
is_behind (a ∷ []) ends = record { none = refl; all = refl }
is_behind (a ∷ b ∷ words) (inl few) = absurd (omega (arith, few))
is_behind (a ∷ b ∷ words) (inr other) = record { none = rw other refl; all = rw other refl }
