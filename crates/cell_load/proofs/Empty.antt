-- Lists that are tested for being empty.
use Rattle.std.proofs.Common.{◌≡◌, ◌<◌, refl, true, false, arith, List, [], ◌∷◌, length}
use Rattle.std.specs.Prelude.{◌==◌}
use Rattle.std.proofs.lemmas.Bool.{eqb-true}

pub empty_if : {X : Type 0} (xs : List X) → (length xs == 0) ≡ true → xs ≡ []
empty_if [] e = refl
empty_if (x ∷ xs) e = absurd (omega (arith, eqb-true (length (x ∷ xs)) 0 e))

pub some_if : {X : Type 0} (xs : List X) → (length xs == 0) ≡ false → 0 < length xs
some_if [] e = absurd (cc e)
some_if (x ∷ xs) e = omega arith
