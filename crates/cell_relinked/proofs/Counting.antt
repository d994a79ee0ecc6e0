-- Numbers from 0 on, one more.
use Rattle.std.proofs.Common.{◌≡◌, sym, ◌∙◌, ap, arith, ℕ, zero, suc, ◌+◌, List, [], ◌∷◌, ◌++◌, map}
use Rattle.std.proofs.lemmas.List.{map-append}
use Rattle.cell_num.specs.Lists.{from_on, upto}

from_more : (a n : ℕ) → from_on a (suc n) ≡ from_on a n ++ (a + n) ∷ []
from_more a zero = let same : a ≡ a + 0 = omega arith in ap (λ k. k ∷ []) same
from_more a (suc n) = ap (λ ks. a ∷ ks) (from_more (suc a) n ∙ ap (λ k. from_on (suc a) n ++ k ∷ []) (let same : suc a + n ≡ a + suc n = omega arith in same))

upto_more : (n : ℕ) → upto (n + 1) ≡ upto n ++ n ∷ []
upto_more n = ap upto (let next : n + 1 ≡ suc n = omega arith in next) ∙ (from_more 0 n ∙ ap (λ k. upto n ++ k ∷ []) (let same : 0 + n ≡ n = omega arith in same))

pub one_told : (f : ℕ → ℕ) (n : ℕ) (old new : List ℕ) (b : ℕ) → b ≡ f n → new ≡ old ++ b ∷ [] → old ≡ map f (upto n) → new ≡ map f (upto (n + 1))
one_told f n old new b is added far =
    added
    ∙ (ap (λ (bs : List ℕ). bs ++ b ∷ []) far
    ∙ (ap (λ c. map f (upto n) ++ c ∷ []) is
    ∙ (sym (map-append f (upto n) (n ∷ [])) ∙ ap (map f) (sym (upto_more n)))))
