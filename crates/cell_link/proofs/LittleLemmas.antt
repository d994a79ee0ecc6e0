-- Numbers of few bytes.
use Rattle.std.proofs.Common.{◌≡◌, ℕ, zero, suc, ◌+◌, ◌-◌, ◌*◌, ◌<◌, ◌≤◌, ◌^◌, List, [], ◌∷◌, length, get_or, take, drop, length-drop, arith}
use Rattle.cell_num.specs.Bits.{little}
use Rattle.std.proofs.lemmas.List.{length-take}

small_below : (number n : ℕ) → number < 256 ^ n → n ≤ 7 → number < 2 ^ 56
small_below number zero h k = omega arith
small_below number (suc zero) h k = omega arith
small_below number (suc (suc zero)) h k = omega arith
small_below number (suc (suc (suc zero))) h k = omega arith
small_below number (suc (suc (suc (suc zero)))) h k = omega arith
small_below number (suc (suc (suc (suc (suc zero))))) h k = omega arith
small_below number (suc (suc (suc (suc (suc (suc zero)))))) h k = omega arith
small_below number (suc (suc (suc (suc (suc (suc (suc zero))))))) h k = omega arith
small_below number (suc (suc (suc (suc (suc (suc (suc (suc n)))))))) h k = omega arith

-- the number of all bytes but the first
pub rest_small : (bytes : List ℕ) (number : ℕ) → number < 256 ^ length (take (length bytes - 1) (drop 1 bytes)) → length bytes ≤ 8 → number < 2 ^ 56
rest_small bytes number h k =
    small_below number (length (take (length bytes - 1) (drop 1 bytes))) h (omega (arith, length-take (length bytes - 1) (drop 1 bytes), length-drop 1 bytes))

-- the number that eight bytes spell
pub eight : (bytes : List ℕ) (number : ℕ) → length bytes ≡ 8
    → number ≡ get_or bytes 0 0 + get_or bytes 1 0 * 256 + get_or bytes 2 0 * 65536 + get_or bytes 3 0 * 16777216 + get_or bytes 4 0 * 4294967296 + get_or bytes 5 0 * 1099511627776 + get_or bytes 6 0 * 281474976710656 + get_or bytes 7 0 * 72057594037927936
    → number ≡ little bytes
eight [] number l is = absurd cc
eight (a ∷ []) number l is = absurd cc
eight (a ∷ b ∷ []) number l is = absurd cc
eight (a ∷ b ∷ c ∷ []) number l is = absurd cc
eight (a ∷ b ∷ c ∷ d ∷ []) number l is = absurd cc
eight (a ∷ b ∷ c ∷ d ∷ e ∷ []) number l is = absurd cc
eight (a ∷ b ∷ c ∷ d ∷ e ∷ f ∷ []) number l is = absurd cc
eight (a ∷ b ∷ c ∷ d ∷ e ∷ f ∷ g ∷ []) number l is = absurd cc
eight (a ∷ b ∷ c ∷ d ∷ e ∷ f ∷ g ∷ h ∷ []) number l is = omega (arith, is)
eight (a ∷ b ∷ c ∷ d ∷ e ∷ f ∷ g ∷ h ∷ i ∷ rest) number l is = absurd cc
