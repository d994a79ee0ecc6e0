-- Numbers as bytes, one byte more.
use Rattle.std.proofs.Common.{◌≡◌, ℕ, zero, suc, ◌+◌, ◌-◌, ◌/◌, ◌%◌, ◌<◌, ◌≤◌, List, [], ◌∷◌, ◌++◌, sym, ap, ◌∙◌, arith, append_assoc, append-nil}
use Rattle.cell_num.specs.Bits.{bytes_of}

pub first_byte : (k n : ℕ) → 0 < k → bytes_of k n ≡ n % 256 ∷ bytes_of (k - 1) (n / 256)
first_byte zero n h = absurd (omega (arith, h))
first_byte (suc k) n h = let e : k ≡ suc k - 1 = omega arith in ap (λ j. n % 256 ∷ bytes_of j (n / 256)) e

-- the bytes so far and those that are left are the whole, one byte later
pub byte_put : (old new whole : List ℕ) (count i n : ℕ) → i < count → new ≡ old ++ (n % 256 ∷ []) → old ++ bytes_of (count - i) n ≡ whole → new ++ bytes_of (count - (i + 1)) (n / 256) ≡ whole
byte_put old new whole count i n lt e far =
    let k : count - (i + 1) ≡ (count - i) - 1 = omega arith in
    ap (λ v. v ++ bytes_of (count - (i + 1)) (n / 256)) e
    ∙ append_assoc old (n % 256 ∷ []) (bytes_of (count - (i + 1)) (n / 256))
    ∙ ap (λ j. old ++ (n % 256 ∷ bytes_of j (n / 256))) k
    ∙ ap (λ v. old ++ v) (sym (first_byte (count - i) n (omega arith)))
    ∙ far

pub bytes_put : (old whole : List ℕ) (count i n : ℕ) → count ≤ i → old ++ bytes_of (count - i) n ≡ whole → old ≡ whole
bytes_put old whole count i n le far =
    let z : 0 ≡ count - i = omega arith in
    sym (append-nil old) ∙ ap (λ j. old ++ bytes_of j n) z ∙ far
