-- Numbers read where they were stored.
use Rattle.std.proofs.Common.{◌≡◌, ℕ, zero, suc, ◌+◌, ◌*◌, ◌/◌, ◌%◌, ◌^◌, ◌<◌, List, ◌++◌, length, drop, ap, ◌∙◌, arith}
use Rattle.std.proofs.Math.Nat.{pow-succ'}
use Rattle.std.proofs.Math.Seq.{drop-append-add, drop-append_seam}
use Rattle.byteorder.specs.Endian.{little_number, little_from}
use Rattle.byteorder.specs.Numbers.{little_from-cons}
use Rattle.cell_num.specs.Bits.{bytes_of}
use Rattle.cell_object.specs.Bytes.{number_at}
use Rattle.cell_object.specs.Rows.{stored}

-- the first bytes are a number's
bytes_number : (n v : ℕ) (ys : List ℕ) → v < 256 ^ n → little_from 0 n (bytes_of n v ++ ys) ≡ v
bytes_number zero v ys lt = omega (arith, lt)
bytes_number (suc n) v ys lt =
    let p : 256 ^ suc n ≡ 256 * 256 ^ n = pow-succ' 256 n in
    let less : v / 256 < 256 ^ n = omega (arith, p, lt) in
    let moved = little_from-cons 0 n (v % 256) (bytes_of n (v / 256) ++ ys) in
    let rest = bytes_number n (v / 256) ys less in
    omega (arith, moved, rest)

pub stored_number : (n v : ℕ) (ys : List ℕ) → v < 256 ^ n → little_number n (stored n v ++ ys) ≡ v
unfolding stored
stored_number n v ys lt = bytes_number n v ys lt

-- what stands behind the first bytes
pub number_behind : (n at off : ℕ) (xs ys : List ℕ) → at ≡ length xs → number_at n (at + off) (xs ++ ys) ≡ number_at n off ys
unfolding number_at
number_behind n at off xs ys e =
    ap (λ k. little_number n (drop (k + off) (xs ++ ys))) e ∙ ap (little_number n) (drop-append-add xs ys off)

pub number_at_seam : (n at : ℕ) (xs ys : List ℕ) → at ≡ length xs → number_at n at (xs ++ ys) ≡ number_at n 0 ys
unfolding number_at
number_at_seam n at xs ys e =
    ap (λ k. little_number n (drop k (xs ++ ys))) e ∙ ap (little_number n) (drop-append_seam xs ys)
