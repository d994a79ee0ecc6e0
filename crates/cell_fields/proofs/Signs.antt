-- A shift to the right leaves the upper bits with their sign.
use Rattle.std.proofs.Common.{◌≡◌, ℕ, suc, ◌-◌, ◌/◌, ◌%◌, ◌^◌, ◌<◌, ◌≤◌, Bool, true, false, ap, refl, arith}
use Rattle.std.specs.Prelude.{nat_lt, ℤ, pos, negsuc, ◌-ℤ◌, if◌then◌else◌}
use Rattle.std.specs.Int.{cast_signed, int_shr, w32}
use Rattle.std.proofs.lemmas.Int.{ints}
use Rattle.std.proofs.lemmas.Bool.Decides.{nat_tests}
use Rattle.cell_num.specs.Bits.{bits_at}
use Rattle.cell_isa.specs.declared.format.Format.TheVariants.{Immediate}
use Rattle.cell_isa.specs.Instruction.{signed_bits, immediate}
use Rattle.cell_isa.proofs.Signs.{lt_of, lt_true}

lt_false : (m n : ℕ) → n ≤ m → nat_lt m n ≡ false
lt_false m n h = grind (arith, nat_tests)

le_of : (m n : ℕ) → nat_lt m n ≡ false → n ≤ m
le_of m n h = grind (arith, nat_tests)

taken : (n p : ℕ) → n < p → pos n -ℤ pos p ≡ negsuc (p - 1 - n)
taken n p h = omega (arith, ints)

by_sign : (w : ℕ) (b : Bool) → w < 2 ^ 32 → nat_lt w (2 ^ 31) ≡ b → int_shr (if b then pos w else negsuc (2 ^ 32 - suc w)) 20 ≡ signed_bits 12 (w / 2 ^ 20 % 2 ^ 12)
by_sign w true h e =
    let s : w < 2 ^ 31 = lt_of w (2 ^ 31) e in
    rw (lt_true (w / 2 ^ 20 % 2 ^ 12) 2048 (omega arith)) (ap pos (omega arith))
by_sign w false h e =
    let s : 2 ^ 31 ≤ w = le_of w (2 ^ 31) e in
    rw (lt_false (w / 2 ^ 20 % 2 ^ 12) 2048 (omega arith), taken (w / 2 ^ 20 % 2 ^ 12) 4096 (omega arith)) (ap negsuc (omega arith))

pub upper_twelve : (w : ℕ) → w < 2 ^ 32 → int_shr (cast_signed w32 w) 20 ≡ immediate Immediate w
upper_twelve w h = by_sign w (nat_lt w (2 ^ 31)) h refl
