-- Signed immediates, and their low bits.
use Rattle.std.proofs.Common.{◌≡◌, ℕ, ◌-◌, ◌%◌, ◌^◌, ◌<◌, ◌≤◌, Bool, true, false, ap, refl, arith}
use Rattle.std.specs.Prelude.{nat_lt, ◌==◌, ℤ, pos, negsuc, ◌-ℤ◌, if◌then◌else◌, ◌&&◌}
use Rattle.std.proofs.lemmas.Int.{ints}
use Rattle.std.proofs.lemmas.Bool.{and_from, eqb-true, false≢true}
use Rattle.std.proofs.lemmas.Bool.Decides.{nat_tests}
use Rattle.cell_num.specs.Bits.{modulo_2}
use Rattle.cell_isa.specs.Instruction.{signed_bits, is_within, is_even}

pub lt_of : (m n : ℕ) → nat_lt m n ≡ true → m < n
lt_of m n h = grind (arith, nat_tests)

pub lt_true : (m n : ℕ) → m < n → nat_lt m n ≡ true
lt_true m n h = grind (arith, nat_tests)

lt_false : (m n : ℕ) → n ≤ m → nat_lt m n ≡ false
lt_false m n h = grind (arith, nat_tests)

le_of : (m n : ℕ) → nat_lt m n ≡ false → n ≤ m
le_of m n h = grind (arith, nat_tests)

taken : (n p : ℕ) → n < p → pos n -ℤ pos p ≡ negsuc (p - 1 - n)
taken n p h = omega (arith, ints)

-- the low bits of a signed number are those that it was read from, at 12, 13 and 21 bits
low_12_by : (n : ℕ) (b : Bool) → nat_lt n 2048 ≡ b → n < 4096 → modulo_2 32 (if b then pos n else pos n -ℤ pos 4096) % 4096 ≡ n
low_12_by n true e h = omega arith
low_12_by n false e h = rw (taken n 4096 h) (omega arith)

pub low_12 : (n : ℕ) → n < 4096 → modulo_2 32 (signed_bits 12 n) % 4096 ≡ n
low_12 n h = low_12_by n (nat_lt n 2048) refl h

low_13_by : (n : ℕ) (b : Bool) → nat_lt n 4096 ≡ b → n < 8192 → modulo_2 32 (if b then pos n else pos n -ℤ pos 8192) % 8192 ≡ n
low_13_by n true e h = omega arith
low_13_by n false e h = rw (taken n 8192 h) (omega arith)

pub low_13 : (n : ℕ) → n < 8192 → modulo_2 32 (signed_bits 13 n) % 8192 ≡ n
low_13 n h = low_13_by n (nat_lt n 4096) refl h

low_21_by : (n : ℕ) (b : Bool) → nat_lt n 1048576 ≡ b → n < 2097152 → modulo_2 32 (if b then pos n else pos n -ℤ pos 2097152) % 2097152 ≡ n
low_21_by n true e h = omega arith
low_21_by n false e h = rw (taken n 2097152 h) (omega arith)

pub low_21 : (n : ℕ) → n < 2097152 → modulo_2 32 (signed_bits 21 n) % 2097152 ≡ n
low_21 n h = low_21_by n (nat_lt n 1048576) refl h

-- a number in range is what its low bits read as
pub range_12 : (z : ℤ) → is_within (negsuc 0x7ff) (pos 0x7ff) z ≡ true → signed_bits 12 (modulo_2 32 z % 4096) ≡ z
range_12 (pos n) h =
    let s : n < 2048 = grind (arith, nat_tests) in
    let e : n % 2 ^ 32 % 4096 ≡ n = omega arith in
    rw (e, lt_true n 2048 s) refl
range_12 (negsuc n) h =
    let s : n < 2048 = grind (arith, nat_tests) in
    let e : (2 ^ 32 - 1 - n % 2 ^ 32) % 4096 ≡ 4095 - n = omega arith in
    rw (e, lt_false (4095 - n) 2048 (omega arith), taken (4095 - n) 4096 (omega arith)) (ap negsuc (omega arith))

pub range_13 : (z : ℤ) → is_within (negsuc 0xfff) (pos 0xffe) z ≡ true → signed_bits 13 (modulo_2 32 z % 8192) ≡ z
range_13 (pos n) h =
    let s : n < 4096 = grind (arith, nat_tests) in
    let e : n % 2 ^ 32 % 8192 ≡ n = omega arith in
    rw (e, lt_true n 4096 s) refl
range_13 (negsuc n) h =
    let s : n < 4096 = grind (arith, nat_tests) in
    let e : (2 ^ 32 - 1 - n % 2 ^ 32) % 8192 ≡ 8191 - n = omega arith in
    rw (e, lt_false (8191 - n) 4096 (omega arith), taken (8191 - n) 8192 (omega arith)) (ap negsuc (omega arith))

pub range_21 : (z : ℤ) → is_within (negsuc 0xfffff) (pos 0xffffe) z ≡ true → signed_bits 21 (modulo_2 32 z % 2097152) ≡ z
range_21 (pos n) h =
    let s : n < 1048576 = grind (arith, nat_tests) in
    let e : n % 2 ^ 32 % 2097152 ≡ n = omega arith in
    rw (e, lt_true n 1048576 s) refl
range_21 (negsuc n) h =
    let s : n < 1048576 = grind (arith, nat_tests) in
    let e : (2 ^ 32 - 1 - n % 2 ^ 32) % 2097152 ≡ 2097151 - n = omega arith in
    rw (e, lt_false (2097151 - n) 1048576 (omega arith), taken (2097151 - n) 2097152 (omega arith)) (ap negsuc (omega arith))

pub eq_true : (m n : ℕ) → m ≡ n → (m == n) ≡ true
eq_true m n h = grind (arith, nat_tests)

pub both : (a b : Bool) → a ≡ true → b ≡ true → (a && b) ≡ true
both a b h k = and_from a b h k

-- the bits read as a signed number are in range
fits_12_by : (n : ℕ) (b : Bool) → nat_lt n 2048 ≡ b → n < 4096 → is_within (negsuc 0x7ff) (pos 0x7ff) (if b then pos n else pos n -ℤ pos 4096) ≡ true
fits_12_by n true e h = let s : n < 2048 = lt_of n 2048 e in grind (arith, nat_tests)
fits_12_by n false e h = let s : 2048 ≤ n = le_of n 2048 e in rw (taken n 4096 h) (grind (arith, nat_tests))

pub fits_12 : (n : ℕ) → n < 4096 → is_within (negsuc 0x7ff) (pos 0x7ff) (signed_bits 12 n) ≡ true
fits_12 n h = fits_12_by n (nat_lt n 2048) refl h

fits_13_by : (n : ℕ) (b : Bool) → nat_lt n 4096 ≡ b → n < 8192 → n % 2 ≡ 0
    → (is_even (if b then pos n else pos n -ℤ pos 8192) && is_within (negsuc 0xfff) (pos 0xffe) (if b then pos n else pos n -ℤ pos 8192)) ≡ true
fits_13_by n true e h even = let s : n < 4096 = lt_of n 4096 e in both _ _ (eq_true _ _ even) (grind (arith, nat_tests))
fits_13_by n false e h even =
    let s : 4096 ≤ n = le_of n 4096 e in
    rw (taken n 8192 h) (both _ _ (eq_true (modulo_2 1 (negsuc (8191 - n))) 0 (omega arith)) (grind (arith, nat_tests)))

pub fits_13 : (n : ℕ) → n < 8192 → n % 2 ≡ 0 → (is_even (signed_bits 13 n) && is_within (negsuc 0xfff) (pos 0xffe) (signed_bits 13 n)) ≡ true
fits_13 n h even = fits_13_by n (nat_lt n 4096) refl h even

fits_21_by : (n : ℕ) (b : Bool) → nat_lt n 1048576 ≡ b → n < 2097152 → n % 2 ≡ 0
    → (is_even (if b then pos n else pos n -ℤ pos 2097152) && is_within (negsuc 0xfffff) (pos 0xffffe) (if b then pos n else pos n -ℤ pos 2097152)) ≡ true
fits_21_by n true e h even = let s : n < 1048576 = lt_of n 1048576 e in both _ _ (eq_true _ _ even) (grind (arith, nat_tests))
fits_21_by n false e h even =
    let s : 1048576 ≤ n = le_of n 1048576 e in
    rw (taken n 2097152 h) (both _ _ (eq_true (modulo_2 1 (negsuc (2097151 - n))) 0 (omega arith)) (grind (arith, nat_tests)))

pub fits_21 : (n : ℕ) → n < 2097152 → n % 2 ≡ 0 → (is_even (signed_bits 21 n) && is_within (negsuc 0xfffff) (pos 0xffffe) (signed_bits 21 n)) ≡ true
fits_21 n h even = fits_21_by n (nat_lt n 1048576) refl h even

-- an even number is even modulo 2^32
pub even_low : (z : ℤ) → is_even z ≡ true → modulo_2 32 z % 2 ≡ 0
even_low (pos n) h = let e : n % 2 ≡ 0 = eqb-true (n % 2) 0 h in omega arith
even_low (negsuc n) h = let e : 2 - 1 - n % 2 ≡ 0 = eqb-true (2 - 1 - n % 2) 0 h in omega arith

-- a number that is not negative is itself modulo 2^32
pub natural : (z : ℤ) (top : ℕ) → top < 2 ^ 32 → is_within (pos 0) (pos top) z ≡ true → (pos (modulo_2 32 z) ≡ z) × (modulo_2 32 z ≤ top)
natural (pos n) top h k =
    let s : n ≤ top = grind (arith, nat_tests) in
    (ap pos (omega arith), omega arith)
natural (negsuc n) top h k = absurd (false≢true k)
