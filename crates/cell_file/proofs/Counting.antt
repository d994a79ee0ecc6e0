-- Entries that are passed over, counted from the end of the file on.
use Rattle.std.proofs.Common.{◌≡◌, ℕ, zero, suc, ◌+◌, ◌-◌, ◌*◌, ◌<◌, ◌≤◌, ◌⊎◌, inl, inr, Bool, true, false, cond, List, length, get_or, refl, sym, subst, arith, get_or-set_other, get_or-set_same}
use Rattle.std.proofs.Math.ListN.{set}
use Rattle.std.proofs.lemmas.Bool.{le-ltb, lt-ltb, ltb-false, ltb-true}
use Rattle.std.specs.Prelude.{nat_lt}
use Rattle.cell_num.specs.Kinds.{is_passed_over}
use Rattle.cell_object.specs.Relocations.{rela_row_at}
use Rattle.cell_file.specs.Cover.{IsSkip, reach}

-- what a count stands for, on both sides of a stride
pub reach_few : (n : ℕ) → n ≤ 128 → reach n ≡ n
reach_few n h = rw (le-ltb 128 n h) refl

pub reach_many : (n : ℕ) → 128 < n → reach n ≡ 128 * (n - 127)
reach_many n h = rw (lt-ltb 128 n h) refl

-- a count of a stride or more stands for as many strides as it is above 127
pub reach_strides : (n : ℕ) → 128 ≤ n → reach n ≡ 128 * (n - 127)
reach_strides n h = elim (either n h) [
  | inl one ↦ rw one refl
  | inr more ↦ reach_many n more
]
  where
    either : (n : ℕ) → 128 ≤ n → (n ≡ 128) ⊎ (128 < n)
    either n h = grind arith

-- one entry more, before those that are passed over
pub skip_more : (file : List ℕ) (at next c d : ℕ) → next ≡ at + 24 → is_passed_over (rela_row_at at file).r_type ≡ true → IsSkip file next c → d ≤ c + 1 → IsSkip file at d
skip_more file at next c d e here behind few zero h = let same : at + 24 * 0 ≡ at = omega arith in rw same here
skip_more file at next c d e here behind few (suc i) h = let same : at + 24 * suc i ≡ next + 24 * i = omega (arith, e) in rw same (behind i (omega arith))

-- a stride of entries, before others that are passed over
pub skip_stride : (file : List ℕ) (at next far c r d : ℕ) → next ≡ at + 24 → far ≡ at + 24 * 128 → is_passed_over (rela_row_at at file).r_type ≡ true → IsSkip file next c → 127 ≤ c → IsSkip file far r → d ≤ 128 + r → IsSkip file at d
skip_stride file at next far c r d e f here behind long rest few i h = elim (either i) [
  | inl near ↦ skip_more file at next c 128 e here behind (omega (arith, long)) i near
  | inr later ↦
      let same : at + 24 * i ≡ far + 24 * (i - 128) = omega (arith, f, later) in
      rw same (rest (i - 128) (omega (arith, h, few, later)))
]
  where
    either : (i : ℕ) → (i < 128) ⊎ (128 ≤ i)
    either i = grind arith

-- the count of an entry that is passed over, by the counts of the next one and of one a stride behind it
skip_counted : (b : Bool) (file : List ℕ) (at next far n m d : ℕ) → nat_lt n 128 ≡ b → next ≡ at + 24 → far ≡ at + 24 * 128 → is_passed_over (rela_row_at at file).r_type ≡ true
    → IsSkip file next (reach n) → IsSkip file far (reach m) → reach d ≤ cond b (n + 1) (128 + reach m) → IsSkip file at (reach d)
skip_counted true file at next far n m d k e f here behind rest few =
    let same : reach n ≡ n = reach_few n (let lt = ltb-true n 128 k in omega (arith, lt)) in
    skip_more file at next (reach n) (reach d) e here behind (omega (arith, same, few))
skip_counted false file at next far n m d k e f here behind rest few =
    let least : 128 ≤ n = ltb-false n 128 k in
    let same : reach n ≡ 128 * (n - 127) = reach_strides n least in
    skip_stride file at next far (reach n) (reach m) (reach d) e f here behind (omega (arith, same, least)) rest few

-- the same of counts that are the same
pub same_counts : (n m a b d : ℕ) → n ≡ a → m ≡ b → reach d ≤ cond (nat_lt n 128) (n + 1) (128 + reach m) → reach d ≤ cond (nat_lt a 128) (a + 1) (128 + reach b)
same_counts n m a b d e f h =
    subst (λ (k : ℕ). reach d ≤ cond (nat_lt k 128) (k + 1) (128 + reach b)) e (subst (λ (k : ℕ). reach d ≤ cond (nat_lt n 128) (n + 1) (128 + reach k)) f h)

-- one more place that is counted from, in a part of the file
pub set_skip : (file counts : List ℕ) (from at next far d : ℕ) → at < length counts → ((q : ℕ) → IsSkip file (from + q) (reach (get_or counts q 0))) → next ≡ at + 24 → far ≡ at + 24 * 128
    → is_passed_over (rela_row_at (from + at) file).r_type ≡ true → reach d ≤ cond (nat_lt (get_or counts next 0) 128) (get_or counts next 0 + 1) (128 + reach (get_or counts far 0))
    → (q : ℕ) → IsSkip file (from + q) (reach (get_or (set counts at d) q 0))
set_skip file counts from at next far d there all e f here few q = elim (place q) [
  | inl is ↦
      rw (← is, get_or-set_same counts at d 0 there)
      (skip_counted (nat_lt (get_or counts next 0) 128) file (from + at) (from + next) (from + far) (get_or counts next 0) (get_or counts far 0) d refl (omega (arith, e)) (omega (arith, f)) here (all next) (all far) few)
  | inr other ↦ rw (get_or-set_other counts at q d 0 (λ same. other (sym same))) (all q)
]
  where
    place : (b : ℕ) → (at ≡ b) ⊎ (at ≡ b → ⊥)
    place b = grind arith

pub skip_none : (file : List ℕ) (at c : ℕ) → c ≡ 0 → IsSkip file at (reach c)
skip_none file at c e i h = let same : reach c ≡ c = reach_few c (omega (arith, e)) in absurd (omega (arith, h, same, e))

pub ruleset steps = (skip_none)
