-- Values that are read one after the other, and the earliest of their faults.
use Rattle.std.specs.Prelude.{◌≡◌, ◌<◌, ◌+◌, ◌∷◌, ◌==◌, ◌⊎◌, ◌*◌, ◌%◌, ◌≤◌, ◌-◌, if◌then◌else◌}
use Rattle.cell_asm.proofs.Facts.{ℕ, Bool, true, false, List, [], map, length, get_or, take, Result, Ok, Err, Some, None, refl, sym, ap, ◌∙◌, arith, Bor, inl, inr, cond, drop, nat_tests, map_more, map-append, take_all, take-append-drop, fold-append, is_ascii_digit, slice_split, list_all, Option, ok_or}
use Rattle.cell_asm.proofs.Facts.{nat_lt, find, option_map, bytes_eq, fold, joined, gathered, put, miscounted, filled, spelled, trimmed, operand_texts, statement_in, read_with, first_word, after_word, operands, row_of, held, is_hex_digit, statement, AsmKind, AsmKindWord as Word, Operand, Slot, Fields}
use Rattle.cell_asm.proofs.Facts.{In-all, all-In}
use Rattle.cell_asm.proofs.ListLemmas.{not_less}

-- what is gathered with one value more
pub gathered_more : {X A B : Type 0} (f : A → B → A) (a : A) (g : X → Result B AsmKind) (xs : List X) (i : ℕ) (d : X) → i < length xs
    → gathered f a (map g (take (i + 1) xs)) ≡ joined f (gathered f a (map g (take i xs))) (g (get_or xs i d))
gathered_more f a g xs i d lt =
    ap (gathered f a) (map_more g xs i d lt) ∙ fold-append (joined f) (Ok a) (map g (take i xs)) (g (get_or xs i d) ∷ [])

word_still : {A B : Type 0} (f : A → B → A) (o : Option B) → joined f (Err Word) (ok_or o Word) ≡ Err Word
word_still f None = refl
word_still f (Some b) = refl

-- behind a wrong word no other counts
word_stays : {X A B : Type 0} (f : A → B → A) (g : X → Option B) (xs : List X) → fold (joined f) (Err Word) (map (λ x. ok_or (g x) Word) xs) ≡ Err Word
word_stays f g [] = refl
word_stays f g (x ∷ xs) = ap (λ r. fold (joined f) r (map (λ y. ok_or (g y) Word) xs)) (word_still f (g x)) ∙ word_stays f g xs

-- a wrong word behind values
pub word_decides : {X A B : Type 0} (f : A → B → A) (a b : A) (g : X → Option B) (xs : List X) (i : ℕ) (d : X) → i < length xs → gathered f a (map (λ x. ok_or (g x) Word) (take i xs)) ≡ Ok b
    → g (get_or xs i d) ≡ None → gathered f a (map (λ x. ok_or (g x) Word) xs) ≡ Err Word
word_decides f a b g xs i d lt before e =
    rw (← (take-append-drop (i + 1) xs), map-append, fold-append, gathered_more f a (λ x. ok_or (g x) Word) xs i d lt, before, e) (word_stays f g (drop (i + 1) xs))

-- A line, from its parts.

fused : (parts : List (Bor (List ℕ))) → map spelled (map trimmed (map (λ part. part.now) parts)) ≡ map (λ part. spelled (trimmed part.now)) parts
fused [] = refl
fused (p ∷ parts) = ap (λ rest. spelled (trimmed p.now) ∷ rest) (fused parts)

-- the operands of a text that isn't empty are those between its commas
pub parts_spelled : (text : List ℕ) (parts : List (Bor (List ℕ))) → (length text == 0) ≡ false → map (λ part. part.now) parts ≡ slice_split (λ b. b == 44) text
    → map (λ part. spelled (trimmed part.now)) parts ≡ map spelled (operand_texts text)
parts_spelled [] parts e s = absurd cc
parts_spelled (b ∷ bs) parts e s = sym (fused parts) ∙ ap (λ ps. map spelled (map trimmed ps)) s

pub statement_filled : (text : List ℕ) → (length text == 0) ≡ false → statement_in text ≡ read_with (statement (first_word text)) (operands (map spelled (operand_texts (after_word text))))
statement_filled [] e = absurd cc
statement_filled (b ∷ bs) e = refl

-- Numbers of 2^64 and more, held by their remainder by 4.

-- a number is held as it is, or by its remainder
held_as : (b : Bool) (n : ℕ) → nat_lt n 0x10000000000000000 ≡ b → ((n < 0x10000000000000000) × ((if b then n else 0x10000000000000000 + n % 4) ≡ n)) ⊎ ((0x10000000000000000 ≤ n) × ((if b then n else 0x10000000000000000 + n % 4) ≡ 0x10000000000000000 + n % 4))
held_as true n e = inl (grind (arith, nat_tests), refl)
held_as false n e = inr (grind (arith, nat_tests), refl)

pub held_is : (n : ℕ) → ((n < 0x10000000000000000) × (held n ≡ n)) ⊎ ((0x10000000000000000 ≤ n) × (held n ≡ 0x10000000000000000 + n % 4))
held_is n = held_as (nat_lt n 0x10000000000000000) n refl

held_big : (n : ℕ) → 0x10000000000000000 ≤ n → held n ≡ 0x10000000000000000 + n % 4
held_big n h = ap (λ b. if b then n else 0x10000000000000000 + n % 4) (not_less n 0x10000000000000000 h)

by_ten : (m d : ℕ) → ((0x10000000000000000 + m % 4) * 10 + d) % 4 ≡ (m * 10 + d) % 4
by_ten m d = omega arith

by_sixteen : (m d : ℕ) → ((0x10000000000000000 + m % 4) * 16 + d) % 4 ≡ (m * 16 + d) % 4
by_sixteen m d = omega arith

ten : (m d : ℕ) → 0x10000000000000000 ≤ m → held ((0x10000000000000000 + m % 4) * 10 + d) ≡ held (m * 10 + d)
ten m d big = held_big _ (omega arith) ∙ ap (λ k. 0x10000000000000000 + k) (by_ten m d) ∙ sym (held_big _ (omega arith))

sixteen : (m d : ℕ) → 0x10000000000000000 ≤ m → held ((0x10000000000000000 + m % 4) * 16 + d) ≡ held (m * 16 + d)
sixteen m d big = held_big _ (omega arith) ∙ ap (λ k. 0x10000000000000000 + k) (by_sixteen m d) ∙ sym (held_big _ (omega arith))

-- what is held of a number goes on as the number does
pub held_step : (m r d : ℕ) → ((r ≡ 10) ⊎ (r ≡ 16)) → held (held m * r + d) ≡ held (m * r + d)
held_step m r d radix = elim (held_is m) [
  | inl p ↦ ap (λ h. held (h * r + d)) p.1
  | inr p ↦ elim radix [
    | inl e ↦ rw (p.1, e) (ten m d p.0)
    | inr e ↦ rw (p.1, e) (sixteen m d p.0)
  ]
]

-- decimal digits are hex digits
pub digits_are_hex : (ds : List ℕ) → list_all is_ascii_digit ds ≡ true → list_all is_hex_digit ds ≡ true
digits_are_hex ds e = In-all is_hex_digit ds (λ d k. rw (all-In is_ascii_digit ds e d k) refl)

-- A row of a table, found in the table as the code has it.

here : {X A : Type 0} (h : X → List ℕ × A) (b : Bool) (x : X) (o : Option X) (p : Option (List ℕ × A)) → option_map (λ y. (h y).1) o ≡ option_map (λ row. row.1) p
    → option_map (λ y. (h y).1) (cond b (Some x) o) ≡ option_map (λ row. row.1) (cond b (Some (h x)) p)
here h true x o p e = refl
here h false x o p e = e

pub row_found : {X A : Type 0} (h : X → List ℕ × A) (text : List ℕ) (rows : List X) → option_map (λ x. (h x).1) (find (λ x. bytes_eq text (h x).0) rows) ≡ row_of (map h rows) text
row_found h text [] = refl
row_found h text (x ∷ rows) = here h (bytes_eq text (h x).0) x _ _ (row_found h text rows)

pub map_twice : {X A B : Type 0} (f : A → B) (g : X → A) (o : Option X) → option_map f (option_map g o) ≡ option_map (λ x. f (g x)) o
map_twice f g None = refl
map_twice f g (Some x) = refl

-- Slots that are filled from operands, one after the other.

abbrev pub rest : {X : Type 0} → List X → List X
rest xs = take (length xs - 1) (drop 1 xs)

rest_is : {X : Type 0} (x : X) (xs : List X) → rest (x ∷ xs) ≡ xs
rest_is x xs = take_all (length (x ∷ xs) - 1) xs (omega arith)

pub first_filled : (fields : Result Fields AsmKind) (slots : List Slot) (os : List Operand) (s : Slot) (o : Operand) → 1 ≤ length slots → 1 ≤ length os → o ≡ get_or os 0 o
    → filled (put fields (get_or slots 0 s) o) (rest slots) (rest os) ≡ filled fields slots os
first_filled fields [] os s o l m is = absurd (omega (arith, l))
first_filled fields (x ∷ xs) [] s o l m is = absurd (omega (arith, m))
first_filled fields (x ∷ xs) (y ∷ ys) s o l m is =
    ap (λ z. filled (put fields x z) (rest (x ∷ xs)) (rest (y ∷ ys))) is ∙ ap (λ r. filled (put fields x y) r (rest (y ∷ ys))) (rest_is x xs) ∙ ap (λ r. filled (put fields x y) xs r) (rest_is y ys)

pub too_many : (fields : Result Fields AsmKind) (slots : List Slot) (os : List Operand) → length slots < 1 → 1 ≤ length os → miscounted fields ≡ filled fields slots os
too_many fields [] [] l m = absurd (omega (arith, m))
too_many fields [] (o ∷ os) l m = refl
too_many fields (s ∷ slots) os l m = absurd (omega (arith, l))

pub too_few : (fields : Result Fields AsmKind) (slots : List Slot) (os : List Operand) → 1 ≤ length slots → length os < 1 → miscounted fields ≡ filled fields slots os
too_few fields [] os l m = absurd (omega (arith, l))
too_few fields (s ∷ slots) [] l m = refl
too_few fields (s ∷ slots) (o ∷ os) l m = absurd (omega (arith, m))
