-- The bytes that placed sections cover are those that are taken.
use Rattle.std.proofs.Common.{◌≡◌, ℕ, zero, suc, ◌+◌, ◌-◌, ◌*◌, ◌<◌, ◌≤◌, ◌⊎◌, inl, inr, Bool, true, false, not, ◌&&◌, ◌||◌, List, [], ◌∷◌, ◌++◌, length, take, drop, replicate, get_or, refl, sym, ap, ◌∙◌, arith, add-one}
use Rattle.std.specs.Prelude.{◌%◌, ◌==◌, nat_le, nat_lt, max, slice_range}
use Rattle.std.specs.List.{list_any}
use Rattle.std.proofs.lemmas.Bool.{and_parts, cases_lt, leb-true}
use Rattle.std.proofs.lemmas.Bool.Decides.{nat_tests}
use Rattle.std.proofs.lemmas.List.{drop_more, length-append, length-take-le, length-drop, length-replicate, get_or_append_left, get_or-append_right, get_or-replicate, get_or-take, get_or-drop}
use Rattle.std.proofs.lemmas.List.Folds.{list_any-append}
use Rattle.cell_num.proofs.Elements.{In-none}
use Rattle.cell_object.specs.declared.object.Section.{Section as ObjectSection}
use Rattle.cell_world.specs.Placed.Pages.{filled}
use Rattle.cell_audit.specs.Placing.{Extent, may_stand, share_a_byte}
use Rattle.cell_described.specs.Taken.{TakenState, all_free, fits, with_section}

abbrev pub covers : ℕ → Extent → Bool
covers a e = nat_le e.start a && nat_lt a (e.start + e.section.size)

-- a byte of the n from there on is one of the section's
abbrev shares : ℕ → ℕ → Extent → Bool
shares start n b =
    nat_lt 0 b.section.size && nat_lt 0 n && nat_lt b.start (start + n) && nat_lt start (b.start + b.section.size)

-- what is taken of the space is what the placed sections cover
pub record AreTaken (space : ℕ × ℕ) (before : List Extent) (t : TakenState) : Type 0 where
  pub base : t.base ≡ space.0
  pub size : length t.bytes ≡ 4096 * space.1
  pub bytes : (k : ℕ) → k < length t.bytes → get_or t.bytes k false ≡ list_any (covers (t.base + k)) before

dead : (a c d : Bool) → (a && false && c && d) ≡ false
dead true c d = refl
dead false c d = refl

shares_none : (start : ℕ) (b : Extent) → shares start 0 b ≡ false
shares_none start b = dead (nat_lt 0 b.section.size) (nat_lt b.start (start + 0)) (nat_lt start (b.start + b.section.size))

-- the first of the bytes, or one of the others
shares_more : (at size start n later : ℕ) → later ≡ suc start
    → (nat_lt 0 size && nat_lt 0 (suc n) && nat_lt at (start + suc n) && nat_lt start (at + size))
    ≡ ((nat_le at start && nat_lt start (at + size)) || (nat_lt 0 size && nat_lt 0 n && nat_lt at (later + n) && nat_lt later (at + size)))
shares_more at size start n later e = grind (arith, nat_tests)

four : (a b c d : Bool) → ((a || b) || (c || d)) ≡ ((a || c) || (b || d))
four true b c d = refl
four false true true d = refl
four false true false d = refl
four false false c d = refl

any_or : {X : Type 0} (p q r : X → Bool) (xs : List X) → ((x : X) → r x ≡ (p x || q x)) → list_any r xs ≡ (list_any p xs || list_any q xs)
any_or p q r [] f = refl
any_or p q r (x ∷ xs) f =
    ap (λ (b : Bool). b || list_any r xs) (f x)
    ∙ ap (λ (b : Bool). (p x || q x) || b) (any_or p q r xs f)
    ∙ four (p x) (q x) (list_any p xs) (list_any q xs)

range_cons : (bytes : List Bool) (lo n : ℕ) → lo < length bytes
    → slice_range bytes lo (lo + suc n) ≡ get_or bytes lo false ∷ slice_range bytes (suc lo) (suc lo + n)
range_cons bytes lo n lt =
    let whole : lo + suc n - lo ≡ suc n = omega arith in
    let rest : suc lo + n - suc lo ≡ n = omega arith in
    ap (λ (m : ℕ). take m (drop lo bytes)) whole
    ∙ ap (take (suc n)) (drop_more bytes lo false lt)
    ∙ ap (λ (k : ℕ). get_or bytes lo false ∷ take n (drop k bytes)) (add-one lo)
    ∙ ap (λ (m : ℕ). get_or bytes lo false ∷ take m (drop (suc lo) bytes)) (sym rest)

module _ (base : ℕ) (bytes : List Bool) (before : List Extent) (marked : (k : ℕ) → k < length bytes → get_or bytes k false ≡ list_any (covers (base + k)) before) where
  -- one of the bytes is taken exactly where a placed section has it
  any_range : (n lo : ℕ) → lo + n ≤ length bytes → list_any (λ b. b) (slice_range bytes lo (lo + n)) ≡ list_any (shares (base + lo) n) before
  any_range zero lo le =
      let none : lo + 0 - lo ≡ 0 = omega arith in
      ap (λ (m : ℕ). list_any (λ b. b) (take m (drop lo bytes))) none
      ∙ sym (In-none (shares (base + lo) 0) before (λ b i. shares_none (base + lo) b))
  any_range (suc n) lo le =
      let next : base + suc lo ≡ suc (base + lo) = omega arith in
      ap (list_any (λ b. b)) (range_cons bytes lo n (omega arith))
      ∙ ap (λ (b : Bool). b || list_any (λ b. b) (slice_range bytes (suc lo) (suc lo + n))) (marked lo (omega arith))
      ∙ ap (λ (b : Bool). list_any (covers (base + lo)) before || b) (any_range n (suc lo) (omega arith))
      ∙ sym (any_or (covers (base + lo)) (shares (base + suc lo) n) (shares (base + lo) (suc n)) before (λ b. shares_more b.start b.section.size (base + lo) n (base + suc lo) next))

last_same : (a b c x y : Bool) → (b ≡ true → c ≡ true → x ≡ y) → (a && b && c && not x) ≡ (a && b && c && not y)
last_same true true true x y f = ap not (f refl refl)
last_same true true false x y f = refl
last_same true false c x y f = refl
last_same false b c x y f = refl

-- a section may stand where it fits
pub may_stand_is : (space : ℕ × ℕ) (before : List Extent) (t : TakenState) (s : ObjectSection) (start : ℕ) → AreTaken space before t
    → may_stand space before (record { start = start; section = s }) ≡ fits t s start
may_stand_is space before t s start h =
    let at : Extent = record { start = start; section = s } in
    let aligned : Bool = start % max 1 s.align == 0 in
    let shared : Bool = list_any (λ b. share_a_byte b at) before in
    ap (λ (n : ℕ). aligned && nat_le n start && nat_le (start + s.size) (n + 4096 * space.1) && not shared) (sym h.base)
    ∙ ap (λ (n : ℕ). aligned && nat_le t.base start && nat_le (start + s.size) (t.base + n) && not shared) (sym h.size)
    ∙ last_same aligned (nat_le t.base start) (nat_le (start + s.size) (t.base + length t.bytes)) shared (list_any (λ b. b) (slice_range t.bytes (start - t.base) (start - t.base + s.size))) same
  where
    same : nat_le t.base start ≡ true → nat_le (start + s.size) (t.base + length t.bytes) ≡ true
        → list_any (λ b. share_a_byte b (record { start = start; section = s })) before ≡ list_any (λ b. b) (slice_range t.bytes (start - t.base) (start - t.base + s.size))
    same low high =
        let above : t.base ≤ start = leb-true t.base start low in
        let below : start + s.size ≤ t.base + length t.bytes = leb-true (start + s.size) (t.base + length t.bytes) high in
        let back : start ≡ t.base + (start - t.base) = omega arith in
        ap (λ (a : ℕ). list_any (shares a s.size) before) back
        ∙ sym (any_range t.base t.bytes before h.bytes s.size (start - t.base) (omega arith))

-- where a section fits it is in the space
pub record IsInside (t : TakenState) (s : ObjectSection) (start : ℕ) : Type 0 where
  pub above : t.base ≤ start
  pub below : start + s.size ≤ t.base + length t.bytes

pub inside : (t : TakenState) (s : ObjectSection) (start : ℕ) → fits t s start ≡ true → IsInside t s start
inside t s start h =
    let aligned : Bool = start % max 1 s.align == 0 in
    let low : Bool = nat_le t.base start in
    let high : Bool = nat_le (start + s.size) (t.base + length t.bytes) in
    let a = and_parts (aligned && low && high) _ h in
    let b = and_parts (aligned && low) high a.0 in
    let c = and_parts aligned low b.0 in
    record { above = leb-true t.base start c.1; below = leb-true (start + s.size) (t.base + length t.bytes) b.1 }

module _ (bytes : List Bool) (lo n : ℕ) (le : lo + n ≤ length bytes) where
  abbrev front : List Bool
  front = take lo bytes ++ replicate n true

  length_front : length front ≡ lo + n
  length_front =
      let a : length (take lo bytes) ≡ lo = length-take-le lo bytes (omega arith) in
      let b : length (replicate n true) ≡ n = length-replicate n true in
      length-append (take lo bytes) (replicate n true) ∙ omega arith

  pub length_filled : length (filled bytes lo n true) ≡ length bytes
  length_filled =
      let a = length_front in
      let b = length-drop (lo + n) bytes in
      length-append front (drop (lo + n) bytes) ∙ omega arith

  below_test : (k : ℕ) (b : Bool) → k < lo → b ≡ (b || (nat_le lo k && nat_lt k (lo + n)))
  below_test k b lt = grind (arith, nat_tests)

  within_test : (k : ℕ) (b : Bool) → lo ≤ k → k < lo + n → true ≡ (b || (nat_le lo k && nat_lt k (lo + n)))
  within_test k b low high = grind (arith, nat_tests)

  above_test : (k : ℕ) (b : Bool) → lo + n ≤ k → b ≡ (b || (nat_le lo k && nat_lt k (lo + n)))
  above_test k b high = grind (arith, nat_tests)

  at_below : (k : ℕ) → k < lo → get_or (filled bytes lo n true) k false ≡ get_or bytes k false
  at_below k lt =
      let a : length (take lo bytes) ≡ lo = length-take-le lo bytes (omega arith) in
      let b = length_front in
      get_or_append_left front (drop (lo + n) bytes) false k (omega arith)
      ∙ get_or_append_left (take lo bytes) (replicate n true) false k (omega arith)
      ∙ get_or-take lo bytes k false lt

  at_within : (k : ℕ) → lo ≤ k → k < lo + n → get_or (filled bytes lo n true) k false ≡ true
  at_within k low high =
      let a : length (take lo bytes) ≡ lo = length-take-le lo bytes (omega arith) in
      let b = length_front in
      get_or_append_left front (drop (lo + n) bytes) false k (omega arith)
      ∙ get_or-append_right (take lo bytes) (replicate n true) lo k false a low
      ∙ get_or-replicate n (k - lo) true false (omega arith)

  at_above : (k : ℕ) → lo + n ≤ k → get_or (filled bytes lo n true) k false ≡ get_or bytes k false
  at_above k high =
      let back : lo + n + (k - (lo + n)) ≡ k = omega arith in
      get_or-append_right front (drop (lo + n) bytes) (lo + n) k false length_front high
      ∙ get_or-drop (lo + n) bytes (k - (lo + n)) false
      ∙ ap (λ (m : ℕ). get_or bytes m false) back

  -- what is taken after so many bytes from there on are taken as well
  pub at_filled : (k : ℕ) → get_or (filled bytes lo n true) k false ≡ (get_or bytes k false || (nat_le lo k && nat_lt k (lo + n)))
  at_filled k = go (cases_lt k lo) (cases_lt k (lo + n))
    where
      go : (k < lo) ⊎ (lo ≤ k) → (k < lo + n) ⊎ (lo + n ≤ k) → get_or (filled bytes lo n true) k false ≡ (get_or bytes k false || (nat_le lo k && nat_lt k (lo + n)))
      go (inl lt) r = at_below k lt ∙ below_test k (get_or bytes k false) lt
      go (inr low) (inl high) = at_within k low high ∙ within_test k (get_or bytes k false) low high
      go (inr low) (inr high) = at_above k high ∙ above_test k (get_or bytes k false) high

none_covers : (b c : Bool) → b ≡ c → b ≡ (c || false)
none_covers true true e = refl
none_covers false false e = refl
none_covers true false e = e
none_covers false true e = e

module _ (space : ℕ × ℕ) (before : List Extent) (t : TakenState) (s : ObjectSection) (start : ℕ) (h : AreTaken space before t) (f : fits t s start ≡ true) where
  abbrev lo : ℕ
  lo = start - t.base

  within : lo + s.size ≤ length t.bytes
  within = let i = inside t s start f in let a = i.above in let b = i.below in omega (arith, a, b)

  same_length : length (filled t.bytes lo s.size true) ≡ length t.bytes
  same_length = length_filled t.bytes lo s.size within

  moved : (k : ℕ) → t.base ≤ start → (nat_le lo k && nat_lt k (lo + s.size)) ≡ (nat_le start (t.base + k) && nat_lt (t.base + k) (start + s.size))
  moved k low = grind (arith, nat_tests)

  covered : (k : ℕ) → (nat_le lo k && nat_lt k (lo + s.size)) ≡ ((nat_le start (t.base + k) && nat_lt (t.base + k) (start + s.size)) || false)
  covered k = none_covers _ _ (moved k (inside t s start f).above)

  at_byte : (k : ℕ) → k < length (filled t.bytes lo s.size true)
      → get_or (filled t.bytes lo s.size true) k false ≡ list_any (covers (t.base + k)) (before ++ record { start = start; section = s } ∷ [])
  at_byte k lt =
      at_filled t.bytes lo s.size within k
      ∙ ap (λ (b : Bool). b || (nat_le lo k && nat_lt k (lo + s.size))) (h.bytes k (let n = same_length in omega (arith, lt, n)))
      ∙ ap (λ (b : Bool). list_any (covers (t.base + k)) before || b) (covered k)
      ∙ sym (list_any-append (covers (t.base + k)) before (record { start = start; section = s } ∷ []))

  -- one more section
  pub taken_more : AreTaken space (before ++ record { start = start; section = s } ∷ []) (with_section t s start)
  taken_more = record { base = h.base; size = same_length ∙ h.size; bytes = at_byte }

-- a space of which no byte is taken
pub none_taken : (base pages : ℕ) → AreTaken (base, pages) [] (all_free base pages)
none_taken base pages = record {
  base = refl;
  size = length-replicate (4096 * pages) false;
  bytes = λ k lt. let n = length-replicate (4096 * pages) false in get_or-replicate (4096 * pages) k false false (omega (arith, lt, n));
}
