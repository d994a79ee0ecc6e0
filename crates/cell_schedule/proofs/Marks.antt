-- A store meets a mark of the memory exactly where it meets a field.
use Rattle.std.proofs.Common.{◌≡◌, refl, sym, ◌∙◌, ap, arith, ℕ, zero, suc, ◌+◌, ◌-◌, ◌≤◌, Bool, true, false, ◌&&◌, ◌||◌, List, [], ◌∷◌, map, take, drop}
use Rattle.std.specs.Prelude.{flat_map, nat_lt, nat_le, slice_range}
use Rattle.std.specs.List.{list_any}
use Rattle.std.proofs.lemmas.List.Folds.{list_any-append}
use Rattle.cell_num.specs.Kinds.{width_of}
use Rattle.cell_num.specs.Lists.{from_on, upto}
use Rattle.cell_num.specs.declared.kinds.RelKind.{RelKind}
use Rattle.cell_num.specs.declared.kinds.RelKind.TheVariants.{Abs32, Abs64, Branch, Jal, Call, CallPlt, GotHi20, PcrelHi20, PcrelLo12I, PcrelLo12S, Hi20, Lo12I, Lo12S, Add8, Add16, Add32, Add64, Sub8, Sub16, Sub32, Sub64, Sub6, Set6, Set8, Set16, Set32, Pcrel32}
use Rattle.cell_object.specs.declared.object.Entry.{Entry}
use Rattle.cell_world.specs.declared.state.NewCell.{NewCell}
use Rattle.cell_world.specs.World.{Cell}
use Rattle.cell_world.specs.Running.Execute.{is_field_at}
use Rattle.cell_world.specs.Linked.Field.{fields_of, place_of}
use Rattle.cell_commit.specs.Seals.{is_in_span, seal_table}
use Rattle.cell_space.specs.Joined.{placed_of}
use Rattle.cell_machine.specs.Machine.{field_bytes, own_field_bytes}

module _ {X Y : Type 0} where
  pub any_map : (p : Y → Bool) (f : X → Y) (xs : List X) → list_any p (map f xs) ≡ list_any (λ x. p (f x)) xs
  any_map p f [] = refl
  any_map p f (x ∷ xs) = ap (λ b. p (f x) || b) (any_map p f xs)

  any_flat : (p : Y → Bool) (f : X → List Y) (xs : List X) → list_any p (flat_map f xs) ≡ list_any (λ x. list_any p (f x)) xs
  any_flat p f [] = refl
  any_flat p f (x ∷ xs) = list_any-append p (f x) (flat_map f xs) ∙ ap (λ b. list_any p (f x) || b) (any_flat p f xs)

four : (a b c d : Bool) → ((a || b) || (c || d)) ≡ ((a || c) || (b || d))
four true b c d = refl
four false true true d = refl
four false true false d = refl
four false false c d = refl

module _ {X : Type 0} where
  pub any_same : (p q : X → Bool) → ((x : X) → p x ≡ q x) → (xs : List X) → list_any p xs ≡ list_any q xs
  any_same p q e [] = refl
  any_same p q e (x ∷ xs) = ap (λ b. b || list_any p xs) (e x) ∙ ap (λ b. q x || b) (any_same p q e xs)

  none : (xs : List X) → list_any (λ x. false) xs ≡ false
  none [] = refl
  none (x ∷ xs) = none xs

  any_or : (p q : X → Bool) (xs : List X) → list_any (λ x. p x || q x) xs ≡ (list_any p xs || list_any q xs)
  any_or p q [] = refl
  any_or p q (x ∷ xs) = ap (λ b. (p x || q x) || b) (any_or p q xs) ∙ four (p x) (q x) (list_any p xs) (list_any q xs)

module _ {X Y : Type 0} where
  any_swap : (t : X → Y → Bool) (xs : List X) (ys : List Y) → list_any (λ x. list_any (t x) ys) xs ≡ list_any (λ y. list_any (λ x. t x y) xs) ys
  any_swap t xs [] = none xs
  any_swap t xs (y ∷ ys) = any_or (λ x. t x y) (λ x. list_any (t x) ys) xs ∙ ap (λ b. list_any (λ x. t x y) xs || b) (any_swap t xs ys)

-- a part of a table is the table of that part
module _ (test : ℕ → Bool) where
  taken : (n a m : ℕ) → n ≤ m → take n (map test (from_on a m)) ≡ map test (from_on a n)
  taken zero a m l = refl
  taken (suc n) a zero l = absurd (omega (arith, l))
  taken (suc n) a (suc m) l = ap (λ xs. test a ∷ xs) (taken n (suc a) m (omega (arith, l)))

  dropped : (k a m : ℕ) → k ≤ m → drop k (map test (from_on a m)) ≡ map test (from_on (a + k) (m - k))
  dropped zero a m l =
      let none : m ≡ m - 0 = omega arith in
      let here : a ≡ a + 0 = omega arith in
      ap (λ i. map test (from_on i m)) here ∙ ap (λ i. map test (from_on (a + 0) i)) none
  dropped (suc k) a zero l = absurd (omega (arith, l))
  dropped (suc k) a (suc m) l =
      dropped k (suc a) m (omega (arith, l))
      ∙ (ap (λ i. map test (from_on i (m - k))) (omega arith)
      ∙ ap (λ i. map test (from_on (a + suc k) i)) (omega arith))

  part_of_table : (k n m : ℕ) → k + n ≤ m → take n (drop k (map test (upto m))) ≡ map test (from_on k n)
  part_of_table k n m l =
      let zero_more : 0 + k ≡ k = omega arith in
      ap (take n) (dropped k 0 m (omega (arith, l)) ∙ ap (λ i. map test (from_on i (m - k))) zero_more) ∙ taken n k (m - k) (omega (arith, l))

  any_in_table : (k n m : ℕ) → k + n ≤ m → list_any (λ b. b) (slice_range (map test (upto m)) k (k + n)) ≡ list_any test (from_on k n)
  any_in_table k n m l =
      ap (λ i. list_any (λ b. b) (take i (drop k (map test (upto m))))) (omega arith)
      ∙ (ap (list_any (λ b. b)) (part_of_table k n m l) ∙ any_map (λ b. b) test (from_on k n))

-- n bytes from a place on meet a span of w bytes
one : (a p w : ℕ) → 1 ≤ w → ((nat_le p a && nat_lt a (p + w)) || false) ≡ (nat_lt a (p + w) && nat_lt p (a + 1))
one a p w h = grind (arith, h)

more : (a p w n : ℕ) → 1 ≤ w → 1 ≤ n → ((nat_le p a && nat_lt a (p + w)) || (nat_lt (suc a) (p + w) && nat_lt p (suc a + n))) ≡ (nat_lt a (p + w) && nat_lt p (a + suc n))
more a p w n h k = grind (arith, h, k)

meets : (base k n p w : ℕ) → 1 ≤ w → 1 ≤ n → list_any (λ i. is_in_span (base + i) (p, w)) (from_on k n) ≡ (nat_lt (base + k) (p + w) && nat_lt p (base + k + n))
meets base k zero p w h l = absurd (omega (arith, l))
meets base k (suc zero) p w h l = one (base + k) p w h
meets base k (suc (suc n)) p w h l =
    ap (λ b. is_in_span (base + k) (p, w) || b) (meets base (suc k) (suc n) p w h (omega arith))
    ∙ (ap (λ (a : ℕ). is_in_span (base + k) (p, w) || (nat_lt a (p + w) && nat_lt p (a + suc n))) (omega arith) ∙ more (base + k) p w (suc n) h (omega arith))

-- a field has a byte
some_width : (kind : RelKind) → 1 ≤ width_of kind
some_width Abs32 = omega arith
some_width Abs64 = omega arith
some_width Branch = omega arith
some_width Jal = omega arith
some_width Call = omega arith
some_width CallPlt = omega arith
some_width GotHi20 = omega arith
some_width PcrelHi20 = omega arith
some_width PcrelLo12I = omega arith
some_width PcrelLo12S = omega arith
some_width Hi20 = omega arith
some_width Lo12I = omega arith
some_width Lo12S = omega arith
some_width Add8 = omega arith
some_width Add16 = omega arith
some_width Add32 = omega arith
some_width Add64 = omega arith
some_width Sub8 = omega arith
some_width Sub16 = omega arith
some_width Sub32 = omega arith
some_width Sub64 = omega arith
some_width Sub6 = omega arith
some_width Set6 = omega arith
some_width Set8 = omega arith
some_width Set16 = omega arith
some_width Set32 = omega arith
some_width Pcrel32 = omega arith

-- a mark is met exactly where a field is
pub marks_are_fields : (base size : ℕ) (all : List Cell) (cells : List NewCell) → map placed_of all ≡ cells → (addr n : ℕ) → 1 ≤ n → base ≤ addr → addr + n ≤ base + size
    → list_any (λ b. b) (slice_range (seal_table base size (field_bytes cells)) (addr - base) (addr - base + n)) ≡ list_any (is_field_at addr n) all
marks_are_fields base size all cells same addr n some low high =
    any_in_table test k n size (omega (arith, low, high))
    ∙ (any_swap (λ i s. is_in_span (base + i) s) (from_on k n) (field_bytes cells)
    ∙ (any_flat met own_field_bytes cells
    ∙ (ap (list_any (λ c. list_any met (own_field_bytes c))) (sym same)
    ∙ (any_map (λ c. list_any met (own_field_bytes c)) placed_of all
    ∙ any_same (λ (d : Cell). list_any met (own_field_bytes d.placed)) (is_field_at addr n) (λ d. in_cell d) all))))
  where
    k : ℕ
    k = addr - base

    test : ℕ → Bool
    test i = list_any (is_in_span (base + i)) (field_bytes cells)

    met : ℕ × ℕ → Bool
    met s = list_any (λ i. is_in_span (base + i) s) (from_on k n)

    at_field : (c : NewCell) (f : Entry) → met (place_of c f, width_of f.kind) ≡ (nat_lt addr (place_of c f + width_of f.kind) && nat_lt (place_of c f) (addr + n))
    at_field c f =
        meets base k n (place_of c f) (width_of f.kind) (some_width f.kind) some
        ∙ ap (λ (a : ℕ). nat_lt a (place_of c f + width_of f.kind) && nat_lt (place_of c f) (a + n)) (omega (arith, low))

    in_cell : (d : Cell) → list_any met (own_field_bytes d.placed) ≡ is_field_at addr n d
    in_cell d =
        any_map met (λ f. (place_of d.placed f, width_of f.kind)) (fields_of d.object)
        ∙ any_same (λ f. met (place_of d.placed f, width_of f.kind)) (λ f. nat_lt addr (place_of d.placed f + width_of f.kind) && nat_lt (place_of d.placed f) (addr + n)) (at_field d.placed) (fields_of d.object)
