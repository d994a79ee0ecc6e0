-- Where a sorted list is cut.
use Rattle.std.proofs.Common.{◌≡◌, ℕ, zero, suc, ◌<◌, ◌≤◌, Bool, true, false, ◌&&◌, ◌||◌, eqb, ltb, leb, List, [], ◌∷◌, length, get_or, arith, tests}
use Rattle.std.specs.List.{AllByRecursion}
use Rattle.std.specs.List.Sorted.{IsPartitionedBy, IsPartitionPoint}
use Rattle.cell_num.specs.declared.ids.SecKey.{SecKey}
use Rattle.cell_graph.specs.Order.{IsCut, Rises, below_row, below_section}

module _ {X : Type 0} (lt : X → X → Bool) (p : X → Bool) (down : (x y : X) → lt x y ≡ true → p y ≡ true → p x ≡ true) where
  head_passes : (x : X) (xs : List X) (j : ℕ) (d : X) → AllByRecursion (λ y. lt x y ≡ true) xs → j < length xs → p (get_or xs j d) ≡ true → p x ≡ true
  head_passes x [] j d below within h = absurd (omega arith)
  head_passes x (y ∷ xs) zero d below within h = down x y below.0 h
  head_passes x (y ∷ xs) (suc j) d below within h = head_passes x xs j d below.1 (omega arith) h

  -- what `partition_point` asks
  pub parted : (xs : List X) → Rises lt xs → IsPartitionedBy p xs
  parted [] rises i j d le within h = absurd (omega arith)
  parted (x ∷ xs) rises zero zero d le within h = h
  parted (x ∷ xs) rises zero (suc j) d le within h = head_passes x xs j d rises.0 (omega arith) h
  parted (x ∷ xs) rises (suc i) zero d le within h = absurd (omega arith)
  parted (x ∷ xs) rises (suc i) (suc j) d le within h = parted xs rises.1 i j d (omega arith) (omega arith) h

module _ {X : Type 0} (p : X → Bool) where
  none_passes : (xs : List X) → ((k : ℕ) (d : X) → k < length xs → p (get_or xs k d) ≡ false) → AllByRecursion (λ y. p y ≡ false) xs
  none_passes [] all = tt
  none_passes (x ∷ xs) all = (all zero x (omega arith), none_passes xs (λ k d within. all (suc k) d (omega arith)))

  -- what `partition_point` answers
  pub cut_of_point : (xs : List X) (n : ℕ) → n ≤ length xs → IsPartitionPoint (λ y. p y ≡ true) (λ y. p y ≡ false) xs n → IsCut p xs n
  cut_of_point [] n le point = omega arith
  cut_of_point (x ∷ xs) zero le point =
      (point.1 zero x (omega arith) (omega arith), none_passes xs (λ k d within. point.1 (suc k) d (omega arith) (omega arith)))
  cut_of_point (x ∷ xs) (suc n) le point = (
    point.0 zero x (omega arith) (omega arith),
    cut_of_point xs n (omega arith) (
      λ k d low high. point.0 (suc k) d (omega arith) (omega arith),
      λ k d low high. point.1 (suc k) d (omega arith) (omega arith),
    ),
  )

two_below : (a b c d e f : ℕ) → (ltb a c || eqb a c && ltb b d) ≡ true → (ltb c e || eqb c e && ltb d f) ≡ true → (ltb a e || eqb a e && ltb b f) ≡ true
two_below a b c d e f h k = grind (arith, tests)

three_below : (a b s c d t e f u : ℕ)
    → (ltb a c || eqb a c && (ltb b d || eqb b d && ltb s t)) ≡ true
    → (ltb c e || eqb c e && (ltb d f || eqb d f && ltb t u)) ≡ true
    → (ltb a e || eqb a e && (ltb b f || eqb b f && ltb s u)) ≡ true
three_below a b s c d t e f u h k = grind (arith, tests)

-- a section below one that is below another
pub below_section_trans : (a b c : SecKey) → below_section a b ≡ true → below_section b c ≡ true → below_section a c ≡ true
below_section_trans a b c h k = two_below a.cell.0 a.section b.cell.0 b.section c.cell.0 c.section h k

-- a link below one that is below another
pub below_row_trans : (a : SecKey) (m : ℕ) (b : SecKey) (n : ℕ) (c : SecKey) (o : ℕ) → below_row a m b n ≡ true → below_row b n c o ≡ true → below_row a m c o ≡ true
below_row_trans a m b n c o h k = three_below a.cell.0 m a.section b.cell.0 n b.section c.cell.0 o c.section h k

cell_down : (a b s c d t cell : ℕ) → (ltb a c || eqb a c && (ltb b d || eqb b d && ltb s t)) ≡ true → ltb c cell ≡ true → ltb a cell ≡ true
cell_down a b s c d t cell h k = grind (arith, tests)

cell_down_equal : (a b s c d t cell : ℕ) → (ltb a c || eqb a c && (ltb b d || eqb b d && ltb s t)) ≡ true → leb c cell ≡ true → leb a cell ≡ true
cell_down_equal a b s c d t cell h k = grind (arith, tests)

-- a link below one of a lower cell
pub below_row_lower : (a : SecKey) (m : ℕ) (b : SecKey) (n cell : ℕ) → below_row a m b n ≡ true → ltb b.cell.0 cell ≡ true → ltb a.cell.0 cell ≡ true
below_row_lower a m b n cell h k = cell_down a.cell.0 m a.section b.cell.0 n b.section cell h k

pub below_row_no_higher : (a : SecKey) (m : ℕ) (b : SecKey) (n cell : ℕ) → below_row a m b n ≡ true → leb b.cell.0 cell ≡ true → leb a.cell.0 cell ≡ true
below_row_no_higher a m b n cell h k = cell_down_equal a.cell.0 m a.section b.cell.0 n b.section cell h k

section_down : (a b c d cell : ℕ) → (ltb a c || eqb a c && ltb b d) ≡ true → ltb c cell ≡ true → ltb a cell ≡ true
section_down a b c d cell h k = grind (arith, tests)

section_down_equal : (a b c d cell : ℕ) → (ltb a c || eqb a c && ltb b d) ≡ true → leb c cell ≡ true → leb a cell ≡ true
section_down_equal a b c d cell h k = grind (arith, tests)

-- a section below one of a lower cell
pub below_section_lower : (a b : SecKey) (cell : ℕ) → below_section a b ≡ true → ltb b.cell.0 cell ≡ true → ltb a.cell.0 cell ≡ true
below_section_lower a b cell h k = section_down a.cell.0 a.section b.cell.0 b.section cell h k

pub below_section_no_higher : (a b : SecKey) (cell : ℕ) → below_section a b ≡ true → leb b.cell.0 cell ≡ true → leb a.cell.0 cell ≡ true
below_section_no_higher a b cell h k = section_down_equal a.cell.0 a.section b.cell.0 b.section cell h k
