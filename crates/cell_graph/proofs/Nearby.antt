-- Cuts that are seen at one index, and the links of a cell between two of them.
use Rattle.std.proofs.Common.{◌≡◌, ◌∙◌, ℕ, zero, suc, ◌+◌, ◌-◌, ◌<◌, ◌≤◌, ◌⊎◌, inl, inr, Bool, true, false, leb, ltb, List, [], ◌∷◌, length, take, drop, get_or, refl, sym, ap, subst, arith, tests, below_more}
use Rattle.std.specs.List.{AllByRecursion}
use Rattle.std.specs.List.Sorted.{IsPartitionedBy}
use Rattle.std.proofs.lemmas.Bool.{false≢true}
use Rattle.std.proofs.lemmas.List.{get_or_default}
use Rattle.cell_graph.specs.declared.order.RowPlace.{RowPlace}
use Rattle.cell_graph.specs.Lists.{IsCellRange, RowsRise, below_row_place}
use Rattle.cell_graph.specs.Order.{IsCut, Rises}
use Rattle.cell_graph.proofs.Cuts.{parted, cut_of_point, below_row_lower, below_row_no_higher}

stays_false : (a b : Bool) → (a ≡ true → b ≡ true) → b ≡ false → a ≡ false
stays_false true b goes fails = absurd (false≢true (sym fails ∙ goes refl))
stays_false false b goes fails = refl

module _ {X : Type 0} (p : X → Bool) where
  -- what stands before the index passes with the last of it, and what comes later fails with the first of it
  pub cut_here : (xs : List X) (n : ℕ) → IsPartitionedBy p xs → n ≤ length xs
      → (n ≡ 0) ⊎ ((d : X) → p (get_or xs (n - 1) d) ≡ true)
      → (n ≡ length xs) ⊎ ((d : X) → p (get_or xs n d) ≡ false)
      → IsCut p xs n
  cut_here xs n ordered within low high = cut_of_point p xs n within (before low, behind high)
    where
      before : (n ≡ 0) ⊎ ((d : X) → p (get_or xs (n - 1) d) ≡ true) → (k : ℕ) (d : X) → 0 ≤ k → k < n → p (get_or xs k d) ≡ true
      before (inl none) k d a b = absurd (omega arith)
      before (inr last) k d a b = ordered k (n - 1) d (omega arith) (omega arith) (last d)

      behind : (n ≡ length xs) ⊎ ((d : X) → p (get_or xs n d) ≡ false) → (k : ℕ) (d : X) → n ≤ k → k < length xs → p (get_or xs k d) ≡ false
      behind (inl none) k d a b = absurd (omega arith)
      behind (inr first) k d a b = stays_false (p (get_or xs k d)) (p (get_or xs n d)) (ordered n k d a b) (first d)

  -- so many pass, and no more do
  pub cut_counted : (xs : List X) (n : ℕ) → IsPartitionedBy p xs → n ≤ length xs → ((k : ℕ) (d : X) → k < n → p (get_or xs k d) ≡ true)
      → (n ≡ length xs) ⊎ ((d : X) → p (get_or xs n d) ≡ false)
      → IsCut p xs n
  cut_counted xs n ordered within low high = cut_of_point p xs n within (λ k d a b. low k d b, behind high)
    where
      behind : (n ≡ length xs) ⊎ ((d : X) → p (get_or xs n d) ≡ false) → (k : ℕ) (d : X) → n ≤ k → k < length xs → p (get_or xs k d) ≡ false
      behind (inl none) k d a b = absurd (omega arith)
      behind (inr first) k d a b = stays_false (p (get_or xs k d)) (p (get_or xs n d)) (ordered n k d a b) (first d)

  all_taken : (k : ℕ) (ys : List X) → AllByRecursion (λ y. p y ≡ false) ys → AllByRecursion (λ y. p y ≡ false) (take k ys)
  all_taken zero ys all = tt
  all_taken (suc k) [] all = tt
  all_taken (suc k) (y ∷ ys) all = (all.0, all_taken k ys all.1)

  none_in : (k : ℕ) (xs : List X) → IsCut p xs zero → IsCut p (take k xs) zero
  none_in zero xs cut = refl
  none_in (suc k) [] cut = refl
  none_in (suc k) (x ∷ xs) cut = (cut.0, all_taken k xs cut.1)

  pub cut_taken : (xs : List X) (n m : ℕ) → IsCut p xs n → IsCut p (take (n + m) xs) n
  cut_taken xs zero m cut = none_in (0 + m) xs cut
  cut_taken [] (suc n) m cut = absurd (omega (arith, cut))
  cut_taken (x ∷ xs) (suc n) m cut =
      let next : suc (n + m) ≡ suc n + m = omega arith in
      subst (λ k. IsCut p (take k (x ∷ xs)) (suc n)) next (cut.0, cut_taken xs n m cut.1)

module _ {X : Type 0} (p q : X → Bool) (more : (x : X) → p x ≡ true → q x ≡ true) where
  -- a cut in what is left behind another
  pub cut_behind : (xs : List X) (n m : ℕ) → IsCut p xs n → IsCut q (drop n xs) m → IsCut q xs (n + m)
  cut_behind xs zero m first second = let all : m ≡ 0 + m = omega arith in subst (λ k. IsCut q xs k) all second
  cut_behind [] (suc n) m first second = absurd (omega (arith, first))
  cut_behind (x ∷ xs) (suc n) m first second =
      let next : suc (n + m) ≡ suc n + m = omega arith in
      subst (λ k. IsCut q (x ∷ xs) k) next (more x first.0, cut_behind xs n m first.1 second)

module _ {X : Type 0} where
  none_taken : (k : ℕ) → ◌≡◌ {A = List X} (take k []) []
  none_taken zero = refl
  none_taken (suc k) = refl

  none_dropped : (k : ℕ) → ◌≡◌ {A = List X} (drop k []) []
  none_dropped zero = refl
  none_dropped (suc k) = refl

  none_behind : (m n : ℕ) → ◌≡◌ {A = List X} (take m (drop n [])) (drop n (take (n + m) []))
  none_behind m n = ap (take m) (none_dropped n) ∙ none_taken m ∙ sym (ap (drop n) (none_taken (n + m)) ∙ none_dropped n)

pub between_taken : {X : Type 0} (xs : List X) (n m : ℕ) → take m (drop n xs) ≡ drop n (take (n + m) xs)
between_taken xs zero m = let all : m ≡ 0 + m = omega arith in ap (λ k. take k xs) all
between_taken [] (suc n) m = none_behind m (suc n)
between_taken (x ∷ xs) (suc n) m =
    let next : suc (n + m) ≡ suc n + m = omega arith in
    between_taken xs n m ∙ ap (λ k. drop (suc n) (take k (x ∷ xs))) next

pub rises_drop : {X : Type 0} (lt : X → X → Bool) (n : ℕ) (xs : List X) → Rises lt xs → Rises lt (drop n xs)
rises_drop lt zero xs rises = rises
rises_drop lt (suc n) [] rises = tt
rises_drop lt (suc n) (x ∷ xs) rises = rises_drop lt n xs rises.1

pub lower_parted : (cell : ℕ) (list : List RowPlace) → RowsRise list → IsPartitionedBy (λ (r : RowPlace). ltb r.user.cell.0 cell) list
lower_parted cell list rises =
    parted below_row_place (λ r. ltb r.user.cell.0 cell) (λ x y h k. below_row_lower x.user x.entry y.user y.entry cell h k) list rises

pub up_to_parted : (cell : ℕ) (list : List RowPlace) → RowsRise list → IsPartitionedBy (λ (r : RowPlace). leb r.user.cell.0 cell) list
up_to_parted cell list rises =
    parted below_row_place (λ r. leb r.user.cell.0 cell) (λ x y h k. below_row_no_higher x.user x.entry y.user y.entry cell h k) list rises

lower_as : (a n : ℕ) → a < n → ltb a n ≡ true
lower_as a n lt = grind (arith, tests)

not_lower : (a n : ℕ) → n ≤ a → ltb a n ≡ false
not_lower a n le = grind (arith, tests)

up_to_as : (a n : ℕ) → a ≤ n → leb a n ≡ true
up_to_as a n le = grind (arith, tests)

above_as : (a n : ℕ) → n < a → leb a n ≡ false
above_as a n lt = grind (arith, tests)

module _ (list : List RowPlace) (cell : ℕ) (rises : RowsRise list) where
  number_at : (i : ℕ) (d e : RowPlace) → i < length list → (get_or list i d).user.cell.0 ≡ (get_or list i e).user.cell.0
  number_at i d e lt = ap (λ (r : RowPlace). r.user.cell.0) (get_or_default list i d e lt)

  pub lower_at : (i : ℕ) (d : RowPlace) → i < length list → (get_or list i d).user.cell.0 < cell → (e : RowPlace) → (get_or list i e).user.cell.0 < cell
  lower_at i d lt low e = let same = number_at i d e lt in omega (arith, low, same)

  pub no_lower_at : (i : ℕ) (d : RowPlace) → i < length list → cell ≤ (get_or list i d).user.cell.0 → (e : RowPlace) → cell ≤ (get_or list i e).user.cell.0
  no_lower_at i d lt high e = let same = number_at i d e lt in omega (arith, high, same)

  -- the lower ones end at the index, where the one before it is lower and its own isn't
  pub starts_here : (n : ℕ) → n ≤ length list
      → (n ≡ 0) ⊎ ((d : RowPlace) → (get_or list (n - 1) d).user.cell.0 < cell)
      → (n ≡ length list) ⊎ ((d : RowPlace) → cell ≤ (get_or list n d).user.cell.0)
      → IsCut (λ r. ltb r.user.cell.0 cell) list n
  starts_here n within low high = cut_here (λ r. ltb r.user.cell.0 cell) list n (lower_parted cell list rises) within (below low) (behind high)
    where
      below : (n ≡ 0) ⊎ ((d : RowPlace) → (get_or list (n - 1) d).user.cell.0 < cell) → (n ≡ 0) ⊎ ((d : RowPlace) → ltb (get_or list (n - 1) d).user.cell.0 cell ≡ true)
      below (inl none) = inl none
      below (inr last) = inr (λ d. lower_as (get_or list (n - 1) d).user.cell.0 cell (last d))

      behind : (n ≡ length list) ⊎ ((d : RowPlace) → cell ≤ (get_or list n d).user.cell.0) → (n ≡ length list) ⊎ ((d : RowPlace) → ltb (get_or list n d).user.cell.0 cell ≡ false)
      behind (inl none) = inl none
      behind (inr first) = inr (λ d. not_lower (get_or list n d).user.cell.0 cell (first d))

  -- one more that isn't above
  pub one_more : (n : ℕ) (x : RowPlace) → n < length list → (get_or list n x).user.cell.0 ≤ cell
      → ((k : ℕ) (d : RowPlace) → k < n → leb (get_or list k d).user.cell.0 cell ≡ true)
      → (k : ℕ) (d : RowPlace) → k < n + 1 → leb (get_or list k d).user.cell.0 cell ≡ true
  one_more n x there le so_far k d lt = below_more (λ k. (d : RowPlace) → leb (get_or list k d).user.cell.0 cell ≡ true) n (λ k lt d. so_far k d lt) here k lt d
    where
      here : (d : RowPlace) → leb (get_or list n d).user.cell.0 cell ≡ true
      here d = let same = number_at n d x there in up_to_as (get_or list n d).user.cell.0 cell (omega (arith, le, same))

  -- the first one above ends those of the cell
  pub ends_here : (n : ℕ) (x : RowPlace) → n < length list → cell < (get_or list n x).user.cell.0
      → ((k : ℕ) (d : RowPlace) → k < n → leb (get_or list k d).user.cell.0 cell ≡ true)
      → IsCut (λ r. leb r.user.cell.0 cell) list n
  ends_here n x there above so_far =
      cut_counted (λ r. leb r.user.cell.0 cell) list n (up_to_parted cell list rises) (omega arith) so_far
      (inr (λ d. let same = number_at n d x there in above_as (get_or list n d).user.cell.0 cell (omega (arith, above, same))))

  pub none_above : (n : ℕ) → n ≡ length list → ((k : ℕ) (d : RowPlace) → k < n → leb (get_or list k d).user.cell.0 cell ≡ true) → IsCut (λ r. leb r.user.cell.0 cell) list n
  none_above n all so_far = cut_counted (λ r. leb r.user.cell.0 cell) list n (up_to_parted cell list rises) (omega (arith, all)) so_far (inl all)

lower_up_to : (a c : ℕ) → ltb a c ≡ true → leb a c ≡ true
lower_up_to a c h = grind (arith, tests)

-- the links of a cell stand from where the lower ones end, so many as are counted there
pub range_of : (list part : List RowPlace) (cell start count : ℕ)
    → IsCut (λ r. ltb r.user.cell.0 cell) list start
    → IsCut (λ r. leb r.user.cell.0 cell) (drop start list) count
    → part ≡ take count (drop start list)
    → IsCellRange list cell part
range_of list part cell start count low up is = record {
  start = start;
  end = start + count;
  end_cut = cut_behind (λ (r : RowPlace). ltb r.user.cell.0 cell) (λ (r : RowPlace). leb r.user.cell.0 cell) (λ r h. lower_up_to r.user.cell.0 cell h) list start count low up;
  start_cut = cut_taken (λ (r : RowPlace). ltb r.user.cell.0 cell) list start count low;
  is = is ∙ between_taken list start count;
}
