-- A region of whole pages marks its pages in the page table, and no others.
use Rattle.std.proofs.Common.{◌≡◌, refl, sym, ◌∙◌, ap, ap₂, subst, arith, ℕ, zero, suc, ◌+◌, ◌-◌, ◌*◌, ◌≤◌, ◌<◌, ◌⊎◌, inl, inr, Bool, true, false, cond, ◌&&◌, ◌||◌, List, [], ◌∷◌, ◌++◌, map, length, take, drop, replicate, append_assoc, length-append}
use Rattle.std.specs.Prelude.{nat_lt, nat_le}
use Rattle.std.specs.List.{list_any}
use Rattle.std.proofs.lemmas.Bool.{and_from, lt-ltb, le-leb, le-ltb}
use Rattle.std.proofs.lemmas.Bool.Decides.{nat_tests}
use Rattle.std.proofs.lemmas.List.{map-append, length-map}
use lib.Seq.{take-append_seam, drop-append_seam}
use Rattle.cell_num.specs.Lists.{from_on, In}
use Rattle.cell_world.specs.World.{World, Region}
use Rattle.cell_world.specs.Running.Memory.{covers, end_of}
use Rattle.cell_world.specs.Placed.Pages.{filled}
use Rattle.cell_world.specs.Placed.Place.{is_taken, page_table, with_region}
use Rattle.cell_num.proofs.Elements.{map_same}

from_split : (a m n : ℕ) → from_on a (m + n) ≡ from_on a m ++ from_on (a + m) n
from_split a zero n = let i : zero + n ≡ n = omega arith in let j : a ≡ a + zero = omega arith in ap₂ from_on j i
from_split a (suc m) n =
    let i : suc m + n ≡ suc (m + n) = omega arith in
    let j : suc a + m ≡ a + suc m = omega arith in
    ap (from_on a) i ∙ (ap (λ xs. a ∷ xs) (from_split (suc a) m n) ∙ ap (λ (k : ℕ). a ∷ (from_on (suc a) m ++ from_on k n)) j)

pub from-In : (n a q : ℕ) → In q (from_on a n) → (a ≤ q) × (q < a + n)
from-In zero a q h = absurd h
from-In (suc n) a q (inl e) = (omega (arith, e), omega (arith, e))
from-In (suc n) a q (inr h) = let r : (suc a ≤ q) × (q < suc a + n) = from-In n (suc a) q h in (omega arith, omega arith)

pub length-from : (a n : ℕ) → length (from_on a n) ≡ n
length-from a zero = refl
length-from a (suc n) = ap suc (length-from (suc a) n)

all_true : (f : ℕ → Bool) (a n : ℕ) → ((q : ℕ) → a ≤ q → q < a + n → f q ≡ true) → map f (from_on a n) ≡ replicate n true
all_true f a zero h = refl
all_true f a (suc n) h = ap₂ (λ b (bs : List Bool). b ∷ bs) (h a (omega arith) (omega arith)) (all_true f (suc a) n (λ q l m. h q (omega (arith, l)) (omega (arith, m))))

module _ (f g : ℕ → Bool) (page n more : ℕ)
    (inside : (q : ℕ) → page ≤ q → q < page + n → g q ≡ true)
    (outside : (q : ℕ) → (q < page) ⊎ (page + n ≤ q) → g q ≡ f q) where
  three : (h : ℕ → Bool) → map h (from_on 0 (page + n + more)) ≡ map h (from_on 0 page) ++ (map h (from_on page n) ++ map h (from_on (page + n) more))
  three h =
      ap (map h) split
      ∙ (map-append h (from_on 0 page) (from_on page n ++ from_on (page + n) more)
      ∙ ap (λ xs. map h (from_on 0 page) ++ xs) (map-append h (from_on page n) (from_on (page + n) more)))
    where
      zeroes : (k : ℕ) → 0 + k ≡ k
      zeroes k = omega arith

      split : from_on 0 (page + n + more) ≡ from_on 0 page ++ (from_on page n ++ from_on (page + n) more)
      split =
          from_split 0 (page + n) more
          ∙ (ap (λ (k : ℕ). from_on 0 (page + n) ++ from_on k more) (zeroes (page + n))
          ∙ (ap (λ xs. xs ++ from_on (page + n) more) (from_split 0 page n ∙ ap (λ (k : ℕ). from_on 0 page ++ from_on k n) (zeroes page))
          ∙ append_assoc (from_on 0 page) (from_on page n) (from_on (page + n) more)))

  front : map g (from_on 0 page) ≡ map f (from_on 0 page)
  front = map_same g f (from_on 0 page) (λ q i. outside q (inl (omega (arith, (from-In page 0 q i).1))))

  back : map g (from_on (page + n) more) ≡ map f (from_on (page + n) more)
  back = map_same g f (from_on (page + n) more) (λ q i. outside q (inr (from-In more (page + n) q i).0))

  taken_front : take page (map f (from_on 0 (page + n + more))) ≡ map f (from_on 0 page)
  taken_front =
      ap (take page) (three f)
      ∙ subst (λ (k : ℕ). take k (map f (from_on 0 page) ++ (map f (from_on page n) ++ map f (from_on (page + n) more))) ≡ map f (from_on 0 page)) (long 0 page)
      (take-append_seam (map f (from_on 0 page)) (map f (from_on page n) ++ map f (from_on (page + n) more)))
    where
      long : (a k : ℕ) → length (map f (from_on a k)) ≡ k
      long a k = length-map (from_on a k) f ∙ length-from a k

  dropped_back : drop (page + n) (map f (from_on 0 (page + n + more))) ≡ map f (from_on (page + n) more)
  dropped_back =
      ap (drop (page + n)) (three f ∙ sym (append_assoc (map f (from_on 0 page)) (map f (from_on page n)) (map f (from_on (page + n) more))))
      ∙ subst (λ (k : ℕ). drop k (map f (from_on 0 page) ++ map f (from_on page n) ++ map f (from_on (page + n) more)) ≡ map f (from_on (page + n) more)) long
      (drop-append_seam (map f (from_on 0 page) ++ map f (from_on page n)) (map f (from_on (page + n) more)))
    where
      one : (a k : ℕ) → length (map f (from_on a k)) ≡ k
      one a k = length-map (from_on a k) f ∙ length-from a k

      long : length (map f (from_on 0 page) ++ map f (from_on page n)) ≡ page + n
      long = length-append (map f (from_on 0 page)) (map f (from_on page n)) ∙ ap₂ (λ a b. a + b) (one 0 page) (one page n)

  pub marked : map g (from_on 0 (page + n + more)) ≡ filled (map f (from_on 0 (page + n + more))) page n true
  marked =
      three g
      ∙ (ap₂ (λ xs ys. xs ++ ys) front (ap₂ (λ xs ys. xs ++ ys) (all_true g page n inside) back)
      ∙ (sym (append_assoc (map f (from_on 0 page)) (replicate n true) (map f (from_on (page + n) more)))
      ∙ ap₂ (λ xs ys. xs ++ replicate n true ++ ys) (sym taken_front) (sym dropped_back)))

-- one more region among others
pub any_inserted : (p : Region → Bool) (r : Region) (rs : List Region) → list_any p (with_region r rs) ≡ (p r || list_any p rs)
any_inserted p r [] = refl
any_inserted p r (s ∷ rs) = go (nat_lt r.start s.start) (any_inserted p r rs)
  where
    swap : (a b c : Bool) → (a || (b || c)) ≡ (b || (a || c))
    swap true true c = refl
    swap true false c = refl
    swap false b c = refl

    go : (b : Bool) → list_any p (with_region r rs) ≡ (p r || list_any p rs) → list_any p (cond b (r ∷ s ∷ rs) (s ∷ with_region r rs)) ≡ (p r || (p s || list_any p rs))
    go true e = refl
    go false e = ap (λ b. p s || b) e ∙ swap (p s) (p r) (list_any p rs)

module _ (w : World) (r : Region) (page n : ℕ) (start : r.start ≡ w.base + 4096 * page) (long : length r.bytes ≡ 4096 * n) where
  covered : (q : ℕ) → page ≤ q → q < page + n → covers r (w.base + 4096 * q) ≡ true
  covered q l m = and_from (nat_le r.start (w.base + 4096 * q)) (nat_lt (w.base + 4096 * q) (end_of r)) (le-leb r.start (w.base + 4096 * q) (omega (arith, start, l))) (lt-ltb (w.base + 4096 * q) (end_of r) (omega (arith, start, long, m)))

  uncovered : (q : ℕ) → (q < page) ⊎ (page + n ≤ q) → covers r (w.base + 4096 * q) ≡ false
  uncovered q (inl l) = below (le-ltb' r.start (w.base + 4096 * q) (omega (arith, start, l)))
    where
      le-ltb' : (a b : ℕ) → b < a → nat_le a b ≡ false
      le-ltb' a b l = grind (arith, nat_tests)

      below : nat_le r.start (w.base + 4096 * q) ≡ false → covers r (w.base + 4096 * q) ≡ false
      below e = ap (λ b. b && nat_lt (w.base + 4096 * q) (end_of r)) e
  uncovered q (inr l) = above (nat_le r.start (w.base + 4096 * q)) (le-ltb (w.base + 4096 * q) (end_of r) (omega (arith, start, long, l)))
    where
      above : (b : Bool) → nat_lt (w.base + 4096 * q) (end_of r) ≡ false → (b && nat_lt (w.base + 4096 * q) (end_of r)) ≡ false
      above true e = e
      above false e = refl

  abbrev with_it : World
  with_it = record w { regions = with_region r w.regions }

  taken_is : (q : ℕ) → is_taken with_it q ≡ (covers r (w.base + 4096 * q) || is_taken w q)
  taken_is q = any_inserted (λ s. covers s (w.base + 4096 * q)) r w.regions

  -- the region's pages are taken, and the others as before
  pub table_with : page + n ≤ w.pages → page_table with_it ≡ filled (page_table w) page n true
  table_with fits =
      subst (λ (k : ℕ). map (is_taken with_it) (from_on 0 k) ≡ filled (map (is_taken w) (from_on 0 k)) page n true) (omega (arith, fits))
      (marked (is_taken w) (is_taken with_it) page n (w.pages - (page + n))
      (λ q l m. taken_is q ∙ ap (λ b. b || is_taken w q) (covered q l m))
      (λ q l. taken_is q ∙ ap (λ b. b || is_taken w q) (uncovered q l)))
