-- Regions of whole pages that stand apart: where each lies, that one alone covers an address, and what is left of them.
use Rattle.std.proofs.Common.{◌≡◌, refl, sym, ◌∙◌, ap, subst, arith, ℕ, inl, inr, Bool, true, false, cond, List, [], ◌∷◌, Some, ℕ, length, map}
use Rattle.std.specs.Prelude.{filter, find, is_some, ◌==◌}
use Rattle.cell_mem.specs.State.{size_of}
use Rattle.cell_num.specs.Lists.{In, each_pair}
use Rattle.cell_num.proofs.Elements.{In-all}
use Rattle.cell_mem.specs.Index.{IsLaid}
use Rattle.cell_mem.proofs.Laid.{Lies, covers_high, covers_low, laid_low, laid_lower}
use Rattle.cell_world.specs.Running.Memory.{covers, end_of}
use Rattle.cell_world.specs.World.{Region}
use Rattle.cell_world.specs.Coherent.{Shape, ends_before, shape_of}
use Rattle.std.specs.List.{list_all}
use Rattle.std.proofs.lemmas.Bool.{and_from, le-leb}

pub lies_in : (low : ℕ) (rs : List Region) (high : ℕ) → IsLaid low rs high → (r : Region) → In r rs → Lies low r high
lies_in low [] high h r i = absurd i
lies_in low (q ∷ rs) high h r (inl e) = subst (λ (x : Region). Lies low x high) (sym e) (record { above = h.0; whole = h.1; below = laid_low (end_of q) rs high h.2 })
lies_in low (q ∷ rs) high h r (inr i) =
    let rest = lies_in (end_of q) rs high h.2 r i in
    record { above = omega (arith, rest.above, h.0); whole = rest.whole; below = rest.below }

-- two that cover an address are one
pub covers_alone : (low : ℕ) (rs : List Region) (high addr : ℕ) → IsLaid low rs high → (r q : Region) → In r rs → In q rs → covers r addr ≡ true → covers q addr ≡ true → r ≡ q
covers_alone low [] high addr h r q i j c d = absurd i
covers_alone low (p ∷ rs) high addr h r q (inl e) (inl f) c d = e ∙ sym f
covers_alone low (p ∷ rs) high addr h r q (inl e) (inr j) c d =
    let k = covers_high p addr (subst (λ (x : Region). covers x addr ≡ true) e c) in
    absurd (omega (arith, k, (lies_in (end_of p) rs high h.2 q j).above, covers_low q addr d))
covers_alone low (p ∷ rs) high addr h r q (inr i) (inl f) c d =
    let k = covers_high p addr (subst (λ (x : Region). covers x addr ≡ true) f d) in
    absurd (omega (arith, k, (lies_in (end_of p) rs high h.2 r i).above, covers_low r addr c))
covers_alone low (p ∷ rs) high addr h r q (inr i) (inr j) c d = covers_alone (end_of p) rs high addr h.2 r q i j c d

-- two that start at one place are one
pub starts_alone : (low : ℕ) (rs : List Region) (high : ℕ) → IsLaid low rs high → (r q : Region) → In r rs → In q rs → r.start ≡ q.start → r ≡ q
starts_alone low [] high h r q i j e = absurd i
starts_alone low (p ∷ rs) high h r q (inl a) (inl b) e = a ∙ sym b
starts_alone low (p ∷ rs) high h r q (inl a) (inr j) e =
    absurd (omega (arith, (lies_in (end_of p) rs high h.2 q j).above, h.1.filled, ap (λ (x : Region). x.start) a, e))
starts_alone low (p ∷ rs) high h r q (inr i) (inl b) e =
    absurd (omega (arith, (lies_in (end_of p) rs high h.2 r i).above, h.1.filled, ap (λ (x : Region). x.start) b, e))
starts_alone low (p ∷ rs) high h r q (inr i) (inr j) e = starts_alone (end_of p) rs high h.2 r q i j e

-- some of them stand apart too
pub laid_some : (p : Region → Bool) (low : ℕ) (rs : List Region) (high : ℕ) → IsLaid low rs high → IsLaid low (filter p rs) high
laid_some p low [] high h = h
laid_some p low (r ∷ rs) high h = go (p r) (laid_some p (end_of r) rs high h.2)
  where
    go : (b : Bool) → IsLaid (end_of r) (filter p rs) high → IsLaid low (cond b (r ∷ filter p rs) (filter p rs)) high
    go true k = (h.0, h.1, k)
    go false k = laid_lower low (end_of r) (filter p rs) high (omega (arith, h.0)) k

-- regions that are laid out stand apart
pub laid_apart : (low : ℕ) (rs : List Region) (high : ℕ) → IsLaid low rs high → each_pair ends_before rs ≡ true
laid_apart low [] high h = refl
laid_apart low (r ∷ rs) high h =
    and_from (list_all (ends_before r) rs) (each_pair ends_before rs)
    (In-all (ends_before r) rs (λ s i. le-leb (end_of r) s.start ((lies_in (end_of r) rs high h.2 s i).above)))
    (laid_apart (end_of r) rs high h.2)

-- what hangs on the shapes of regions alone
pub same_sizes : (start : ℕ) (xs ys : List Region) → map shape_of xs ≡ map shape_of ys → size_of (find (λ r. r.start == start) xs) ≡ size_of (find (λ r. r.start == start) ys)
same_sizes start [] [] e = refl
same_sizes start [] (y ∷ ys) e = absurd cc
same_sizes start (x ∷ xs) [] e = absurd cc
same_sizes start (x ∷ xs) (y ∷ ys) e =
    let head : shape_of x ≡ shape_of y = cc e in
    let tail : map shape_of xs ≡ map shape_of ys = cc e in
    ap (λ n. size_of (cond (n == start) (Some x) (find (λ r. r.start == start) xs))) (ap (λ (s : Shape). s.start) head)
    ∙ go (y.start == start) (ap (λ (s : Shape). s.size) head) (same_sizes start xs ys tail)
  where
    go : (b : Bool) → length x.bytes ≡ length y.bytes → size_of (find (λ r. r.start == start) xs) ≡ size_of (find (λ r. r.start == start) ys)
        → size_of (cond b (Some x) (find (λ r. r.start == start) xs)) ≡ size_of (cond b (Some y) (find (λ r. r.start == start) ys))
    go true size rest = size
    go false size rest = rest

pub same_found : (start : ℕ) (xs ys : List Region) → map shape_of xs ≡ map shape_of ys → is_some (find (λ r. r.start == start) xs) ≡ is_some (find (λ r. r.start == start) ys)
same_found start [] [] e = refl
same_found start [] (y ∷ ys) e = absurd cc
same_found start (x ∷ xs) [] e = absurd cc
same_found start (x ∷ xs) (y ∷ ys) e =
    let head : shape_of x ≡ shape_of y = cc e in
    let tail : map shape_of xs ≡ map shape_of ys = cc e in
    ap (λ n. is_some (cond (n == start) (Some x) (find (λ r. r.start == start) xs))) (ap (λ (s : Shape). s.start) head)
    ∙ go (y.start == start) (same_found start xs ys tail)
  where
    go : (b : Bool) → is_some (find (λ r. r.start == start) xs) ≡ is_some (find (λ r. r.start == start) ys)
        → is_some (cond b (Some x) (find (λ r. r.start == start) xs)) ≡ is_some (cond b (Some y) (find (λ r. r.start == start) ys))
    go true rest = refl
    go false rest = rest
