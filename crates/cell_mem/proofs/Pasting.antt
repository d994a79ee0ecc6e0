-- Bytes that are written one after another.
use Rattle.std.proofs.Common.{◌≡◌, ℕ, suc, ◌+◌, ◌-◌, ◌<◌, ◌≤◌, ◌/◌, ◌%◌, List, [], ◌∷◌, ◌++◌, length, take, drop, ap, sym, ◌∙◌, arith, append_assoc, append-nil}
use Rattle.std.specs.Prelude.{slice_set}
use Rattle.std.proofs.lemmas.List.{take_more_set, drop-set-lt, take-append-drop}
use Rattle.cell_num.specs.Bits.{bytes_of}
use Rattle.cell_world.specs.Running.Memory.{pasted}

pub pasted_set : (bytes rest : List ℕ) (j b : ℕ) → j < length bytes → pasted (slice_set bytes j b) (j + 1) rest ≡ pasted bytes j (b ∷ rest)
pasted_set bytes rest j b lt =
    let front : take (j + 1) (slice_set bytes j b) ≡ take j bytes ++ b ∷ [] = take_more_set bytes j b lt in
    let back : drop (j + 1 + length rest) (slice_set bytes j b) ≡ drop (j + 1 + length rest) bytes = drop-set-lt (j + 1 + length rest) bytes j b (omega arith) in
    ap (λ xs. xs ++ rest ++ drop (j + 1 + length rest) (slice_set bytes j b)) front
    ∙ ap (λ ys. take j bytes ++ b ∷ [] ++ rest ++ ys) back
    ∙ ap (λ xs. xs ++ drop (j + 1 + length rest) bytes) (append_assoc (take j bytes) (b ∷ []) rest)
    ∙ ap (λ n. take j bytes ++ (b ∷ rest) ++ drop n bytes) (omega arith)

pub pasted_none : (bytes : List ℕ) (j : ℕ) → pasted bytes j [] ≡ bytes
pasted_none bytes j =
    ap (λ xs. xs ++ drop (j + 0) bytes) (append-nil (take j bytes)) ∙ ap (λ n. take j bytes ++ drop n bytes) (omega arith) ∙ take-append-drop j bytes

pub bytes_more : (w k n : ℕ) → k < w → bytes_of (w - k) n ≡ n % 256 ∷ bytes_of (w - (k + 1)) (n / 256)
bytes_more w k n lt = let more : w - k ≡ suc (w - (k + 1)) = omega arith in ap (λ m. bytes_of m n) more

pub bytes_none : (w k n : ℕ) → w ≤ k → bytes_of (w - k) n ≡ []
bytes_none w k n le = let none : w - k ≡ 0 = omega arith in ap (λ m. bytes_of m n) none

pub number_begun : (bytes : List ℕ) (at w n : ℕ) → pasted bytes (at + 0) (bytes_of (w - 0) n) ≡ pasted bytes at (bytes_of w n)
number_begun bytes at w n =
    let whole : w - 0 ≡ w = omega arith in
    ap (λ j. pasted bytes j (bytes_of (w - 0) n)) (omega arith) ∙ ap (λ m. pasted bytes at (bytes_of m n)) whole

-- one more byte of a number
pub number_more : (bytes all : List ℕ) (at k w n b : ℕ) → k < w → at + k < length bytes → b ≡ n % 256
    → pasted bytes (at + k) (bytes_of (w - k) n) ≡ all
    → pasted (slice_set bytes (at + k) b) (at + (k + 1)) (bytes_of (w - (k + 1)) (n / 256)) ≡ all
number_more bytes all at k w n b lt inside low far =
    ap (λ j. pasted (slice_set bytes (at + k) b) j (bytes_of (w - (k + 1)) (n / 256))) (omega arith)
    ∙ pasted_set bytes (bytes_of (w - (k + 1)) (n / 256)) (at + k) b inside
    ∙ ap (λ x. pasted bytes (at + k) (x ∷ bytes_of (w - (k + 1)) (n / 256))) low
    ∙ ap (pasted bytes (at + k)) (sym (bytes_more w k n lt))
    ∙ far

pub number_done : (bytes all : List ℕ) (at k w n : ℕ) → w ≤ k → pasted bytes (at + k) (bytes_of (w - k) n) ≡ all → bytes ≡ all
number_done bytes all at k w n le far = sym (pasted_none bytes (at + k)) ∙ ap (pasted bytes (at + k)) (sym (bytes_none w k n le)) ∙ far
