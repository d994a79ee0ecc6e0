-- The lines of bytes, one after another.
use Rattle.std.proofs.Common.{◌≡◌, sym, ◌∙◌, ap, arith, ℕ, suc, ◌+◌, ◌-◌, ◌*◌, ◌<◌, ◌≤◌, List, [], ◌∷◌, ◌++◌, drop, get_or, map, take, length, length-drop}
use Rattle.std.proofs.lemmas.List.{drop-drop, take_all, length-map}
use Rattle.std.specs.Prelude.{Some, option_map, slice_get}
use Rattle.std.proofs.lemmas.Option.{slice_get-map}
use Rattle.cell_relinked.proofs.Gotten.{got}
use Rattle.cell_object.specs.declared.object.Section.{Section}
use Rattle.cell_world.specs.DumpLines.{lines_within}
use Rattle.cell_world.specs.declared.line.DumpLine.{DumpLine}
use Rattle.cell_world.specs.declared.line.DumpLine.TheVariants.{Content}
use Rattle.cell_world.specs.declared.line.Part.{Part}

module _ (at : Part) (n start : ℕ) (bytes : List ℕ) where
  -- the lines that are left behind so many
  abbrev pub lines_behind : ℕ → List DumpLine
  lines_behind k = lines_within (n - k) at (start + 64 * k) (drop (64 * k) bytes)

  pub lines_begun : lines_behind 0 ≡ lines_within n at start bytes
  lines_begun =
      let none : n - 0 ≡ n = omega arith in
      let first : start + 64 * 0 ≡ start = omega arith in
      ap (λ (m : ℕ). lines_within m at (start + 64 * 0) (drop (64 * 0) bytes)) none ∙ ap (λ (a : ℕ). lines_within n at a bytes) first

  one_line : (k : ℕ) → k < n → lines_behind k ≡ Content at (start + 64 * k) (take 64 (drop (64 * k) bytes)) ∷ [] ++ lines_behind (k + 1)
  one_line k lt =
      let more : n - k ≡ suc (n - (k + 1)) = omega (arith, lt) in
      let next : start + 64 * k + 64 ≡ start + 64 * (k + 1) = omega arith in
      let far : 64 * k + 64 ≡ 64 * (k + 1) = omega arith in
      ap (λ (m : ℕ). lines_within m at (start + 64 * k) (drop (64 * k) bytes)) more
      ∙ (ap (λ (a : ℕ). Content at (start + 64 * k) (take 64 (drop (64 * k) bytes)) ∷ lines_within (n - (k + 1)) at a (drop 64 (drop (64 * k) bytes))) next
      ∙ ap (λ (bs : List ℕ). Content at (start + 64 * k) (take 64 (drop (64 * k) bytes)) ∷ lines_within (n - (k + 1)) at (start + 64 * (k + 1)) bs)
      (drop-drop 64 (64 * k) bytes ∙ ap (λ (m : ℕ). drop m bytes) far))

  pub line_there : (k : ℕ) → k < n → (piece : List ℕ) → piece ≡ take 64 (drop (64 * k) bytes) → lines_behind k ≡ Content at (start + 64 * k) piece ∷ [] ++ lines_behind (k + 1)
  line_there k lt piece is = one_line k lt ∙ ap (λ (bs : List ℕ). Content at (start + 64 * k) bs ∷ [] ++ lines_behind (k + 1)) (sym is)

  pub no_lines : (k : ℕ) → n ≤ k → lines_behind k ≡ []
  no_lines k le = let none : n - k ≡ 0 = omega (arith, le) in ap (λ (m : ℕ). lines_within m at (start + 64 * k) (drop (64 * k) bytes)) none

-- the bytes of a line are the last ones, or 64
pub last_bytes : (bytes : List ℕ) (from : ℕ) → length bytes - from < 64 → take (length bytes - from) (drop from bytes) ≡ take 64 (drop from bytes)
last_bytes bytes from lt =
    let size = length-drop from bytes in
    take_all (length bytes - from) (drop from bytes) (omega (arith, size)) ∙ sym (take_all 64 (drop from bytes) (omega (arith, size, lt)))

pub whole_line : (bytes : List ℕ) (from : ℕ) → take (from + 64 - from) (drop from bytes) ≡ take 64 (drop from bytes)
whole_line bytes from = let n : from + 64 - from ≡ 64 = omega arith in ap (λ (m : ℕ). take m (drop from bytes)) n

-- what is read of contents that are those of sections
pub content_here : (content : Section → List ℕ) (contents : List (List ℕ)) (sections : List Section) → contents ≡ map content sections → (i : ℕ) (s : Section) (bytes : List ℕ)
    → i < length sections → s ≡ get_or sections i s → bytes ≡ get_or contents i bytes → bytes ≡ content s
content_here content contents sections are i s bytes lt at here =
    some_same (sym (got contents i bytes few here) ∙ (ap (λ (cs : List (List ℕ)). slice_get cs i) are ∙ (slice_get-map content sections i ∙ ap (option_map content) (got sections i s lt at))))
  where
    few : i < length contents
    few = let same = ap (λ (cs : List (List ℕ)). length cs) are ∙ length-map sections content in omega (arith, same, lt)

    some_same : Some bytes ≡ Some (content s) → bytes ≡ content s
    some_same k = cc
