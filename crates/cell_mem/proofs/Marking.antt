-- The index with the pages of one region set.
use Rattle.std.proofs.Common.{◌≡◌, ℕ, ◌+◌, ◌*◌, ◌/◌, ◌%◌, ◌<◌, ◌≤◌, true, false, List, Option, None, length, sym, ap, ◌∙◌, ⊎_elim, arith}
use Rattle.std.specs.Prelude.{option_map}
use Rattle.std.specs.List.{find}
use Rattle.std.proofs.lemmas.Bool.{cases_lt}
use Rattle.cell_world.specs.Running.Memory.{end_of}
use Rattle.cell_world.specs.World.{Region}
use Rattle.cell_world.specs.Placed.Pages.{filled}
use Rattle.cell_mem.specs.Index.{IsIndex, IsWhole, covers_page, first_page}
use Rattle.cell_mem.proofs.Filling.{length-filled, filled_inside, filled_below, filled_above}
use Rattle.cell_mem.proofs.Laid.{covers_from, not_below, not_above}

module _ (base : ℕ) (rs : List Region) (firsts : List (Option ℕ)) (r : Region) (aligned : base % 4096 ≡ 0) (whole : IsWhole r) (above : base ≤ r.start)
    (below : end_of r ≤ base + 4096 * length firsts) where
  abbrev first : ℕ
  first = first_page base r

  abbrev count : ℕ
  count = length r.bytes / 4096

  pub run_inside : first + count ≤ length firsts
  run_inside = omega (arith, whole.aligned, whole.whole, aligned)

  on_page : (page : ℕ) → first ≤ page → page < first + count → covers_page base page r ≡ true
  on_page page low high =
      covers_from r (base + 4096 * page) (omega (arith, whole.aligned, aligned)) (omega (arith, whole.aligned, whole.whole, aligned))

  page_below : (page : ℕ) → page < first → covers_page base page r ≡ false
  page_below page low = not_below r (base + 4096 * page) (omega (arith, whole.aligned, aligned))

  page_above : (page : ℕ) → first + count ≤ page → covers_page base page r ≡ false
  page_above page high = not_above r (base + 4096 * page) (omega (arith, whole.aligned, whole.whole, aligned))

  -- where the regions are others, and other pages lie in what they lay in
  pub marked : (o : Option ℕ) (new : List Region) → IsIndex base rs firsts
      → ((page : ℕ) → covers_page base page r ≡ true → o ≡ option_map (first_page base) (find (covers_page base page) new))
      → ((page : ℕ) → covers_page base page r ≡ false → find (covers_page base page) new ≡ find (covers_page base page) rs)
      → IsIndex base new (filled firsts first count o)
  marked o new index own others page lt =
      let within : page < length firsts = omega (arith, length-filled firsts first count o run_inside, lt) in
      let left = λ (off : covers_page base page r ≡ false). index page within ∙ ap (option_map (first_page base)) (sym (others page off)) in
      ⊎_elim
      (λ (low : page < first). filled_below firsts first count o run_inside page None low ∙ left (page_below page low))
      (λ (low : first ≤ page).
      ⊎_elim
      (λ (high : page < first + count). filled_inside firsts first count o run_inside page None low high ∙ own page (on_page page low high))
      (λ (high : first + count ≤ page). filled_above firsts first count o run_inside page None high ∙ left (page_above page high))
      (cases_lt page (first + count)))
      (cases_lt page first)
