-- Free runs of a table, page by page from its end.
use Rattle.std.proofs.Common.{◌≡◌, ℕ, zero, suc, ◌+◌, ◌-◌, ◌<◌, ◌≤◌, Bool, true, false, not, cond, ◌&&◌, List, [], ◌∷◌, Option, Some, None, length, drop, get_or, leb, max, refl, sym, ap, ◌∙◌, ⊎_elim, ◌⊎◌, inl, inr, arith, add-one, length-drop}
use Rattle.std.specs.List.{prefix_len, find}
use Rattle.std.proofs.Math.Dec.{leb-zero, leb-suc-zero}
use Rattle.std.proofs.lemmas.List.{drop_more, get_or_default, get_or_past, drop_all}
use Rattle.std.proofs.lemmas.Bool.{cases_lt, leb-true, and_parts, false≢true}
use Rattle.std.proofs.lemmas.List.Sums.{prefix_len-le-length}
use Rattle.std.proofs.lemmas.Bool.Decides.{nat_tests}
use Rattle.cell_num.specs.Lists.{from_on}
use Rattle.cell_world.specs.Placed.Pages.{is_free_run, is_taken_run, lowest_run}
use Rattle.cell_place.specs.declared.search.Found.{Found}
use Rattle.cell_place.specs.Runs.{AreTakenBefore, HasRun, IsFound}

-- the table from a page on, where the page is in it
pub from_page : (table : List Bool) (page : ℕ) (b : Bool) → page < length table → get_or table page true ≡ b → drop page table ≡ b ∷ drop (page + 1) table
from_page table page b lt e = drop_more table page true lt ∙ ap (λ x. x ∷ drop (page + 1) table) e

one_more : (b : Bool) (n m : ℕ) → not b && leb n m ≡ leb (suc n) (cond (not b) (1 + m) 0)
one_more true n m = sym (leb-suc-zero n)
one_more false n m = grind (arith, nat_tests)

-- n pages are free from a page on exactly where no fewer are free there without a gap
pub free_run_is : (table : List Bool) (page n : ℕ) → is_free_run table page n ≡ leb n (prefix_len not (drop page table))
free_run_is table page zero = sym (leb-zero (prefix_len not (drop page table)))
free_run_is table page (suc n) =
    ap (λ b. not (get_or table page true) && b) (free_run_is table (suc page) n)
    ∙ ⊎_elim head past (cases_lt page (length table))
  where
    head : page < length table → not (get_or table page true) && leb n (prefix_len not (drop (suc page) table)) ≡ leb (suc n) (prefix_len not (drop page table))
    head lt =
        rw (drop_more table page true lt, add-one)
        (one_more (get_or table page true) n (prefix_len not (drop (suc page) table)))

    past : length table ≤ page → not (get_or table page true) && leb n (prefix_len not (drop (suc page) table)) ≡ leb (suc n) (prefix_len not (drop page table))
    past le =
        rw (get_or_past table page true le, drop_all page table le)
        (sym (leb-suc-zero n))

from_on_head : (page n : ℕ) → page < n → from_on page (n - page) ≡ page ∷ from_on (page + 1) (n - (page + 1))
from_on_head page n lt =
    let e : n - page ≡ suc (n - (page + 1)) = omega arith in
    rw (e, add-one) refl

module _ (table : List Bool) (page : ℕ) (lt : page < length table) (found : Found) (h : IsFound table (page + 1) found) where
  -- a taken page ends the run
  pub taken_page : get_or table page true ≡ true → IsFound table page (record found { free = 0 })
  taken_page e = let here = from_page table page true lt e in record { free = rw here refl; longest = rw here (omega (arith, h.longest)) }

  -- a free page makes the run one longer
  pub free_page : (longest : ℕ) → longest ≡ max found.longest (found.free + 1) → get_or table page true ≡ false → IsFound table page (record { free = found.free + 1; longest = longest })
  free_page longest l e =
      let here = from_page table page false lt e in
      let free : found.free + 1 ≡ prefix_len not (drop page table) = rw here (omega (arith, h.free)) in
      record { free = free; longest = rw here (omega (arith, l, h.longest, h.free)) }

module _ (table : List Bool) where
  both_false : (a b : Bool) → b ≡ false → a && b ≡ false
  both_false true b e = e
  both_false false b e = refl

  -- a run with a taken page in it isn't free
  hit : (n p k : ℕ) → p ≤ k → k < p + n → get_or table k true ≡ true → is_free_run table p n ≡ false
  hit zero p k le lt e = absurd (omega arith)
  hit (suc n) p k le lt e = go (λ below. hit n (suc p) k (omega arith) (omega arith) e) (cases_lt p k)
    where
      here : k ≤ p → is_free_run table p (suc n) ≡ false
      here past = let same : p ≡ k = omega arith in ap (λ b. not b && is_free_run table (suc p) n) (ap (λ m. get_or table m true) same ∙ e)

      go : (p < k → is_free_run table (suc p) n ≡ false) → (p < k) ⊎ (k ≤ p) → is_free_run table p (suc n) ≡ false
      go later (inl below) = both_false (not (get_or table p true)) (is_free_run table (suc p) n) (later below)
      go later (inr past) = here past

  -- a free run goes on with a free page
  run_more : (n p : ℕ) → is_free_run table p n ≡ true → get_or table (p + n) true ≡ false → is_free_run table p (suc n) ≡ true
  run_more zero p run e = let here : p + 0 ≡ p = omega arith in ap (λ b. not b && true) (ap (λ m. get_or table m true) (sym here) ∙ e)
  run_more (suc n) p run e =
      let parts = and_parts (not (get_or table p true)) (is_free_run table (suc p) n) run in
      let at : suc p + n ≡ p + suc n = omega arith in
      ap (λ b. b && is_free_run table (suc p) (suc n)) parts.0
      ∙ run_more n (suc p) parts.1 (ap (λ m. get_or table m true) at ∙ e)

  run_longer : (n p : ℕ) → is_free_run table p n ≡ true → get_or table (p + n) true ≡ false → is_free_run table p (n + 1) ≡ true
  run_longer n p run e = let one : n + 1 ≡ suc n = omega arith in ap (is_free_run table p) one ∙ run_more n p run e

  module _ (count : ℕ) where
    abbrev test : ℕ → Bool
    test page = is_free_run table page count

    abbrev pub lowest_on : ℕ → Option ℕ
    lowest_on page = find test (from_on page (length table - page))

    found_here : (page : ℕ) (b : Bool) → page < length table → test page ≡ b → lowest_on page ≡ cond b (Some page) (lowest_on (page + 1))
    found_here page b lt e = ap (find test) (from_on_head page (length table) lt) ∙ ap (λ x. cond x (Some page) (lowest_on (page + 1))) e

    -- pages from which too few are free may be left out
    skip : (more page : ℕ) → page + more ≤ length table → ((p : ℕ) → page ≤ p → p < page + more → test p ≡ false) → lowest_on page ≡ lowest_on (page + more)
    skip zero page le none = let same : page ≡ page + 0 = omega arith in ap lowest_on same
    skip (suc more) page le none =
        let at : page + 1 + more ≡ page + suc more = omega arith in
        found_here page false (omega arith) (none page (omega arith) (omega arith))
        ∙ skip more (page + 1) (omega arith) (λ p low high. none p (omega arith) (omega arith))
        ∙ ap lowest_on at

    module _ (wanted : 1 ≤ count) where
      pub begins : (from : ℕ) → from ≤ length table → AreTakenBefore table from → lowest_run table count ≡ lowest_on from
      begins from le before =
          let inside : 0 + from ≤ length table = omega arith in
          let all : length table ≡ length table - 0 = omega arith in
          let at : 0 + from ≡ from = omega arith in
          ap (λ n. find test (from_on 0 n)) all
          ∙ skip from 0 inside (λ p low high. hit count p p (omega arith) (omega arith) (before p (omega arith)))
          ∙ ap lowest_on at

      -- so many pages are free up to a page, too few, and none before has enough
      module _ (page free : ℕ) (short : free < count) (up : free ≤ page) (so_far : lowest_run table count ≡ lowest_on (page - free)) where
        pub past_taken : page < length table → get_or table page true ≡ true → lowest_run table count ≡ lowest_on (page + 1)
        past_taken lt e =
            let at : page - free + (free + 1) ≡ page + 1 = omega arith in
            so_far ∙ skip (free + 1) (page - free) (omega arith) (λ p low high. hit count p page (omega arith) (omega arith) e) ∙ ap lowest_on at

        pub past_free : lowest_run table count ≡ lowest_on (page + 1 - (free + 1))
        past_free = let same : page - free ≡ page + 1 - (free + 1) = omega arith in so_far ∙ ap lowest_on same

        pub found_one : page < length table → is_free_run table (page - free) free ≡ true → get_or table page true ≡ false → free + 1 ≡ count → lowest_run table count ≡ Some (page + 1 - (free + 1))
        found_one lt run e enough =
            let at : page - free + free ≡ page = omega arith in
            let whole : is_free_run table (page - free) (free + 1) ≡ true = run_longer free (page - free) run (ap (λ m. get_or table m true) at ∙ e) in
            let same : page - free ≡ page + 1 - (free + 1) = omega arith in
            so_far ∙ found_here (page - free) true (omega arith) (ap (is_free_run table (page - free)) (sym enough) ∙ whole) ∙ ap Some same

        pub found_none : length table ≤ page → page ≤ length table → lowest_run table count ≡ None
        found_none end inside =
            let at : page - free + free ≡ length table = omega arith in
            let none : length table - length table ≡ 0 = omega arith in
            so_far
            ∙ skip free (page - free) (omega arith) (λ p low high. hit count p (length table) (omega arith) (omega arith) (get_or_past table (length table) true (omega arith)))
            ∙ ap lowest_on at ∙ ap (λ n. find test (from_on (length table) n)) none

module _ (table : List Bool) (count : ℕ) (wanted : 1 ≤ count) where
  no_less : (n : ℕ) → n ≡ n - 0
  no_less n = omega arith

  pub first_run : (from : ℕ) → from ≤ length table → AreTakenBefore table from → HasRun table count from 0
  first_run from le before = record { short = omega arith; up = omega arith; run = refl; so_far = begins table count wanted from le before ∙ ap (lowest_on table count) (no_less from) }

  module _ (page free new : ℕ) (h : HasRun table count page free) where
    -- one page more
    more_by : (b : Bool) → page < length table → get_or table page true ≡ b → new ≡ cond b 0 (free + 1) → new < count → HasRun table count (page + 1) new
    more_by true lt e is short = record { short = short; up = omega (arith, is); run = rw is refl; so_far = rw is (past_taken table count wanted page free h.short h.up h.so_far lt e ∙ ap (lowest_on table count) (no_less (page + 1))) }
    more_by false lt e is short =
        let at : page - free + free ≡ page = let up = h.up in omega arith in
        let same : page - free ≡ page + 1 - (free + 1) = omega arith in
        let whole : is_free_run table (page + 1 - (free + 1)) (free + 1) ≡ true = ap (λ p. is_free_run table p (free + 1)) (sym same) ∙ run_longer table free (page - free) h.run (ap (λ m. get_or table m true) at ∙ e) in
        record { short = short; up = let up = h.up in omega (arith, is); run = rw is whole; so_far = rw is (past_free table count wanted page free h.short h.up h.so_far) }

    found_by : (b : Bool) → page < length table → get_or table page true ≡ b → new ≡ cond b 0 (free + 1) → count ≤ new → Some (page + 1 - new) ≡ lowest_run table count
    found_by true lt e is enough = absurd (omega (arith, is))
    found_by false lt e is enough =
        let exact : free + 1 ≡ count = let short = h.short in omega (arith, is) in
        rw is (sym (found_one table count wanted page free h.short h.up h.so_far lt h.run e exact))

    as_read : page < length table → get_or table page true ≡ get_or table page false
    as_read lt = get_or_default table page true false lt

    pub run_goes_on : page < length table → new ≡ cond (get_or table page false) 0 (free + 1) → new < count → HasRun table count (page + 1) new
    run_goes_on lt is short = more_by (get_or table page false) lt (as_read lt) is short

    pub run_found : page < length table → new ≡ cond (get_or table page false) 0 (free + 1) → count ≤ new → Some (page + 1 - new) ≡ lowest_run table count
    run_found lt is enough = found_by (get_or table page false) lt (as_read lt) is enough

  pub no_run : (page free : ℕ) → HasRun table count page free → length table ≤ page → page ≤ length table → None ≡ lowest_run table count
  no_run page free h end inside = sym (found_none table count wanted page free h.short h.up h.so_far end inside)

find_passes : {X : Type 0} (test : X → Bool) (xs : List X) (x : X) → find test xs ≡ Some x → test x ≡ true
find_passes test [] x e = cc
find_passes test (y ∷ ys) x e = go (test y) refl e (find_passes test ys x)
  where
    go : (b : Bool) → test y ≡ b → cond b (Some y) (find test ys) ≡ Some x → (find test ys ≡ Some x → test x ≡ true) → test x ≡ true
    go true t f later = let same : y ≡ x = cc in rw (← same) t
    go false t f later = later f

-- the lowest run is in the table
pub lowest_inside : (table : List Bool) (n page : ℕ) → 1 ≤ n → lowest_run table n ≡ Some page → page + n ≤ length table
lowest_inside table n page wanted e =
    let free : leb n (prefix_len not (drop page table)) ≡ true = sym (free_run_is table page n) ∙ find_passes (λ p. is_free_run table p n) _ page e in
    let enough : n ≤ prefix_len not (drop page table) = leb-true _ _ free in
    omega (arith, prefix_len-le-length not (drop page table), length-drop page table)

-- pages that are taken are in the table
pub taken_inside : (table : List Bool) (page n : ℕ) → is_taken_run table page n ≡ true → 1 ≤ n → page + n ≤ length table
taken_inside table page zero e wanted = absurd (omega arith)
taken_inside table page (suc zero) e wanted =
    let here : get_or table page false ≡ true = (and_parts (get_or table page false) true e).0 in
    ⊎_elim (λ lt. omega arith) (λ le. absurd (false≢true (sym (get_or_past table page false le) ∙ here))) (cases_lt page (length table))
taken_inside table page (suc (suc n)) e wanted =
    let later : is_taken_run table (suc page) (suc n) ≡ true = (and_parts (get_or table page false) _ e).1 in
    omega (arith, taken_inside table (suc page) (suc n) later (omega arith))
