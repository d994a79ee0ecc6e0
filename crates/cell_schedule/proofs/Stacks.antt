-- Four pages in a row that are free, for a new stack.
use Rattle.std.proofs.Common.{◌≡◌, refl, sym, ◌∙◌, ap, arith, ℕ, zero, suc, ◌+◌, ◌≤◌, ◌<◌, ◌⊎◌, inl, inr, Bool, true, false, not, true≢false, List, length, get_or, Option, Some, None, Ok, Err}
use Rattle.std.specs.List.{list_all}
use Rattle.std.specs.Prelude.{Result, slice_index_or}
use Rattle.std.proofs.lemmas.Bool.{and_parts, cases_lt}
use Rattle.std.proofs.lemmas.List.{ext_get_or}
use Rattle.cell_num.specs.Lists.{from_on}
use Rattle.cell_world.specs.Placed.Pages.{filled, is_free, is_free_run, is_taken_run, longest_run, lowest_run}
use Rattle.cell_mem.proofs.Filling.{filled_above, filled_below, filled_inside, length-filled}
use Rattle.cell_place.specs.declared.search.NoRun.{NoRun}
use Rattle.cell_place.specs.declared.search.Run.{Run}
use Rattle.cell_place.specs.Runs.{run_of}
use Rattle.cell_schedule.proofs.Freed.{each_from}

-- what all numbers of a run pass, each passes
in_from : (test : ℕ → Bool) (n a : ℕ) → list_all test (from_on a n) ≡ true → (q : ℕ) → a ≤ q → q < a + n → test q ≡ true
in_from test zero a h q l m = absurd (omega (arith, l, m))
in_from test (suc n) a h q l m =
    let p = and_parts (test a) (list_all test (from_on (suc a) n)) h in
    go (cases_lt a q) p.0 (λ k. in_from test n (suc a) p.1 q k (omega (arith, m)))
  where
    go : (a < q) ⊎ (q ≤ a) → test a ≡ true → (suc a ≤ q → test q ≡ true) → test q ≡ true
    go (inl k) here later = later (omega (arith, k))
    go (inr k) here later = let same : a ≡ q = omega (arith, k, l) in ap test (sym same) ∙ here

not_true : (b : Bool) → not b ≡ true → b ≡ false
not_true true h = absurd (true≢false (sym h))
not_true false h = refl

module _ (table : List Bool) (page n : ℕ) (within : page + n ≤ length table) where
  abbrev taken : List Bool
  taken = filled table page n true

  long : length taken ≡ length table
  long = length-filled table page n true within

  still : page + n ≤ length taken
  still = omega (arith, within, long)

  -- a run that is taken is there to be given back
  pub taken_there : is_taken_run taken page n ≡ true
  taken_there = each_from (λ k. slice_index_or taken k false) n page (λ q l m. filled_inside table page n true within q false l m)

  -- and then the table is as before
  pub given_again : is_free_run table page n ≡ true → filled taken page n false ≡ table
  given_again free = ext_get_or true (filled taken page n false) table (length-filled taken page n false still ∙ long) (λ q k. at q (cases_lt q page) (cases_lt q (page + n)))
    where
      at : (q : ℕ) → (q < page) ⊎ (page ≤ q) → (q < page + n) ⊎ (page + n ≤ q) → get_or (filled taken page n false) q true ≡ get_or table q true
      at q (inl a) b = filled_below taken page n false still q true a ∙ filled_below table page n true within q true a
      at q (inr a) (inl b) = filled_inside taken page n false still q true a b ∙ sym (not_true (slice_index_or table q true) (in_from (is_free table) n page free q a b))
      at q (inr a) (inr b) = filled_above taken page n false still q true b ∙ filled_above table page n true within q true b

abbrev Answer : Type 0
Answer = Result Run NoRun

ok_is : (x y : Answer) (a b : Run) → x ≡ Ok a → y ≡ Ok b → x ≡ y → a ≡ b
ok_is x y a b p q e = cc

err_is : (x y : Answer) (a b : NoRun) → x ≡ Err a → y ≡ Err b → x ≡ y → a ≡ b
err_is x y a b p q e = cc

-- the run that was answered is the lowest
pub run_found : (table : List Bool) (n : ℕ) (run : Run) → Ok run ≡ run_of table n → (lowest_run table n ≡ Some run.page) × (run.count ≡ n)
run_found table n run e = go (lowest_run table n) refl e
  where
    go : (o : Option ℕ) → lowest_run table n ≡ o → Ok run ≡ elim o as (λ _. Result Run NoRun) [ Some page ↦ Ok (record { page = page; count = n }) | None ↦ Err (record { wanted = n; largest = longest_run table }) ] → (lowest_run table n ≡ Some run.page) × (run.count ≡ n)
    go None l k = absurd cc
    go (Some page) l k = let same : run ≡ record { page = page; count = n } = ok_is (Ok run) (Ok (record { page = page; count = n })) run (record { page = page; count = n }) refl refl k in (l ∙ ap (λ (r : Run). Some r.page) (sym same), ap (λ (r : Run). r.count) same)

-- where none is answered there is none
pub run_missed : (table : List Bool) (n : ℕ) (none : NoRun) → Err none ≡ run_of table n → (lowest_run table n ≡ None) × (none ≡ record { wanted = n; largest = longest_run table })
run_missed table n none e = go (lowest_run table n) refl e
  where
    go : (o : Option ℕ) → lowest_run table n ≡ o → Err none ≡ elim o as (λ _. Result Run NoRun) [ Some page ↦ Ok (record { page = page; count = n }) | None ↦ Err (record { wanted = n; largest = longest_run table }) ] → (lowest_run table n ≡ None) × (none ≡ record { wanted = n; largest = longest_run table })
    go None l k = (l, err_is (Err none) (Err (record { wanted = n; largest = longest_run table })) none (record { wanted = n; largest = longest_run table }) refl refl k)
    go (Some page) l k = absurd cc
