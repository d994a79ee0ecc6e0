-- The page table after a region is put in, and what a free run in it is.
use Rattle.std.proofs.Common.{◌≡◌, refl, sym, ◌∙◌, ap, subst, arith, ℕ, ◌+◌, ◌-◌, ◌*◌, ◌≤◌, ◌<◌, ◌⊎◌, inl, inr, Bool, true, false, cond, ◌||◌, List, [], ◌∷◌, ◌++◌, length, take, drop, replicate, Some, Ok, length-append, length-drop}
use Rattle.std.specs.Prelude.{All, nat_lt, nat_le, slice_index_or}
use Rattle.std.specs.List.{list_any, list_all}
use Rattle.std.proofs.lemmas.Bool.{and_from, and_parts, cases_lt, cases_Bool, lt-ltb, le-leb, leb-true, ltb-true}
use Rattle.std.proofs.lemmas.List.{length-take-le, length-replicate, get_or-take, get_or-drop, get_or-replicate, get_or_append_left, get_or-append_right, ext_get_or}
use Rattle.cell_world.specs.World.{World, Region}
use Rattle.cell_world.specs.Running.Memory.{covers}
use Rattle.cell_world.specs.Placed.Pages.{lowest_run, filled}
use Rattle.cell_world.specs.Placed.Place.{Placing, is_taken, page_table, with_region, place_class}
use Rattle.cell_world.specs.declared.layout.Class.{Class}
use Rattle.cell_world.specs.Coherent.{is_in_space, ends_before}
use Rattle.cell_object.specs.declared.object.Object.{Object}
use Rattle.cell_num.specs.Lists.{each_pair}
use Rattle.cell_lemmas.specs.Clear.{IsClear}
use Rattle.cell_num.proofs.Elements.{all-In, In-All}
use Rattle.cell_lemmas.proofs.Placement.Places.{table_length, taken_at, run_at, free_clear, whole_region}
use Rattle.cell_lemmas.proofs.Placement.PlacedAll.{Placed, class_placed}

any_inserted : (p : Region → Bool) (r : Region) (regions : List Region) → list_any p (with_region r regions) ≡ (p r || list_any p regions)
any_inserted p r [] = refl
any_inserted p r (s ∷ regions) = go (nat_lt r.start s.start) (any_inserted p r regions)
  where
    swap : (a b c : Bool) → (a || (b || c)) ≡ (b || (a || c))
    swap true true c = refl
    swap true false c = refl
    swap false true c = refl
    swap false false c = refl

    go : (b : Bool) → list_any p (with_region r regions) ≡ (p r || list_any p regions) → list_any p (cond b (r ∷ s ∷ regions) (s ∷ with_region r regions)) ≡ (p r || (p s || list_any p regions))
    go true ih = refl
    go false ih = ap (λ b. p s || b) ih ∙ swap (p s) (p r) (list_any p regions)

module _ (w : World) (r : Region) (page n : ℕ) (start : r.start ≡ w.base + 4096 * page) (size : length r.bytes ≡ 4096 * n) (room : page + n ≤ w.pages) where
  abbrev after : World
  after = record w { regions = with_region r w.regions }

  outside : (q : ℕ) → (q < page) ⊎ (page + n ≤ q) → covers r (w.base + 4096 * q) ≡ false
  outside q h = go (cases_Bool (covers r (w.base + 4096 * q)))
    where
      clash : (q < page) ⊎ (page + n ≤ q) → r.start ≤ w.base + 4096 * q → w.base + 4096 * q < r.start + length r.bytes → ⊥
      clash (inl a) b c = omega (arith, a, b, start)
      clash (inr a) b c = omega (arith, a, c, start, size)

      go : (covers r (w.base + 4096 * q) ≡ true) ⊎ (covers r (w.base + 4096 * q) ≡ false) → covers r (w.base + 4096 * q) ≡ false
      go (inr f) = f
      go (inl t) =
          let k = and_parts (nat_le r.start (w.base + 4096 * q)) (nat_lt (w.base + 4096 * q) (r.start + length r.bytes)) t in
          absurd (clash h (leb-true r.start (w.base + 4096 * q) k.0) (ltb-true (w.base + 4096 * q) (r.start + length r.bytes) k.1))

  inside : (q : ℕ) → page ≤ q → q < page + n → covers r (w.base + 4096 * q) ≡ true
  inside q a b = and_from (nat_le r.start (w.base + 4096 * q)) (nat_lt (w.base + 4096 * q) (r.start + length r.bytes))
      (le-leb r.start (w.base + 4096 * q) (omega (arith, a, start))) (lt-ltb (w.base + 4096 * q) (r.start + length r.bytes) (omega (arith, b, start, size)))

  taken_after : (q : ℕ) → is_taken after q ≡ (covers r (w.base + 4096 * q) || is_taken w q)
  taken_after q = any_inserted (λ s. covers s (w.base + 4096 * q)) r w.regions

  front_length : length (take page (page_table w)) ≡ page
  front_length = length-take-le page (page_table w) (omega (arith, table_length w, room))

  both_length : length (take page (page_table w) ++ replicate n true) ≡ page + n
  both_length = omega (arith, length-append (take page (page_table w)) (replicate n true), front_length, length-replicate n true)

  filled_length : length (filled (page_table w) page n true) ≡ w.pages
  filled_length = omega (arith, length-append (take page (page_table w) ++ replicate n true) (drop (page + n) (page_table w)), both_length, length-drop (page + n) (page_table w), table_length w, room)

  at_page : (q : ℕ) → q < w.pages → (q < page) ⊎ (page ≤ q) → (q < page + n) ⊎ (page + n ≤ q) → slice_index_or (page_table after) q true ≡ slice_index_or (filled (page_table w) page n true) q true
  at_page q l (inl a) k =
      taken_at after q l
      ∙ (taken_after q
      ∙ (ap (λ b. b || is_taken w q) (outside q (inl a))
      ∙ (sym (taken_at w q l)
      ∙ (sym (get_or-take page (page_table w) q true a)
      ∙ (sym (get_or_append_left (take page (page_table w)) (replicate n true) true q (omega (arith, front_length, a)))
      ∙ sym (get_or_append_left (take page (page_table w) ++ replicate n true) (drop (page + n) (page_table w)) true q (omega (arith, both_length, a))))))))
  at_page q l (inr a) (inl b) =
      taken_at after q l
      ∙ (taken_after q
      ∙ (ap (λ b. b || is_taken w q) (inside q a b)
      ∙ (sym (get_or-replicate n (q - page) true true (omega (arith, a, b)))
      ∙ (sym (get_or-append_right (take page (page_table w)) (replicate n true) page q true front_length a)
      ∙ sym (get_or_append_left (take page (page_table w) ++ replicate n true) (drop (page + n) (page_table w)) true q (omega (arith, both_length, b)))))))
  at_page q l (inr a) (inr b) =
      taken_at after q l
      ∙ (taken_after q
      ∙ (ap (λ b. b || is_taken w q) (outside q (inr b))
      ∙ (sym (taken_at w q l)
      ∙ (ap (λ (j : ℕ). slice_index_or (page_table w) j true) (omega (arith, b))
      ∙ (sym (get_or-drop (page + n) (page_table w) (q - (page + n)) true)
      ∙ sym (get_or-append_right (take page (page_table w) ++ replicate n true) (drop (page + n) (page_table w)) (page + n) q true both_length b))))))

  -- the table keeps step with the regions
  pub table_filled : page_table after ≡ filled (page_table w) page n true
  table_filled = ext_get_or true (page_table after) (filled (page_table w) page n true) (table_length after ∙ sym filled_length)
      (λ q h. at_page q (subst (λ (k : ℕ). q < k) (table_length after) h) (cases_lt q page) (cases_lt q (page + n)))

-- a free run lies in the space, and no region has a byte of it
pub run_inside : (w : World) (n page : ℕ) → 0 < n → lowest_run (page_table w) n ≡ Some page → page + n ≤ w.pages
run_inside w n page l h = (run_at w n page l h).room

pub run_clear : (w : World) (n page : ℕ) → 0 < n → lowest_run (page_table w) n ≡ Some page → list_all (is_in_space w) w.regions ≡ true → All (IsClear (w.base + 4096 * page) (4096 * n)) w.regions
run_clear w n page l h s = In-All (IsClear (w.base + 4096 * page) (4096 * n)) w.regions (λ q k. free_clear w page n (run_inside w n page l h) (run_at w n page l h).free l q k (whole_region w q (all-In (is_in_space w) w.regions s q k)))

-- the run of a class goes in among the regions
pub class_spaced : (w : World) (class : Class) (object : Object) (p : Placing) → list_all (is_in_space w) w.regions ≡ true → each_pair ends_before w.regions ≡ true → place_class w class object ≡ Ok p
    → (list_all (is_in_space w) p.world.regions ≡ true) × (each_pair ends_before p.world.regions ≡ true)
class_spaced w class object p s a h =
    let k : Placed w p.world = class_placed w w class object p h (record { spaced = record { in_space = s; apart = a }; cells = refl; rest = refl }) in
    (subst (λ (u : World). list_all (is_in_space u) p.world.regions ≡ true) k.rest k.spaced.in_space, k.spaced.apart)
