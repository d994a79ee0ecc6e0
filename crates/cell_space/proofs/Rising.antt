-- Cells by rising numbers: each is found by its number, and the first that passes a test is the lowest.
use Rattle.std.proofs.Common.{◌≡◌, ℕ, zero, suc, ◌<◌, Bool, true, false, cond, List, [], ◌∷◌, Some, None, length, get_or, refl, ap, sym, ◌∙◌, arith}
use Rattle.std.specs.Prelude.{Option, All, find, map, filter, ◌&&◌, ◌||◌, ◌==◌, nat_lt}
use Rattle.std.specs.Option.{option_map_or}
use Rattle.std.proofs.lemmas.List.Elements.{All-nil, All-cons, All-head, All-tail, All-filter, All-map}
use Rattle.std.proofs.lemmas.Bool.Decides.{nat_tests}
use Rattle.std.specs.Cmp.{unsigned_Decides}
use Rattle.cell_world.specs.World.{Standing}
use Rattle.cell_space.specs.declared.cell.SpaceCell.{SpaceCell}
use Rattle.cell_space.specs.Named.{is_numbered, is_in, put_into, with_cell, with_state, cell_numbered}
use Rattle.cell_world.specs.declared.state.Standing.TheVariants.{Attached}
use Rattle.cell_space.specs.Rising.{IsRising, lower}
use Rattle.cell_space.specs.Index.{attached_at, kept_if}
use Rattle.cell_space.proofs.Changes.{All-with_cell, All-find}

abbrev Above : SpaceCell → SpaceCell → Type 0
Above c d = c.cell.0 < d.cell.0

pub same_number : (a b : ℕ) → (a == b) ≡ true → a ≡ b
same_number a b e = (unsigned_Decides a b).0 e

pub itself : (a : ℕ) → (a == a) ≡ true
itself a = (unsigned_Decides a a).1 refl

pub turned : (a b : ℕ) → (a == b) ≡ true → (b == a) ≡ true
turned a b e = (unsigned_Decides b a).1 (sym (same_number a b e))

pub left : (b c : Bool) → (b && c) ≡ true → b ≡ true
left true c e = refl
left false c e = absurd (cc e)

pub right : (b c : Bool) → (b && c) ≡ true → c ≡ true
right true c e = e
right false c e = absurd (cc e)

lower_differs : (a b : ℕ) → a < b → (a == b) ≡ false
lower_differs a b lt = grind (arith, nat_tests)

higher_differs : (a b : ℕ) → a < b → (b == a) ≡ false
higher_differs a b lt = grind (arith, nat_tests)

not_below : (a b : ℕ) → a < b → nat_lt b a ≡ false
not_below a b lt = grind (arith, nat_tests)

not_itself : (a : ℕ) → nat_lt a a ≡ false
not_itself a = grind (arith, nat_tests)

is_below : (a b : ℕ) → a < b → nat_lt a b ≡ true
is_below a b lt = grind (arith, nat_tests)

below_from : (a b : ℕ) → nat_lt a b ≡ true → a < b
below_from a b e = grind (arith, nat_tests)

left_below : (a b : ℕ) → nat_lt a b ≡ false → (b == a) ≡ false → b < a
left_below a b e f = grind (arith, nat_tests)

-- each cell is found by its number
pub member : (cells : List SpaceCell) (k : ℕ) (d : SpaceCell) → IsRising cells → k < length cells → cell_numbered cells (get_or cells k d).cell.0 ≡ Some (get_or cells k d)
member [] k d rising lt = absurd (omega arith)
member (c ∷ cells) zero d rising lt = ap (λ b. cond b (Some c) (cell_numbered cells c.cell.0)) (itself c.cell.0)
member (c ∷ cells) (suc k) d rising lt =
    ap (λ b. cond b (Some c) (cell_numbered cells (get_or cells k d).cell.0)) (lower_differs c.cell.0 (get_or cells k d).cell.0 (rising.0 k d (omega arith)))
    ∙ member cells k d rising.1 (omega arith)

pub attached_there : (cells : List SpaceCell) (k : ℕ) (d : SpaceCell) → IsRising cells → k < length cells → is_in Attached (get_or cells k d) ≡ true → attached_at cells (get_or cells k d).cell.0 ≡ true
attached_there cells k d rising lt e = ap (λ o. option_map_or (is_in Attached) o false) (member cells k d rising lt) ∙ e

pub numbered_there : (cells : List SpaceCell) (k : ℕ) (d : SpaceCell) (n : ℕ) → IsRising cells → k < length cells → is_numbered n (get_or cells k d) ≡ true → cell_numbered cells n ≡ Some (get_or cells k d)
numbered_there cells k d n rising lt e =
    ap (cell_numbered cells) (sym (same_number (get_or cells k d).cell.0 n e)) ∙ member cells k d rising lt

none_found : (test : SpaceCell → Bool) (cells : List SpaceCell) → All (λ d. test d ≡ false) cells → find test cells ≡ None
none_found test [] all = refl
none_found test (c ∷ cells) all =
    ap (λ b. cond b (Some c) (find test cells)) (All-head (λ d. test d ≡ false) c cells all)
    ∙ none_found test cells (All-tail (λ d. test d ≡ false) c cells all)

off : (b : Bool) → (b ≡ true → ⊥) → b ≡ false
off true h = absurd (h refl)
off false h = refl

cannot : (b : Bool) → b ≡ true → b ≡ false → ⊥
cannot true e f = absurd (cc f)
cannot false e f = absurd (cc e)

-- what passes the test has that number, so the cell of that number is the one, if any is
module _ (test : SpaceCell → Bool) (n : ℕ) where
  abbrev Numbered : SpaceCell → Type 0
  Numbered e = test e ≡ true → is_numbered n e ≡ true

  one_by : (b : Bool) (c : SpaceCell) (cells : List SpaceCell) → is_numbered n c ≡ b → All (Above c) cells → All Numbered (c ∷ cells)
      → find test cells ≡ kept_if test (cell_numbered cells n)
      → find test (c ∷ cells) ≡ kept_if test (cond b (Some c) (cell_numbered cells n))
  one_by true c cells is above all rest =
      ap (λ o. cond (test c) (Some c) o) (none_found test cells (λ k d lt. off (test (get_or cells k d)) (λ on.
      cannot (is_numbered n (get_or cells k d))
      (All-tail Numbered c cells all k d lt on)
      (ap (λ m. (get_or cells k d).cell.0 == m) (sym (same_number c.cell.0 n is)) ∙ higher_differs c.cell.0 (get_or cells k d).cell.0 (above k d lt)))))
  one_by false c cells is above all rest =
      ap (λ b. cond b (Some c) (find test cells)) (off (test c) (λ on. cannot (is_numbered n c) (All-head Numbered c cells all on) is)) ∙ rest

  pub one_at_most : (cells : List SpaceCell) → IsRising cells → All Numbered cells → find test cells ≡ kept_if test (cell_numbered cells n)
  one_at_most [] rising all = refl
  one_at_most (c ∷ cells) rising all =
      one_by (is_numbered n c) c cells refl rising.0 all (one_at_most cells rising.1 (All-tail Numbered c cells all))

-- where no cell passes
pub none_passes : (test : SpaceCell → Bool) (cells : List SpaceCell) → All (λ e. test e ≡ true → ⊥) cells → find test cells ≡ None
none_passes test cells all = none_found test cells (λ k d lt. off (test (get_or cells k d)) (all k d lt))

first_stays : (c : SpaceCell) (o : Option SpaceCell) → ((d : SpaceCell) → o ≡ Some d → c.cell.0 < d.cell.0) → lower (Some c) o ≡ Some c
first_stays c None above = refl
first_stays c (Some d) above = ap (λ b. cond b (Some d) (Some c)) (not_below c.cell.0 d.cell.0 (above d refl))

second_comes : (c : SpaceCell) (o : Option SpaceCell) → ((d : SpaceCell) → o ≡ Some d → c.cell.0 < d.cell.0) → lower o (Some c) ≡ Some c
second_comes c None above = refl
second_comes c (Some d) above = ap (λ b. cond b (Some c) (Some d)) (is_below c.cell.0 d.cell.0 (above d refl))

module _ (p q : SpaceCell → Bool) where
  either_by : (a b : Bool) (c : SpaceCell) (cells : List SpaceCell) → All (Above c) cells
      → find (λ d. p d || q d) cells ≡ lower (find p cells) (find q cells)
      → cond (a || b) (Some c) (find (λ d. p d || q d) cells) ≡ lower (cond a (Some c) (find p cells)) (cond b (Some c) (find q cells))
  either_by true true c cells above rest = sym (ap (λ b. cond b (Some c) (Some c)) (not_itself c.cell.0))
  either_by true false c cells above rest = sym (first_stays c (find q cells) (λ d e. All-find (Above c) q cells d above e))
  either_by false true c cells above rest = sym (second_comes c (find p cells) (λ d e. All-find (Above c) p cells d above e))
  either_by false false c cells above rest = rest

  -- the lowest that passes one of two tests
  pub find-or : (cells : List SpaceCell) → IsRising cells → find (λ c. p c || q c) cells ≡ lower (find p cells) (find q cells)
  find-or [] rising = refl
  find-or (c ∷ cells) rising = either_by (p c) (q c) c cells rising.0 (find-or cells rising.1)

left_out : (test : SpaceCell → Bool) (b : Bool) (c : SpaceCell) (cells : List SpaceCell) → All (Above c) cells → IsRising (filter test cells) → IsRising (cond b (c ∷ filter test cells) (filter test cells))
left_out test true c cells above rising = (All-filter test (Above c) cells above, rising)
left_out test false c cells above rising = rising

pub rising-filter : (test : SpaceCell → Bool) (cells : List SpaceCell) → IsRising cells → IsRising (filter test cells)
rising-filter test [] rising = tt
rising-filter test (c ∷ cells) rising = left_out test (test c) c cells rising.0 (rising-filter test cells rising.1)

pub rising-map : (f : SpaceCell → SpaceCell) → ((c : SpaceCell) → (f c).cell.0 ≡ c.cell.0) → (cells : List SpaceCell) → IsRising cells → IsRising (map f cells)
rising-map f same [] rising = tt
rising-map f same (c ∷ cells) rising =
    (All-map (Above (f c)) f cells (λ k d lt. let above = rising.0 k d lt in let a = same c in let b = same (get_or cells k d) in omega arith), rising-map f same cells rising.1)

put_in : (c : SpaceCell) (b : Bool) (d : SpaceCell) (cells : List SpaceCell) → nat_lt c.cell.0 d.cell.0 ≡ b → is_numbered c.cell.0 d ≡ false → All (Above d) cells → IsRising cells → IsRising (with_cell c cells)
    → IsRising (cond b (c ∷ d ∷ cells) (d ∷ with_cell c cells))
put_in c true d cells e differs above rising rest =
    let below = below_from c.cell.0 d.cell.0 e in
    (All-cons (Above c) d cells below (λ k x lt. let more = above k x lt in omega arith), (above, rising))
put_in c false d cells e differs above rising rest =
    (All-with_cell (Above d) c cells (left_below c.cell.0 d.cell.0 e differs) above, rest)

absent_first : (b : Bool) (d : SpaceCell) (o : Option SpaceCell) → cond b (Some d) o ≡ None → b ≡ false
absent_first true d o e = absurd (cc e)
absent_first false d o e = refl

absent_rest : (b : Bool) (d : SpaceCell) (o : Option SpaceCell) → cond b (Some d) o ≡ None → o ≡ None
absent_rest true d o e = absurd (cc e)
absent_rest false d o e = e

pub rising-with_cell : (c : SpaceCell) (cells : List SpaceCell) → IsRising cells → cell_numbered cells c.cell.0 ≡ None → IsRising (with_cell c cells)
rising-with_cell c [] rising new = (All-nil (Above c), tt)
rising-with_cell c (d ∷ cells) rising new =
    put_in c (nat_lt c.cell.0 d.cell.0) d cells refl (absent_first (is_numbered c.cell.0 d) d (cell_numbered cells c.cell.0) new) rising.0 rising.1
    (rising-with_cell c cells rising.1 (absent_rest (is_numbered c.cell.0 d) d (cell_numbered cells c.cell.0) new))

numbered_as : (b : Bool) (state : Standing) (c : SpaceCell) → (let d : SpaceCell = cond b (record c { state = state }) c in d.cell.0) ≡ c.cell.0
numbered_as true state c = refl
numbered_as false state c = refl

pub rising-with_state : (state : Standing) (n : ℕ) (cells : List SpaceCell) → IsRising cells → IsRising (with_state state n cells)
rising-with_state state n cells rising = rising-map (put_into state n) (λ c. numbered_as (is_numbered n c) state c) cells rising
