-- The sections near a word.
use Rattle.std.proofs.Common.{◌≡◌, refl, sym, ◌∙◌, ap, arith, ℕ, ◌+◌, ◌-◌, ◌^◌, ◌≤◌, ◌<◌, Bool, true, false, ◌&&◌, ◌||◌, List, [], ◌∷◌, length, take, drop, get_or}
use Rattle.std.specs.Prelude.{◌==◌, nat_le, nat_lt}
use Rattle.std.specs.List.{list_any, list_all}
use Rattle.std.specs.List.Sorted.{IsNonDecreasingBy}
use Rattle.std.proofs.lemmas.List.{get_or_default}
use Rattle.std.proofs.lemmas.Bool.{and_parts, and_from, leb-true, ltb-true}
use Rattle.cell_num.specs.declared.ids.CellId.{CellId}
use Rattle.cell_world.specs.declared.state.Placed.{Placed}
use Rattle.cell_world.specs.Kept.{is_inside}
use Rattle.cell_hold.specs.declared.spots.Spot.{Spot}
use Rattle.cell_hold.specs.declared.spots.Span.{Span}
use Rattle.cell_hold.specs.Adds.{Adds, has_or_full}
use Rattle.cell_hold.specs.Places.{is_at, is_cells_at}
use Rattle.cell_hold.specs.Reached.{touches}
use Rattle.cell_num.specs.Lists.{In}
use Rattle.cell_num.proofs.Elements.{all-In, any-Has}
use Rattle.cell_hold.specs.Spans.{IsSettled, OnlyNear, is_above, is_below, is_within}
use Rattle.cell_hold.specs.Spots.{AreSpots, places_of}
use Rattle.cell_hold.proofs.Adding.{added_same, none_added, nothing_added}
use Rattle.cell_hold.proofs.Rows.{any_all, any_mapped, any_row}

not_true : (b : Bool) → (b ≡ true → ⊥) → b ≡ false
not_true true f = absurd (f refl)
not_true false f = refl

-- a bound on the last of so many reaches is one on all of them
pub reach_last : (spots : List Spot) (count : ℕ) (e : Spot) → IsNonDecreasingBy (λ r. r.reach) spots → count ≤ length spots → 0 < count
    → (w : ℕ) → nat_lt (get_or spots (count - 1) e).reach w ≡ true → (k : ℕ) (d : Spot) → k < count → (get_or spots k d).reach < w
reach_last spots count e rise within some w h k d lt =
    let low : (get_or spots (count - 1) e).reach < w = ltb-true (get_or spots (count - 1) e).reach w h in
    let up : (get_or spots k e).reach ≤ (get_or spots (count - 1) e).reach = rise k (count - 1) e (omega (arith, lt)) (omega (arith, some, within)) in
    let same : (get_or spots k d).reach ≡ (get_or spots k e).reach = ap (λ (r : Spot). r.reach) (get_or_default spots k d e (omega (arith, lt, within))) in
    omega (arith, low, up, same)

-- up to one that lies below the word, all do
pub reach_below : (spots : List Spot) (place : ℕ) (e : Spot) → IsNonDecreasingBy (λ r. r.reach) spots → place < length spots
    → (w : ℕ) → (get_or spots place e).reach < w → (k : ℕ) (d : Spot) → k < place + 1 → (get_or spots k d).reach < w
reach_below spots place e rise there w low k d lt =
    let up : (get_or spots k e).reach ≤ (get_or spots place e).reach = rise k place e (omega (arith, lt)) there in
    let same : (get_or spots k d).reach ≡ (get_or spots k e).reach = ap (λ (r : Spot). r.reach) (get_or_default spots k d e (omega (arith, lt, there))) in
    omega (arith, low, up, same)

-- and one on the next of the starts
pub start_next : (spots : List Spot) (count : ℕ) (e : Spot) → IsNonDecreasingBy (λ r. r.place.start) spots → count < length spots
    → (w : ℕ) → nat_lt w (get_or spots count e).place.start ≡ true → (k : ℕ) (d : Spot) → count ≤ k → k < length spots → w < (get_or spots k d).place.start
start_next spots count e rise within w h k d ge lt =
    let low : w < (get_or spots count e).place.start = ltb-true w (get_or spots count e).place.start h in
    let up : (get_or spots count e).place.start ≤ (get_or spots k e).place.start = rise count k e ge lt in
    let same : (get_or spots k d).place.start ≡ (get_or spots k e).place.start = ap (λ (r : Spot). r.place.start) (get_or_default spots k d e lt) in
    omega (arith, low, up, same)

-- no section before these reaches the span, and none after them starts in it
pub only_near : (spots : List Spot) (passed begun : ℕ) (span : Span) → AreSpots spots → passed ≤ begun → begun ≤ length spots
    → ((w : ℕ) → is_above span.above w ≡ true → (k : ℕ) (d : Spot) → k < passed → (get_or spots k d).reach < w)
    → ((w : ℕ) → is_below span.below w ≡ true → (k : ℕ) (d : Spot) → begun ≤ k → k < length spots → w < (get_or spots k d).place.start)
    → OnlyNear span (take (begun - passed) (drop passed spots)) (places_of spots)
only_near spots passed begun span are le high above below w fits within p at =
    any_row (λ (r : Spot). p r.place) spots passed begun le high before behind ∙ any_mapped (λ (r : Spot). r.place) p spots
  where
    bounds : (is_above span.above w ≡ true) × (is_below span.below w ≡ true)
    bounds = and_parts (is_above span.above w) (is_below span.below w) within

    before : (k : ℕ) (d : Spot) → k < passed → p (get_or spots k d).place ≡ false
    before k d lt = not_true (p (get_or spots k d).place) (λ h.
        let s : Placed = (get_or spots k d).place in
        let end : w ≤ s.start + s.size = leb-true w (s.start + s.size) (and_parts (nat_le s.start w) (nat_le w (s.start + s.size)) (at s h)).1 in
        let low : s.start + s.size < w = are.covered k d (omega (arith, lt, le, high)) w fits (above w bounds.0 k d lt) in
        omega (arith, end, low))

    behind : (k : ℕ) (d : Spot) → begun ≤ k → k < length spots → p (get_or spots k d).place ≡ false
    behind k d ge lt = not_true (p (get_or spots k d).place) (λ h.
        let s : Placed = (get_or spots k d).place in
        let start : s.start ≤ w = leb-true s.start w (and_parts (nat_le s.start w) (nat_le w (s.start + s.size)) (at s h)).0 in
        omega (arith, start, below w bounds.1 k d ge lt))

pub inside_at : (c w : ℕ) (s : Placed) → is_inside c w s ≡ true → is_at w s ≡ true
inside_at c w s h =
    let a = and_parts (s.key.cell.0 == c && nat_le s.start w) (nat_le w (s.start + s.size)) h in
    let b = and_parts (s.key.cell.0 == c) (nat_le s.start w) a.0 in
    and_from (nat_le s.start w) (nat_le w (s.start + s.size)) b.1 a.1

-- at a word in the section, a cell is the section's or not
pub inside_where_at : (c w : ℕ) (s : Placed) → is_at w s ≡ true → (s.key.cell.0 == c) ≡ is_inside c w s
inside_where_at c w s h = let a = and_parts (nat_le s.start w) (nat_le w (s.start + s.size)) h in go (s.key.cell.0 == c) (nat_le s.start w) (nat_le w (s.start + s.size)) a.0 a.1
  where
    go : (e a b : Bool) → a ≡ true → b ≡ true → e ≡ ((e && a) && b)
    go e a b h k = grind (arith, h, k)

pub outside_at : (c w : ℕ) (s : Placed) → is_at w s ≡ false → is_inside c w s ≡ false
outside_at c w s h = go (s.key.cell.0 == c) (nat_le s.start w) (nat_le w (s.start + s.size)) h
  where
    go : (e a b : Bool) → (a && b) ≡ false → ((e && a) && b) ≡ false
    go true a b h = h
    go false a b h = refl

-- a word lies in a section of the cell where it lies in one of the cell's own
pub at_own : (places : List Placed) (c w : ℕ) → list_any (λ s. s.key.cell.0 == c && is_at w s) places ≡ is_cells_at c w places
at_own [] c w = refl
at_own (s ∷ places) c w = go (s.key.cell.0 == c) (nat_le s.start w) (nat_le w (s.start + s.size)) (at_own places c w)
  where
    go : (e a b : Bool) → list_any (λ s. s.key.cell.0 == c && is_at w s) places ≡ is_cells_at c w places → ((e && (a && b)) || list_any (λ s. s.key.cell.0 == c && is_at w s) places) ≡ (((e && a) && b) || is_cells_at c w places)
    go true a b ih = ap (λ d. (a && b) || d) ih
    go false a b ih = ih

module _ (places : List Placed) (spots : List Spot) (span : Span) (word room : ℕ) (old new : List CellId) (fits : word < 2 ^ 64)
    (here : is_within span word ≡ true) (only : OnlyNear span spots places)
    (added : Adds (λ c. list_any (λ r. is_inside c word r.place) spots) room old new) where
  -- the cells of the sections near the word that it lies in are all that it lies in
  pub near_added : Adds (λ c. is_cells_at c word places) room old new
  near_added =
      added_same (λ c. list_any (λ (r : Spot). is_inside c word r.place) spots) (λ c. is_cells_at c word places) room old new
      (λ c. only word fits here (is_inside c word) (inside_at c word)) added

  -- where it lies in all of them, so does no other word in another cell
  pub near_settled : list_all (λ r. is_at word r.place) spots ≡ true → IsSettled places span room new
  near_settled all w lt within c at =
      added.has c (any_all (λ (r : Spot). is_inside c w r.place) (λ (r : Spot). is_at word r.place) (λ (r : Spot). is_inside c word r.place) same spots
      (only w lt within (is_inside c w) (inside_at c w) ∙ at) all)
    where
      same : (r : Spot) → is_inside c w r.place ≡ true → is_at word r.place ≡ true → is_inside c word r.place ≡ true
      same r h k =
          let e = and_parts (r.place.key.cell.0 == c) (nat_le r.place.start w) (and_parts (r.place.key.cell.0 == c && nat_le r.place.start w) (nat_le w (r.place.start + r.place.size)) h).0 in
          sym (inside_where_at c word r.place k) ∙ e.0

-- no word is settled yet
pub none_settled : (places : List Placed) (span : Span) (room : ℕ) (cells : List CellId) → ((w : ℕ) → w < 2 ^ 64 → is_within span w ≡ false) → IsSettled places span room cells
none_settled places span room cells none w lt within c at = absurd (no_bool (sym within ∙ none w lt))
  where
    no_bool : ◌≡◌ {A = Bool} true false → ⊥
    no_bool e = cc

-- words of the span add nothing
pub settled_added : (places : List Placed) (span : Span) (words : List ℕ) (room : ℕ) (cells : List CellId) → list_all (λ w. nat_lt w (2 ^ 64) && is_within span w) words ≡ true → IsSettled places span room cells
    → Adds (touches places words) room cells cells
settled_added places span words room cells within settled = nothing_added (touches places words) room cells there
  where
    there : (c : ℕ) → touches places words c ≡ true → has_or_full cells room c ≡ true
    there c h =
        let at : (w : ℕ) × In w words × (is_cells_at c w places ≡ true) = any-Has (λ (w : ℕ). is_cells_at c w places) words h in
        let t : (nat_lt at.0 (2 ^ 64) ≡ true) × (is_within span at.0 ≡ true) =
        and_parts (nat_lt at.0 (2 ^ 64)) (is_within span at.0) (all-In (λ (w : ℕ). nat_lt w (2 ^ 64) && is_within span w) words within at.0 at.1) in
        settled at.0 (ltb-true at.0 (2 ^ 64) t.0) t.1 c at.2

-- the section's cell is added, where the word lies in the section
pub added_at : (place : Placed) (word room : ℕ) (old new : List CellId) → is_at word place ≡ true → Adds (λ c. place.key.cell.0 == c) room old new → Adds (λ c. is_inside c word place) room old new
added_at place word room old new h a = added_same (λ c. place.key.cell.0 == c) (λ c. is_inside c word place) room old new (λ c. inside_where_at c word place h) a

pub not_added_at : (place : Placed) (word room : ℕ) (old : List CellId) → is_at word place ≡ false → Adds (λ c. is_inside c word place) room old old
not_added_at place word room old h = none_added (λ c. is_inside c word place) room old (λ c. outside_at c word place h)
