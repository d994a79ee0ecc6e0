-- What a sort by start and size comes to, and sections with their reaches.
use Rattle.std.proofs.Common.{◌≡◌, sym, ◌∙◌, ap, arith, ℕ, ◌-◌, ◌≤◌, ◌<◌, false, List, ◌∷◌, ◌++◌, [], length, get_or, true≢false}
use Rattle.std.specs.Prelude.{All}
use Rattle.std.specs.List.Sorted.{IsNonDecreasingBy, IsSortedByKey}
use Rattle.std.specs.Ordering.{MatchOrdering, is_lt, nat_cmp, ordering_then}
use Rattle.std.specs.declared.cmp.Ordering.{Ordering}
use Rattle.std.specs.declared.cmp.Ordering.TheVariants.{Less, Equal, Greater}
use Rattle.std.specs.Cmp.{IsTotalOrder, ranks}
use Rattle.std.proofs.lemmas.Cmp.{nat_cmp_total, on_total, then_total}
use Rattle.std.proofs.lemmas.List.{map-append}
use Rattle.std.proofs.lemmas.List.Elements.{All-push}
use Rattle.std.proofs.lemmas.List.Sorted.{IsNonDecreasingBy-push, ranks_by, sorted_far}
use Rattle.cell_world.specs.declared.state.Placed.{Placed}
use Rattle.cell_hold.specs.declared.spots.Spot.{Spot}
use Rattle.cell_hold.specs.Spots.{AreSpots, Covers, places_of}
use Rattle.cell_hold.proofs.Rows.{get_mapped, length_mapped}

-- by its start, and then by its size
abbrev pub place_key : Placed → ℕ × ℕ
place_key p = (p.start, p.size)

abbrev pub key_cmp : ℕ × ℕ → ℕ × ℕ → Ordering
key_cmp a b = ordering_then (nat_cmp a.0 b.0) (nat_cmp a.1 b.1)

key_total : IsTotalOrder key_cmp
key_total = then_total (on_total (λ (t : ℕ × ℕ). t.0) nat_cmp_total) (on_total (λ (t : ℕ × ℕ). t.1) nat_cmp_total)

-- the starts don't fall
start_order : (a b : Placed) → is_lt (key_cmp (place_key b) (place_key a)) ≡ false → a.start ≤ b.start
start_order a b h = go (nat_cmp b.start a.start) (ranks b.start a.start) h
  where
    go : (o : Ordering) → MatchOrdering o (b.start < a.start) (b.start ≡ a.start) (a.start < b.start) → is_lt (ordering_then o (nat_cmp b.size a.size)) ≡ false → a.start ≤ b.start
    go Less r h = absurd (true≢false h)
    go Equal r h = omega (arith, r)
    go Greater r h = omega (arith, r)

pub starts_rise : (places : List Placed) → IsSortedByKey place_key key_cmp places → IsNonDecreasingBy (λ s. s.start) places
starts_rise places up i j d le lt =
    start_order (get_or places i d) (get_or places j d) (sorted_far (λ (a b : Placed). is_lt (key_cmp (place_key a) (place_key b))) (ranks_by key_total place_key) places up i j d le lt)

-- the sections so far, up to the reach
pub record SpotsSoFar (spots : List Spot) (reach : ℕ) : Type 0 where
  pub reaches_rise : IsNonDecreasingBy (λ r. r.reach) spots
  pub covered : All (λ r. Covers r.reach r.place) spots
  pub below : All (λ r. r.reach ≤ reach) spots

pub no_spots : (reach : ℕ) → SpotsSoFar [] reach
no_spots reach = record {
  reaches_rise = λ i j d le lt. absurd (omega (arith, lt));
  covered = λ i d lt. absurd (omega (arith, lt));
  below = λ i d lt. absurd (omega (arith, lt));
}

pub spot_more : (spots : List Spot) (place : Placed) (reach end next : ℕ) → Covers end place → end ≤ next → reach ≤ next → SpotsSoFar spots reach
    → SpotsSoFar (spots ++ record { place = place; reach = next } ∷ []) next
spot_more spots place reach end next covers high up far = record {
  reaches_rise = IsNonDecreasingBy-push (λ (r : Spot). r.reach) spots (record { place = place; reach = next }) far.reaches_rise
      (λ d some. let b : (get_or spots (length spots - 1) d).reach ≤ reach = far.below (length spots - 1) d (omega (arith, some)) in omega (arith, b, up));
  covered = All-push (λ (r : Spot). Covers r.reach r.place) spots (record { place = place; reach = next }) far.covered (λ w fits above. covers w fits (omega (arith, high, above)));
  below = All-push (λ (r : Spot). r.reach ≤ next) spots (record { place = place; reach = next })
      (λ i d lt. let b : (get_or spots i d).reach ≤ reach = far.below i d lt in omega (arith, b, up)) (omega arith);
}

pub places_more : (spots : List Spot) (spot : Spot) → places_of (spots ++ spot ∷ []) ≡ places_of spots ++ spot.place ∷ []
places_more spots spot = map-append (λ (r : Spot). r.place) spots (spot ∷ [])

-- all sections, of which the starts don't fall
pub spots_done : (spots : List Spot) (sorted : List Placed) (reach : ℕ) → places_of spots ≡ sorted → IsNonDecreasingBy (λ s. s.start) sorted → SpotsSoFar spots reach → AreSpots spots
spots_done spots sorted reach are up far = record {
  starts_rise = λ i j d le lt.
      let same : (k : ℕ) → (get_or sorted k d.place).start ≡ (get_or spots k d).place.start = λ k. ap (λ (ps : List Placed). (get_or ps k d.place).start) (sym are) ∙ ap (λ (s : Placed). s.start) (get_mapped (λ (r : Spot). r.place) spots k d) in
      let long : length sorted ≡ length spots = ap (length {A = Placed}) (sym are) ∙ length_mapped (λ (r : Spot). r.place) spots in
      let rise = up i j d.place le (omega (arith, lt, long)) in
      omega (arith, rise, same i, same j);
  reaches_rise = far.reaches_rise;
  covered = far.covered;
}
