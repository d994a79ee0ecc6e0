-- What the lists beside the sections say of them.
--     Covers reach s                    a word above the reach is above the section's end
--     AreSpots spots                    starts and reaches rise, and each reach covers its section
--     OtherSections                      some sections, and how many there is room for
--     IsIndexed list by_cell            the same sections by their cells
use Rattle.std.specs.Prelude.{ℕ, ◌+◌, ◌^◌, ◌<◌, List, All, map}
use Rattle.std.specs.List.Sorted.{IsNonDecreasingBy, IsPermutation}
use Rattle.cell_world.specs.declared.state.Placed.{Placed}
use Rattle.cell_hold.specs.declared.spots.Spot.{Spot}

abbrev pub Covers : ℕ → Placed → Type 0
Covers reach s = (w : ℕ) → w < 2 ^ 64 → reach < w → s.start + s.size < w

pub record AreSpots (spots : List Spot) : Type 0 where
  pub starts_rise : IsNonDecreasingBy (λ r. r.place.start) spots
  pub reaches_rise : IsNonDecreasingBy (λ r. r.reach) spots
  pub covered : All (λ r. Covers r.reach r.place) spots

abbrev pub places_of : List Spot → List Placed
places_of spots = map (λ r. r.place) spots

pub record OtherSections : Type 0 where
  pub items : List Placed
  pub room : ℕ

pub record IsIndexed (list by_cell : List Placed) : Type 0 where
  pub of_cells : IsPermutation list by_cell
  pub cells_rise : IsNonDecreasingBy (λ s. s.key.cell.0) by_cell
