-- An arena, places of which are emptied.
--     links_at at                               the links at the places, whatever their neighbours
--     HasNone seen new place                    the place is empty, and no other has changed
--     DropsIf test seen new place               the same where the test is true, and no change where it is not
--     AreDropped place_of out seen new list     the places of those that are out are empty, and no other has changed
use Rattle.std.specs.Prelude.{◌≡◌, ◌≢◌, ℕ, Bool, true, false, List, Option, None, Contains, option_map}
use Rattle.cell_world.specs.declared.state.LinkRow.{LinkRow}
use Rattle.cell_graph.specs.declared.rows.ChainRow.{ChainRow}

abbrev pub links_at : (ℕ → Option ChainRow) → ℕ → Option LinkRow
links_at at place = option_map (λ c. c.row) (at place)

pub record HasNone {Y : Type 0} (seen new : ℕ → Option Y) (place : ℕ) : Type 0 where
  pub gone : new place ≡ None
  pub others : (p : ℕ) → p ≢ place → new p ≡ seen p

abbrev pub DropsIf : {Y : Type 0} → Bool → (ℕ → Option Y) → (ℕ → Option Y) → ℕ → Type 0
DropsIf true seen new place = HasNone seen new place
DropsIf false seen new place = (p : ℕ) → new p ≡ seen p

pub record AreDropped {E Y : Type 0} (place_of : E → ℕ) (out : E → Bool) (seen new : ℕ → Option Y) (list : List E) : Type 0 where
  pub kept : (p : ℕ) → ((e : E) → Contains list e → out e ≡ true → place_of e ≢ p) → new p ≡ seen p
  pub gone : (e : E) → Contains list e → out e ≡ true → new (place_of e) ≡ None
