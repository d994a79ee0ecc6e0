-- An arena with a new link at a place.
--     HasNew at new place row     the link stands at the place, and no other place has another link
use Rattle.std.specs.Prelude.{◌≡◌, ◌≢◌, ℕ, Option, Some, option_map}
use Rattle.cell_world.specs.declared.state.LinkRow.{LinkRow}
use Rattle.cell_graph.specs.declared.rows.ChainRow.{ChainRow}

pub record HasNew (at new : ℕ → Option ChainRow) (place : ℕ) (row : LinkRow) : Type 0 where
  pub stands : option_map (λ c. c.row) (new place) ≡ Some row
  pub others : (p : ℕ) → p ≢ place → option_map (λ c. c.row) (new p) ≡ option_map (λ c. c.row) (at p)
