-- What is seen of the list of the links.
use Rattle.std.specs.Prelude.{ℕ, List}
use Rattle.cell_graph.specs.declared.order.RowPlace.{RowPlace}

-- the links in order, each with its place, and how many more there is room for
pub record RowPlaces : Type 0 where
  pub items : List RowPlace
  pub spare : ℕ
