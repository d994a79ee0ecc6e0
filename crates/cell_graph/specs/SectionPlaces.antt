-- What is seen of the list of the present sections.
use Rattle.std.specs.Prelude.{ℕ, List}
use Rattle.cell_graph.specs.declared.order.SectionPlace.{SectionPlace}

-- the sections in order, each with its place, and how many more there is room for
pub record SectionPlaces : Type 0 where
  pub items : List SectionPlace
  pub spare : ℕ
