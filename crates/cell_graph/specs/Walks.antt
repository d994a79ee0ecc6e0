-- What the walks still give.
--     named_deps at user list     the links that the list names with this user
--     walked at count first       so many links of the chain, from the first on
--     IsRun at first count        the chain goes on for so many links from the first on
use Rattle.std.specs.Prelude.{◌≡◌, ℕ, zero, suc, List, [], ◌∷◌, Option, Some, None, length, filter, map}
use Rattle.cell_num.specs.declared.ids.SecKey.{SecKey}
use Rattle.cell_world.specs.declared.state.LinkRow.{LinkRow}
use Rattle.cell_graph.specs.declared.rows.ChainRow.{ChainRow}
use Rattle.cell_graph.specs.declared.order.RowPlace.{RowPlace}
use Rattle.cell_graph.specs.Links.{is_same}
use Rattle.cell_graph.specs.Chains.{IsLinked}
use Rattle.cell_graph.specs.Places.{link_at}

abbrev pub named_deps : (ℕ → Option ChainRow) → SecKey → List RowPlace → List LinkRow
named_deps at user list = map (link_at at) (filter (λ r. is_same r.user user) list)

abbrev pub walked : (ℕ → Option ChainRow) → ℕ → Option ℕ → List LinkRow
walked at zero first = []
walked at (suc n) None = []
walked at (suc n) (Some place) = elim (at place) [ None ↦ [] | Some c ↦ c.row ∷ walked at n c.after ]

pub record IsRun (at : ℕ → Option ChainRow) (first : Option ℕ) (count : ℕ) : Type 0 where
  pub key : SecKey
  pub before : Option ℕ
  pub places : List ℕ
  pub counted : length places ≡ count
  pub linked : IsLinked at key before first places
