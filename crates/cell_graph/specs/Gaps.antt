-- A list of links with a gap in it, which new links fill from behind.
--     around gap list            the list without the gap
--     IsGap gap list             the gap is in the list
--     AreAbove user entry list   the links come after that of this user and entry
use Rattle.std.specs.Prelude.{◌≡◌, ◌≤◌, ◌++◌, ℕ, true, List, length, take, drop}
use Rattle.std.specs.List.{AllByRecursion}
use Rattle.cell_num.specs.declared.ids.SecKey.{SecKey}
use Rattle.cell_graph.specs.declared.gap.Gap.{Gap}
use Rattle.cell_graph.specs.declared.order.RowPlace.{RowPlace}
use Rattle.cell_graph.specs.Order.{below_row}

abbrev pub around : Gap → List RowPlace → List RowPlace
around gap list = take gap.front list ++ drop gap.back list

pub record IsGap (gap : Gap) (list : List RowPlace) : Type 0 where
  pub ordered : gap.front ≤ gap.back
  pub within : gap.back ≤ length list

abbrev pub AreAbove : SecKey → ℕ → List RowPlace → Type 0
AreAbove user entry list = AllByRecursion (λ r. below_row user entry r.user r.entry ≡ true) list
