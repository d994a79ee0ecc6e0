-- Values by name.
--     value_of map name      the value of the name
use Rattle.std.specs.Prelude.{ℕ, List, Option}
use Rattle.std.specs.BTreeMap.{get_by}
use Rattle.std.specs.Cmp.Lexicographic.{slice_cmp}
use Rattle.std.specs.Ordering.{nat_cmp}
use Rattle.cell_depot.specs.declared.names.NameMap.{NameMap}

abbrev pub value_of : {V : Type 0} → NameMap V → List ℕ → Option V
value_of map q = get_by (λ k. slice_cmp nat_cmp q k.items) map.entries
