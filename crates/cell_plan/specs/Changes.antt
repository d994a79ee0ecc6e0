-- The fields that change in one cell.
--     change_by value f               a field with what it holds by then
--     IsSpots entries marks spots     the set has the places of the marked entries
use Rattle.std.specs.Prelude.{◌≡◌, ℕ, Bool, List}
use Rattle.std.specs.BTreeSet.{BTreeSet, contains}
use Rattle.cell_object.specs.declared.object.Entry.{Entry}
use Rattle.cell_link.specs.declared.value.FieldValue.{FieldValue}
use Rattle.cell_link.specs.Tables.{spot_cmp}
use Rattle.cell_plan.specs.declared.changes.Change.{Change}
use Rattle.cell_plan.specs.Steps.{is_marked_spot}

abbrev pub change_by : (Entry → FieldValue) → Entry → Change
change_by value f = record { field = f; value = value f }

abbrev pub IsSpots : List Entry → List Bool → BTreeSet (ℕ × ℕ) → Type 0
IsSpots entries marks spots = (q : ℕ × ℕ) → contains spot_cmp spots q ≡ is_marked_spot entries marks q
