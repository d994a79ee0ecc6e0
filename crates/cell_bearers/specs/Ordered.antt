-- Bearers in their order, so that a look at them can stop early.
--     is_object b                    the bearer is an object
--     is_up_to a b                   both are objects, or both cells, and the place of the one isn't behind that of the other
--     AreOrdered bs                  first objects and then cells, each in the order of their places
--     is_past sight first b          nobody from the bearer on, in that order, is sooner than the first so far
use Rattle.std.specs.Prelude.{◌≡◌, ◌++◌, nat_le, ℕ, Bool, true, false, List, Option, Some, None}
use Rattle.std.specs.List.{list_all, list_any}
use Rattle.cell_num.specs.Lists.{each_pair}
use Rattle.cell_bearers.specs.Seeing.{first_at}
use Rattle.cell_bearers.specs.declared.bearer.Bearer.{Bearer}
use Rattle.cell_bearers.specs.declared.bearer.Bearer.TheVariants.{Object as ObjectBearer, Cell as CellBearer}
use Rattle.cell_bearers.specs.declared.first.FirstBearer.{FirstBearer}
use Rattle.cell_bearers.specs.declared.sight.Sight.{Sight}

abbrev pub is_object : Bearer → Bool
is_object (ObjectBearer object symbol) = true
is_object (CellBearer cell symbol) = false

abbrev pub is_up_to : Bearer → Bearer → Bool
is_up_to (ObjectBearer a x) (ObjectBearer b y) = nat_le a b
is_up_to (ObjectBearer a x) (CellBearer b y) = false
is_up_to (CellBearer a x) (ObjectBearer b y) = false
is_up_to (CellBearer a x) (CellBearer b y) = nat_le a b

pub record AreOrdered (bs : List Bearer) : Type 0 where
  pub objects : List Bearer
  pub cells : List Bearer
  pub parts : bs ≡ objects ++ cells
  pub all_objects : list_all is_object objects ≡ true
  pub no_objects : list_any is_object cells ≡ false
  pub objects_rise : each_pair is_up_to objects ≡ true
  pub cells_rise : each_pair is_up_to cells ≡ true

abbrev pub is_at_most : ℕ → Option ℕ → Bool
is_at_most place None = true
is_at_most place (Some other) = nat_le place other

abbrev pub is_past : Sight → Option FirstBearer → Bearer → Bool
is_past s None b = false
is_past s (Some first) (ObjectBearer object symbol) = is_at_most first.cell (first_at s.soonest.items object)
is_past s (Some first) (CellBearer cell symbol) = nat_le first.cell cell
