-- What the laws on steps of a swap ask of a machine, coherent or not.
--     IsNamed w           on one path a stem and a name belong to one attached cell; the numbers of cells ascend, and a
--                         cell's aliases name definitions of its own
--     IsNewGroup k w      no cell is of that group
use Rattle.std.specs.Prelude.{ℕ, ◌≡◌, ◌==◌, nat_lt, Bool, false, IsTrue, All}
use Rattle.std.specs.List.{list_any, list_all}
use Rattle.cell_num.specs.Lists.{each_pair}
use Rattle.cell_world.specs.World.{World, Cell, is_of_group}
use Rattle.cell_world.specs.Names.{definitions_of}
use Rattle.cell_world.specs.Coherent.{may_both_stand}

abbrev pub has_own_aliases : Cell → Bool
has_own_aliases c = list_all (λ a. list_any (λ d. d.symbol == a.symbol) (definitions_of c.object)) c.aliases

pub record IsNamed (w : World) : Type 0 where
  pub cell_order : IsTrue (each_pair (λ a b. nat_lt a.id.0 b.id.0) w.cells)
  pub names : IsTrue (each_pair (may_both_stand w) w.cells)
  pub aliases : IsTrue (list_all has_own_aliases w.cells)

abbrev pub IsNewGroup : ℕ → World → Type 0
IsNewGroup k w = All (λ c. is_of_group k c.standing ≡ false) w.cells
