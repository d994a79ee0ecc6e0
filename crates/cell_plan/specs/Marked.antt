-- Cells by marks.
--     has_mark marks n      the cell of that number is marked, or one of the cells themselves
use Rattle.std.specs.Prelude.{ℕ, ◌||◌, Bool, map}
use Rattle.cell_num.specs.Lists.{holds}
use Rattle.cell_graph.specs.Users.{is_marked}
use Rattle.cell_plan.specs.declared.users.Marks.{Marks}

abbrev pub has_mark : Marks → ℕ → Bool
has_mark marks n = is_marked marks.of_old.items n || (is_marked marks.of_soft.items n || holds (map (λ c. c.0) marks.soft.now.cells.now) n)
