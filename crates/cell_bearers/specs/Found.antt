-- The first cell that is seen and of which a symbol is said.
--     found_from test said i cells     the first that passes the test, with its symbol, where cells are counted from i on
--     found_by sight said              the same of a sight
--     is_weakly name s                 the symbol is a WEAK that its object defines, and has the name
--     weak_place objects name p        where the cell's object has such a symbol
--     found_near test said cells spaces    the first of the first of these namespaces that has one, where each has its test
--     nearest_by sight said            the same of a sight, which asks its namespaces one after the other
--     sooner a b                       the one whose cell comes first
use Rattle.std.specs.Prelude.{◌&&◌, ℕ, suc, nat_lt, Bool, List, [], ◌∷◌, Option, Some, None, option_map, position, if◌then◌else◌}
use Rattle.cell_num.specs.Lists.{equals, or_else}
use Rattle.cell_object.specs.declared.object.Object.{Object}
use Rattle.cell_object.specs.declared.object.Symbol.{Symbol}
use Rattle.cell_world.specs.Names.{is_weak_definition}
use Rattle.cell_described.specs.Faults.{object_at}
use Rattle.cell_described.specs.declared.cell.DescribedCell.{DescribedCell}
use Rattle.cell_bearers.specs.declared.first.FirstBearer.{FirstBearer}
use Rattle.cell_bearers.specs.declared.sight.Sight.{Sight}
use Rattle.cell_bearers.specs.Seeing.{stands_at}
use Rattle.cell_bearers.specs.Sight.{sees_by}

abbrev pub at_place : ℕ → ℕ → FirstBearer
at_place cell symbol = record { cell = cell; symbol = symbol }

abbrev pub found_from : (DescribedCell → Bool) → (ℕ × DescribedCell → Option ℕ) → ℕ → List DescribedCell → Option FirstBearer
found_from test said i [] = None
found_from test said i (c ∷ cells) = or_else (option_map (at_place i) (if test c then said (i, c) else None)) (found_from test said (suc i) cells)

abbrev pub found_by : Sight → (ℕ × DescribedCell → Option ℕ) → Option FirstBearer
found_by s said = found_from (sees_by s) said 0 s.cells.now

abbrev pub is_weakly : List ℕ → Symbol → Bool
is_weakly name s = is_weak_definition s && equals s.name name

abbrev pub weak_place : List Object → List ℕ → ℕ × DescribedCell → Option ℕ
weak_place objects name p = position (is_weakly name) (object_at objects p.1.object).symbols

abbrev pub found_near : (ℕ → DescribedCell → Bool) → (ℕ × DescribedCell → Option ℕ) → List DescribedCell → List ℕ → Option FirstBearer
found_near test said cells [] = None
found_near test said cells (ns ∷ spaces) = or_else (found_from (test ns) said 0 cells) (found_near test said cells spaces)

abbrev pub nearest_by : Sight → (ℕ × DescribedCell → Option ℕ) → Option FirstBearer
nearest_by s said = found_near (stands_at s.asked) said s.cells.now s.spaces.now

abbrev pub sooner : Option FirstBearer → Option FirstBearer → Option FirstBearer
sooner None b = b
sooner (Some a) None = Some a
sooner (Some a) (Some b) = Some (if nat_lt b.cell a.cell then b else a)
