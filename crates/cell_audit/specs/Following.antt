-- Which line of a dump may follow those before it.
--     rank_of l                 where the lines of its form stand among the others
--     may_follow before l       the line may stand behind those
use Rattle.std.specs.Prelude.{ℕ, ◌%◌, ◌==◌, nat_lt, nat_le, Bool, true, false, not, ◌&&◌, List, Option, Some, None, length, filter, filter_map, is_none, codes, unwrap_or, option_map, bytes_eq, if◌then◌else◌}
use Rattle.std.specs.List.{list_all}
use Rattle.cell_num.specs.Lists.{last}
use Rattle.cell_num.specs.Limits.{max_cells, max_cell_number, max_namespaces, max_base, max_pages, min_base, min_pages, page_size}
use Rattle.cell_world.specs.declared.line.DumpLine.{DumpLine}
use Rattle.cell_world.specs.declared.line.DumpLine.TheVariants.{Space, Ns, Cell, Place, Alias, Link, Provider, Content, End}

-- lines of a lower rank stand before those of a higher one
abbrev pub rank_of : DumpLine → ℕ
rank_of (Space base pages) = 0
rank_of (Ns number name parent) = 1
rank_of (Cell cell ns stem file group) = 2
rank_of (Place cell section start) = 2
rank_of (Alias cell symbol name) = 2
rank_of (Link user entry target) = 3
rank_of (Provider ns name at offset) = 4
rank_of (Content at addr bytes) = 5
rank_of End = 6

abbrev pub is_ns : DumpLine → Bool
is_ns (Ns number name parent) = true
is_ns _ = false

abbrev pub is_cell : DumpLine → Bool
is_cell (Cell cell ns stem file group) = true
is_cell _ = false

abbrev pub cell_number : DumpLine → Option ℕ
cell_number (Cell cell ns stem file group) = Some cell
cell_number _ = None

abbrev pub ns_count : List DumpLine → ℕ
ns_count before = length (filter is_ns before)

-- no line of a higher rank stands before, and the one that lines of that rank need before them does: the space, or a namespace
abbrev pub is_in_order : List DumpLine → ℕ → Bool
is_in_order before rank = list_all (λ l. nat_le (rank_of l) rank) before && (if nat_le rank 1 then not (length before == 0) else nat_lt 0 (ns_count before))

abbrev pub is_space : ℕ → ℕ → Bool
is_space base pages =
    (base % page_size == 0) && nat_le min_base base && nat_le base max_base && nat_le min_pages pages && nat_le pages max_pages

-- namespace 0 is `k`, and every other has a parent of a lower number
abbrev pub is_root : List ℕ → Option ℕ → Bool
is_root name parent = bytes_eq name (codes "k") && is_none parent

abbrev pub is_below : ℕ → Option ℕ → Bool
is_below number parent = unwrap_or (option_map (λ p. nat_lt p number) parent) false

-- the line before is of the cell of that number: the cell's own, one of a place, or, where that may be, one of an alias
abbrev pub goes_on : ℕ → Bool → DumpLine → Bool
goes_on cell alias (Cell number ns stem file group) = number == cell
goes_on cell alias (Place number section start) = number == cell
goes_on cell alias (Alias number symbol name) = alias && number == cell
goes_on cell alias _ = false

abbrev pub goes_on_after : List DumpLine → ℕ → Bool → Bool
goes_on_after before cell alias = unwrap_or (option_map (goes_on cell alias) (last before)) false

abbrev pub may_follow : List DumpLine → DumpLine → Bool
may_follow before (Space base pages) = (length before == 0) && is_space base pages
may_follow before (Ns number name parent) =
    is_in_order before 1 && (number == ns_count before) && nat_lt number max_namespaces
    && (if number == 0 then is_root name parent else is_below number parent)
may_follow before (Cell cell ns stem file group) =
    is_in_order before 2 && nat_lt ns (ns_count before) && nat_le 1 cell && nat_le cell max_cell_number
    && list_all (λ other. nat_lt other cell) (filter_map cell_number before) && nat_lt (length (filter is_cell before)) max_cells
may_follow before (Place cell section start) = goes_on_after before cell false
may_follow before (Alias cell symbol name) = goes_on_after before cell true
may_follow before (Link user entry target) = is_in_order before 3
may_follow before (Provider ns name at offset) = is_in_order before 4 && nat_lt ns (ns_count before)
may_follow before (Content at addr bytes) = is_in_order before 5
may_follow before End = is_in_order before 6
