-- What is to be known of the lines before one, so that it is seen whether it may follow them.
--     known_of lines     that, of these lines
--     follows k l        the line may stand behind lines of which that is known
--     said_behind k text     what the text says, if it says a line that may stand there
use Rattle.std.specs.Prelude.{ℕ, ◌+◌, ◌==◌, nat_lt, nat_le, Bool, true, false, not, ◌&&◌, List, Option, Some, None, fold, max, option_and_then, option_map, unwrap_or, if◌then◌else◌}
use Rattle.cell_num.specs.Lists.{where_true}
use Rattle.cell_num.specs.Limits.{max_cells, max_cell_number, max_namespaces}
use Rattle.cell_world.specs.declared.line.DumpLine.{DumpLine}
use Rattle.cell_world.specs.declared.line.DumpLine.TheVariants.{Space, Ns, Cell, Place, Alias, Link, Provider, Content, End}
use Rattle.cell_audit.specs.Following.{cell_number, is_below, is_cell, is_ns, is_root, is_space, rank_of}
use Rattle.cell_audit.specs.Dumps.{said_at}
use Rattle.cell_audit.specs.declared.order.Known.{Known}

abbrev pub nothing : Known
nothing = record { begun = false; rank = 0; spaces = 0; cells = 0; highest = 0; placing = None; naming = None }

-- the cell that a place may follow of, behind the line
abbrev pub placing_of : DumpLine → Option ℕ
placing_of (Cell cell ns stem file group) = Some cell
placing_of (Place cell section start) = Some cell
placing_of _ = None

-- the cell that an alias may follow of
abbrev pub naming_of : DumpLine → Option ℕ
naming_of (Cell cell ns stem file group) = Some cell
naming_of (Place cell section start) = Some cell
naming_of (Alias cell symbol name) = Some cell
naming_of _ = None

abbrev pub one_where : Bool → ℕ
one_where b = if b then 1 else 0

abbrev pub after_line : Known → DumpLine → Known
after_line k l =
    record {
      begun = true;
      rank = max k.rank (rank_of l);
      spaces = k.spaces + one_where (is_ns l);
      cells = k.cells + one_where (is_cell l);
      highest = max k.highest (unwrap_or (cell_number l) 0);
      placing = placing_of l;
      naming = naming_of l;
    }

abbrev pub known_of : List DumpLine → Known
known_of lines = fold after_line nothing lines

abbrev pub is_of : ℕ → Option ℕ → Bool
is_of cell last = unwrap_or (option_map (λ other. other == cell) last) false

-- no line has a higher rank, and what lines of that rank need stands before
abbrev pub stands : Known → ℕ → Bool
stands k rank = nat_le k.rank rank && (if nat_le rank 1 then k.begun else nat_lt 0 k.spaces)

abbrev pub follows : Known → DumpLine → Bool
follows k (Space base pages) = not k.begun && is_space base pages
follows k (Ns number name parent) =
    stands k 1 && (number == k.spaces) && nat_lt number max_namespaces && (if number == 0 then is_root name parent else is_below number parent)
follows k (Cell cell ns stem file group) =
    stands k 2 && nat_lt ns k.spaces && nat_le 1 cell && nat_le cell max_cell_number && nat_lt k.highest cell && nat_lt k.cells max_cells
follows k (Place cell section start) = is_of cell k.placing
follows k (Alias cell symbol name) = is_of cell k.naming
follows k (Link user entry target) = stands k 3
follows k (Provider ns name at offset) = stands k 4 && nat_lt ns k.spaces
follows k (Content at addr bytes) = stands k 5
follows k End = stands k 6

abbrev pub said_behind : Known → List ℕ → Option DumpLine
said_behind k text = option_and_then (λ l. where_true (follows k l) l) (said_at text)
