-- What the reader of a dump has of the rows so far.
--     IsReady known cells               what is known of the lines is so of the cells too
--     IsKept file rows known w          that is known of the rows, and w has what they say
use Rattle.std.specs.Prelude.{◌≡◌, ◌<◌, ◌≤◌, ◌+◌, ◌*◌, ◌^◌, ℕ, nat_le, nat_lt, true, List, [], Some, All, filter, filter_map, length, map}
use Rattle.cell_num.specs.Limits.{page_size}
use Rattle.std.specs.List.{flat_map, list_all}
use Rattle.cell_num.specs.Lists.{each_pair, first, last}
use Rattle.cell_world.specs.declared.line.DumpLine.{DumpLine}
use Rattle.cell_audit.specs.declared.kept.WrittenDump.{WrittenDump}
use Rattle.cell_audit.specs.declared.order.Known.{Known}
use Rattle.cell_audit.specs.declared.written.WrittenCell.{WrittenCell}
use Rattle.cell_audit.specs.Described.{byte_in, namespace_of, space_of}
use Rattle.cell_audit.specs.Dumps.{Row, lines_of}
use Rattle.cell_audit.specs.Kept.{AreNamesWithin}
use Rattle.cell_audit.specs.Known.{known_of}
use Rattle.cell_audit.specs.Told.{Covers, told_at}
use Rattle.cell_audit.specs.Written.{is_of_cell, rows_of}

-- the last cell is that of the number
pub record IsLast (cells : List WrittenCell) (number : ℕ) : Type 0 where
  pub cell : WrittenCell
  pub there : last cells ≡ Some cell
  pub number_is : cell.cell ≡ number

-- and it has no alias
pub record IsLastUnnamed (cells : List WrittenCell) (number : ℕ) : Type 0 where
  pub cell : WrittenCell
  pub there : last cells ≡ Some cell
  pub number_is : cell.cell ≡ number
  pub names : cell.aliases.items ≡ []

-- a place may follow only of the last cell, which then has no alias, and an alias only of the last cell; and there are
-- at most 256 namespaces
pub record IsReady (known : Known) (cells : List WrittenCell) : Type 0 where
  pub placing : (number : ℕ) → known.placing ≡ Some number → IsLastUnnamed cells number
  pub naming : (number : ℕ) → known.naming ≡ Some number → IsLast cells number
  pub few : known.spaces ≤ 256

abbrev pub numbers_of : List WrittenCell → List ℕ
numbers_of cells = map (λ c. c.cell) cells

pub record HasCells (file : List ℕ) (rows : List Row) (known : Known) (cells : List WrittenCell) : Type 0 where
  pub rows_are : filter is_of_cell rows ≡ flat_map (rows_of file) cells
  pub rising : each_pair nat_lt (numbers_of cells) ≡ true
  pub below : list_all (λ n. nat_le n known.highest) (numbers_of cells) ≡ true
  pub names : All (AreNamesWithin file) cells
  pub ready : IsReady known cells

pub record HasMemory (lines : List DumpLine) (w : WrittenDump) : Type 0 where
  pub base : w.base ≡ (space_of lines).0
  pub pages : w.pages ≡ (space_of lines).1
  pub told_base : w.told.base ≡ w.base
  pub told_size : length w.told.bytes.items ≡ page_size * w.pages
  pub small : w.base + page_size * w.pages < 2 ^ 64
  pub told : (addr : ℕ) → Covers w.told addr → told_at w.told addr ≡ first (filter_map (byte_in addr) lines)

pub record IsKept (file : List ℕ) (rows : List Row) (known : Known) (w : WrittenDump) : Type 0 where
  pub knows : known ≡ known_of (lines_of rows)
  pub memory : HasMemory (lines_of rows) w
  pub namespaces : w.namespaces.items ≡ filter_map namespace_of (lines_of rows)
  pub cells : HasCells file rows known w.cells.items
