-- Where the bearers of names stand.
--     row_of start end           a row; no_row: that of nobody
--     row_at table i k           what a table has in its i-th list, at place k
--     width table i              how long that list is
--     owned_at rows o            the row of an owner's name
--     IsThere rows o             there is a place for it
--     HasSameWidths old new      the tables are as wide
--     listed bearers row         the bearers of a row
use Rattle.std.specs.Prelude.{◌≡◌, ◌<◌, ℕ, List, [], length, slice_index_or, slice_range}
use Rattle.cell_bearers.specs.declared.bearer.Bearer.{Bearer}
use Rattle.cell_bearers.specs.declared.named.Owner.{Owner}
use Rattle.cell_bearers.specs.declared.named.Owner.TheVariants.{Need, Definition, Alias}
use Rattle.cell_bearers.specs.declared.rows.Row.{Row}
use Rattle.cell_bearers.specs.declared.rows.Rows.{Rows}

abbrev pub row_of : ℕ → ℕ → Row
row_of start end = record { start = start; end = end }

abbrev pub no_row : Row
no_row = row_of 0 0

abbrev pub row_at : List (List Row) → ℕ → ℕ → Row
row_at table i k = slice_index_or (slice_index_or table i []) k no_row

abbrev pub width : List (List Row) → ℕ → ℕ
width table i = length (slice_index_or table i [])

abbrev pub owned_at : Rows → Owner → Row
owned_at rows (Need object symbol) = row_at rows.symbols.items object symbol
owned_at rows (Definition object symbol) = row_at rows.symbols.items object symbol
owned_at rows (Alias cell alias symbol) = row_at rows.aliases.items cell alias

abbrev pub IsThere : Rows → Owner → Type 0
IsThere rows (Need object symbol) = symbol < width rows.symbols.items object
IsThere rows (Definition object symbol) = symbol < width rows.symbols.items object
IsThere rows (Alias cell alias symbol) = alias < width rows.aliases.items cell

pub record HasSameWidths (old new : Rows) : Type 0 where
  pub symbols : (i : ℕ) → width new.symbols.items i ≡ width old.symbols.items i
  pub aliases : (i : ℕ) → width new.aliases.items i ≡ width old.aliases.items i

abbrev pub listed : List Bearer → Row → List Bearer
listed bearers row = slice_range bearers row.start row.end
