-- The cells of a dump, as its lines were read.
--     rows_of file c               the rows of the cell: its own, those of its places, those of its aliases
--     AreWritten file rows cells   of all rows those of cells are these cells', whose numbers rise
use Rattle.std.specs.Prelude.{◌≡◌, ℕ, nat_lt, ◌==◌, Bool, true, List, ◌∷◌, ◌++◌, map, filter, slice_range}
use Rattle.std.specs.List.{flat_map}
use Rattle.cell_num.specs.Lists.{each_pair}
use Rattle.cell_world.specs.declared.line.DumpLine.TheVariants.{Cell as CellLine, Place, Alias as AliasLine}
use Rattle.cell_audit.specs.declared.written.WrittenPlace.{WrittenPlace}
use Rattle.cell_audit.specs.declared.written.WrittenAlias.{WrittenAlias}
use Rattle.cell_audit.specs.declared.written.WrittenCell.{WrittenCell}
use Rattle.cell_audit.specs.Dumps.{Row}
use Rattle.cell_audit.specs.Following.{rank_of}

abbrev pub place_row : ℕ → WrittenPlace → Row
place_row cell p = (p.line, Place cell p.section p.start)

abbrev pub alias_row : List ℕ → ℕ → WrittenAlias → Row
alias_row file cell a = (a.line, AliasLine cell a.symbol (slice_range file a.name_start a.name_end))

abbrev pub rows_of : List ℕ → WrittenCell → List Row
rows_of file c =
    (c.line, CellLine c.cell c.ns c.stem c.file c.group)
    ∷ (map (place_row c.cell) c.places.items ++ map (alias_row file c.cell) c.aliases.items)

-- the row of a cell's line, of one of its places or of one of its aliases
abbrev pub is_of_cell : Row → Bool
is_of_cell r = rank_of r.1 == 2

pub record AreWritten (file : List ℕ) (rows : List Row) (cells : List WrittenCell) : Type 0 where
  pub rows_are : filter is_of_cell rows ≡ flat_map (rows_of file) cells
  pub rising : each_pair (λ a b. nat_lt a.cell b.cell) cells ≡ true
