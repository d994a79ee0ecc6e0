-- The cells that a dump describes, as the code has them.
--     cell_seen file objects c             the cell of the machine that it is, where the dump stands in the file
--     Describes sources file rows result   the cells of the described machine, or the first fault
use Rattle.std.specs.Prelude.{◌≡◌, ◌<◌, ℕ, suc, nat_lt, true, List, Option, Some, None, Result, Ok, Err, All, filter_map, length, map, option_map, slice_range}
use Rattle.cell_num.specs.Lists.{In, each_pair}
use Rattle.cell_object.specs.declared.object.Object.{Object}
use Rattle.cell_world.specs.Coherent.{IsLoadable}
use Rattle.cell_world.specs.Gather.{Source}
use Rattle.cell_world.specs.World.{Alias, Cell}
use Rattle.cell_audit.specs.Described.{cell_of, space_of, standing_of}
use Rattle.cell_audit.specs.Dumps.{Row, lines_of}
use Rattle.cell_audit.specs.Placing.{first_lacking, first_misplaced}
use Rattle.cell_audit.specs.declared.written.WrittenAlias.{WrittenAlias}
use Rattle.cell_described.specs.declared.cell.DescribedCell.{DescribedCell}
use Rattle.cell_described.specs.declared.describing.Described.{Described}
use Rattle.cell_described.specs.declared.fail.DescribeFail.{DescribeFail}
use Rattle.cell_described.specs.declared.fail.DescribeFail.TheVariants.{NoObject, Misplaced, OutOfMemory}
use Rattle.cell_described.specs.Faults.{object_at}
use Rattle.cell_described.specs.Standing.{Stand}

-- symbols are numbered from 0 in a dump
abbrev pub alias_seen : List ℕ → WrittenAlias → Alias
alias_seen file a = record { name = slice_range file a.name_start a.name_end; symbol = suc a.symbol }

abbrev pub cell_seen : List ℕ → List Object → DescribedCell → Cell
cell_seen file objects c =
    record {
      placed = record { id = c.id; ns = c.ns; stem = c.stem; file = c.file; object = object_at objects c.object; places = c.places };
      aliases = map (alias_seen file) c.aliases.items;
      standing = standing_of c.group;
    }

-- a cell, with the number of its line
abbrev pub numbered_cell : List Source → List Row → Row → Option (ℕ × Cell)
numbered_cell sources rows r = option_map (λ c. (r.0, c)) (cell_of sources (lines_of rows) r.1)

pub record IsDescribed (sources : List Source) (file : List ℕ) (rows : List Row) (d : Described) : Type 0 where
  pub none_lacking : first_lacking sources rows ≡ None
  pub none_misplaced : first_misplaced sources rows ≡ None
  -- the cells of the described machine
  pub cells_are : map (cell_seen file d.objects.items) d.cells.items ≡ filter_map (cell_of sources (lines_of rows)) (lines_of rows)
  -- and the lines that they stand at
  pub lines_are : map (λ c. (c.line, cell_seen file d.objects.items c)) d.cells.items ≡ filter_map (numbered_cell sources rows) rows
  pub objects_there : All (λ c. c.object < length d.objects.items) d.cells.items
  pub loadable : All IsLoadable d.objects.items
  -- where their sections stand
  pub stand : All (λ c. Stand (space_of (lines_of rows)) (object_at d.objects.items c.object).sections c.places) d.cells.items
  -- their numbers rise
  pub rising : each_pair (λ a b. nat_lt a.id.0 b.id.0) d.cells.items ≡ true
  -- an object for each file that a cell names, and no other
  pub shared : (a b : DescribedCell) → In a d.cells.items → In b d.cells.items → a.file ≡ b.file → a.object ≡ b.object
  pub used : (place : ℕ) → place < length d.objects.items → (c : DescribedCell) × In c d.cells.items × (c.object ≡ place)

abbrev pub Describes : List Source → List ℕ → List Row → Result Described DescribeFail → Type 0
Describes sources file rows (Ok d) = IsDescribed sources file rows d
Describes sources file rows (Err (NoObject line)) = first_lacking sources rows ≡ Some line
Describes sources file rows (Err (Misplaced line)) = (first_lacking sources rows ≡ None) × (first_misplaced sources rows ≡ Some line)
Describes sources file rows (Err OutOfMemory) = Unit {0}
