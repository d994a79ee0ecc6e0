-- The machine that a dump describes: its namespaces and cells, with the objects of the files, and no tasks. Its sections stand
-- where the dump says, so it has no regions of classes.
--     object_of sources file     the object of the file of that name
--     described sources lines    the machine
--     byte_at lines addr         the byte that the first line gives that covers the address, or else 0
use Rattle.std.specs.Prelude.{ℕ, suc, ◌+◌, ◌-◌, ◌==◌, nat_lt, nat_le, ◌&&◌, List, [], Option, Some, None, map, filter_map, length, slice_index, option_and_then, unwrap_or}
use Rattle.std.specs.Result.{result_ok}
use Rattle.cell_num.specs.Lists.{first, upto, where_true}
use Rattle.cell_object.specs.declared.object.Object.{Object}
use Rattle.cell_object.specs.declared.object.Section.{Section as ObjectSection}
use Rattle.cell_world.specs.Gather.{Source, file_named}
use Rattle.cell_world.specs.Linked.Target.{start_of}
use Rattle.cell_world.specs.World.{World, Cell, Alias, Standing}
use Rattle.cell_world.specs.declared.state.Standing.TheVariants.{Attached, Detached}
use Rattle.cell_world.specs.declared.state.Namespace.{Namespace}
use Rattle.cell_world.specs.declared.state.SecPlace.{SecPlace}
use Rattle.cell_world.specs.declared.line.DumpLine.{DumpLine}
use Rattle.cell_world.specs.declared.line.DumpLine.TheVariants.{Space, Ns, Cell as CellLine, Place, Alias as AliasLine, Content}

abbrev pub object_of : List Source → List ℕ → Option Object
object_of sources file = option_and_then (λ f. result_ok f.reading) (file_named sources file)

abbrev pub no_object : Object
no_object = record { sections = []; symbols = []; entries = [] }

abbrev pub base_of : DumpLine → Option (ℕ × ℕ)
base_of (Space base pages) = Some (base, pages)
base_of _ = None

abbrev pub namespace_of : DumpLine → Option Namespace
namespace_of (Ns number name parent) = Some (record { name = name; parent = parent })
namespace_of _ = None

abbrev pub place_of : ℕ → DumpLine → Option SecPlace
place_of cell (Place number section start) = where_true (number == cell) (record { section = section; start = start })
place_of cell _ = None

-- symbols are numbered from 0 in a dump
abbrev pub alias_of : ℕ → DumpLine → Option Alias
alias_of cell (AliasLine number symbol name) = where_true (number == cell) (record { name = name; symbol = suc symbol })
alias_of cell _ = None

abbrev pub standing_of : Option ℕ → Standing
standing_of None = Attached
standing_of (Some swap) = Detached swap

abbrev pub cell_of : List Source → List DumpLine → DumpLine → Option Cell
cell_of sources lines (CellLine cell ns stem file group) =
    Some (record {
      placed = record {
        id = record { 0 = cell };
        ns = ns;
        stem = stem;
        file = file;
        object = unwrap_or (object_of sources file) no_object;
        places = filter_map (place_of cell) lines;
      };
      aliases = filter_map (alias_of cell) lines;
      standing = standing_of group;
    })
cell_of sources lines _ = None

abbrev pub space_of : List DumpLine → ℕ × ℕ
space_of lines = unwrap_or (first (filter_map base_of lines)) (0, 0)

abbrev pub described : List Source → List DumpLine → World
described sources lines =
    record {
      base = (space_of lines).0;
      pages = (space_of lines).1;
      namespaces = filter_map namespace_of lines;
      cells = filter_map (cell_of sources lines) lines;
      links = [];
      regions = [];
      tasks = [];
      next_cell = 0;
      next_task = 0;
      swaps = 0;
    }

-- the byte of the line at the address, where the line covers it
abbrev pub byte_in : ℕ → DumpLine → Option ℕ
byte_in addr (Content at start bytes) = where_true (nat_le start addr && nat_lt addr (start + length bytes)) (slice_index bytes (addr - start))
byte_in addr _ = None

abbrev pub byte_at : List DumpLine → ℕ → ℕ
byte_at lines addr = unwrap_or (first (filter_map (byte_in addr) lines)) 0

-- what the dump says that the section holds
abbrev pub told : List DumpLine → Cell → ObjectSection → List ℕ
told lines c s = map (λ k. byte_at lines (start_of c.placed s.number + k)) (upto s.size)
