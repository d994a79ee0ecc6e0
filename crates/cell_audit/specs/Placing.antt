-- Which lines of a dump name no object, or place what can't stand there.
--     first_lacking sources rows       the first cell's line whose file isn't there or breaks a rule
--     first_misplaced sources rows     the first line that places what can't stand there
use Rattle.std.specs.Prelude.{ℕ, suc, ◌+◌, ◌*◌, ◌%◌, ◌==◌, nat_lt, nat_le, Bool, false, not, ◌&&◌, List, [], ◌∷◌, ◌++◌, Option, Some, None, map, filter_map, find, is_none, option_map, option_and_then, unwrap_or, max, if◌then◌else◌}
use Rattle.cell_num.specs.Limits.{page_size}
use Rattle.std.specs.List.{list_any}
use Rattle.cell_num.specs.Lists.{equals, first, where_true}
use Rattle.cell_object.specs.declared.object.Object.{Object}
use Rattle.cell_object.specs.declared.object.Section.{Section as ObjectSection}
use Rattle.cell_object.specs.Parts.{section_of}
use Rattle.cell_world.specs.Gather.{Source}
use Rattle.cell_world.specs.Names.{definitions_of}
use Rattle.cell_world.specs.declared.line.DumpLine.{DumpLine}
use Rattle.cell_world.specs.declared.line.DumpLine.TheVariants.{Cell as CellLine, Place, Alias as AliasLine}
use Rattle.cell_audit.specs.Dumps.{Row, lines_of}
use Rattle.cell_audit.specs.Described.{object_of, place_of, space_of}

-- a cell's line whose file isn't there, or breaks a rule
abbrev pub lacks_object : List Source → DumpLine → Bool
lacks_object sources (CellLine cell ns stem file group) = is_none (object_of sources file)
lacks_object sources _ = false

abbrev pub first_lacking : List Source → List Row → Option ℕ
first_lacking sources rows = option_map (λ r. r.0) (find (λ r. lacks_object sources r.1) rows)

-- the object of the cell of that number
abbrev pub object_with : List Source → ℕ → DumpLine → Option Object
object_with sources number (CellLine cell ns stem file group) = option_and_then (λ object. where_true (cell == number) object) (object_of sources file)
object_with sources number _ = None

abbrev pub first_object : List Source → List DumpLine → ℕ → Option Object
first_object sources lines number = first (filter_map (object_with sources number) lines)

-- a section where the line places it
pub record Extent : Type 0 where
  pub start : ℕ
  pub section : ObjectSection

abbrev pub extent_of : List Source → List DumpLine → DumpLine → Option Extent
extent_of sources lines (Place cell section start) =
    option_map (λ s. record { start = start; section = s })
    (option_and_then (λ object. section_of object section) (first_object sources lines cell))
extent_of sources lines _ = None

abbrev pub share_a_byte : Extent → Extent → Bool
share_a_byte a b =
    nat_lt 0 a.section.size && nat_lt 0 b.section.size
    && nat_lt a.start (b.start + b.section.size) && nat_lt b.start (a.start + a.section.size)

-- at a multiple of its alignment, wholly in the space, and apart from the earlier ones
abbrev pub may_stand : ℕ × ℕ → List Extent → Extent → Bool
may_stand space before e =
    (e.start % max 1 e.section.align == 0) && nat_le space.0 e.start
    && nat_le (e.start + e.section.size) (space.0 + page_size * space.1) && not (list_any (λ b. share_a_byte b e) before)

-- the cell has a place for each section of its object, in order
abbrev pub has_places : List Source → List DumpLine → ℕ → Bool
has_places sources lines cell =
    unwrap_or
    (option_map (λ object. equals (map (λ p. p.section) (filter_map (place_of cell) lines)) (map (λ s. s.number) object.sections))
    (first_object sources lines cell)) false

-- the symbol at that place, from 0, is a GLOBAL that the cell's object defines
abbrev pub has_definition : List Source → List DumpLine → ℕ → ℕ → Bool
has_definition sources lines cell symbol =
    unwrap_or
    (option_map (λ object. list_any (λ d. d.symbol == suc symbol) (definitions_of object)) (first_object sources lines cell)) false

-- behind the lines before, of all lines
abbrev pub is_misplaced : List Source → List DumpLine → List DumpLine → DumpLine → Bool
is_misplaced sources lines before (CellLine cell ns stem file group) = not (has_places sources lines cell)
is_misplaced sources lines before (Place cell section start) =
    not (unwrap_or
    (option_map (may_stand (space_of lines) (filter_map (extent_of sources lines) before))
    (extent_of sources lines (Place cell section start))) false)
is_misplaced sources lines before (AliasLine cell symbol name) = not (has_definition sources lines cell symbol)
is_misplaced sources lines before _ = false

abbrev pub misplaced_after : List Source → List DumpLine → List DumpLine → List Row → Option ℕ
misplaced_after sources lines before [] = None
misplaced_after sources lines before (r ∷ rows) =
    if is_misplaced sources lines before r.1 then Some r.0 else misplaced_after sources lines (before ++ r.1 ∷ []) rows

abbrev pub first_misplaced : List Source → List Row → Option ℕ
first_misplaced sources rows = misplaced_after sources (lines_of rows) [] rows
