-- The machine with all code and all links made anew from the objects: no history is in it.
--     patches_of w c             what linking writes for the cell, field by field
--     field_count cells          how many fields the cells have
--     remade w r                 the region with its own bytes again, where it isn't writable, and with all fields
--     links_of w                 one link for each entry whose target is a section
--     relink w                   w with each region and the links made anew
use Rattle.std.specs.Prelude.{ℕ, ◌+◌, ◌==◌, Bool, false, List, ◌++◌, Option, Some, None, length, map, filter, filter_map, flat_map, fold, option_map}
use Rattle.cell_object.specs.declared.object.Entry.{Entry}
use Rattle.cell_world.specs.declared.state.LinkRow.{LinkRow}
use Rattle.cell_world.specs.declared.state.Target.{Target}
use Rattle.cell_world.specs.declared.state.Target.TheVariants.{Section, Number}
use Rattle.cell_world.specs.World.{World, Cell, Region, key_of}
use Rattle.cell_world.specs.Placed.Layout.{sections_in, image_of}
use Rattle.cell_world.specs.declared.layout.Class.TheVariants.{Text, ReadOnly}
use Rattle.cell_world.specs.declared.layout.Class.{Class}
use Rattle.cell_num.specs.Lists.{numbered, first}
use Rattle.cell_num.specs.Bits.{bytes_of}
use Rattle.cell_num.specs.Kinds.{width_of}
use Rattle.cell_world.specs.Linked.Target.{target_of, targets_of, start_of}
use Rattle.cell_world.specs.Running.Memory.{written}
use Rattle.cell_world.specs.Linked.Field.{Bound, bound_by, fields_of, field_value_of, place_of}

-- the first section of a class stands at the start of the class's region
abbrev pub class_start : Cell → Class → Option ℕ
class_start c class = option_map (λ s. start_of c.placed s.number) (first (sections_in class c.object))

-- the region is the cell's region of that class
abbrev pub is_region_of : Class → Region → Cell → Bool
is_region_of class r c = elim (class_start c class) [ None ↦ false | Some start ↦ start == r.start ]

-- the cells' own bytes for the region, where it is the region of that class of one of them
abbrev pub images_for : List Cell → Region → Class → List (List ℕ)
images_for cells r class =
    map (λ c. image_of (sections_in class c.object)) (filter (is_region_of class r) cells)

-- a region of a cell that isn't writable holds the object's own bytes again
abbrev pub restored : World → Region → Region
restored w r =
    elim (first (images_for w.cells r Text ++ images_for w.cells r ReadOnly)) [
      | None ↦ r
      | Some bytes ↦ record r { bytes = bytes }
    ]

abbrev pub bound_entries : World → Cell → List Bound
bound_entries w c = bound_by c.object.entries (targets_of w c)

-- an address, and the bytes from there on
pub record Patch : Type 0 where
  pub addr : ℕ
  pub bytes : List ℕ

abbrev pub patch_of : Cell → List Bound → Entry → Patch
patch_of c bound f =
    record { addr = place_of c.placed f; bytes = bytes_of (width_of f.kind) (field_value_of c.placed bound f) }

abbrev pub patches_of : World → Cell → List Patch
patches_of w c = map (patch_of c (bound_entries w c)) (fields_of c.object)

abbrev pub field_count : List Cell → ℕ
field_count cells = fold (λ n c. n + length (fields_of c.object)) 0 cells

abbrev pub patched : Region → Patch → Region
patched r p = written r p.addr p.bytes

-- the region with each field of each cell written
abbrev pub remade : World → Region → Region
remade w r = fold patched (restored w r) (flat_map (patches_of w) w.cells)

abbrev pub link_to : Cell → ℕ → Entry → Target → Option LinkRow
link_to c i e (Section key offset addr) = Some (record { user = key_of c.id.0 e.section; entry = i; target = key })
link_to c i e (Number value) = None

abbrev pub link_of : World → Cell → ℕ × Entry → Option LinkRow
link_of w c p = elim (target_of w c p.1) [ None ↦ None | Some target ↦ link_to c p.0 p.1 target ]

abbrev pub links_of : World → List LinkRow
links_of w = flat_map (λ c. filter_map (link_of w c) (numbered c.object.entries)) w.cells

abbrev pub relink : World → World
relink w = record w { regions = map (remade w) w.regions; links = links_of w }
