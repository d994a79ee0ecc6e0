-- What it is for a machine to have new cells behind its own, and what linking writes then.
--     IsOwn new r                the region is that of a class of one of the new cells, with the class's own bytes
--     IsRegrown v w new          w has the cells of v as they are by now, and then the new ones, in regions of their own
--     HasAttached v w new        w has the cells of v as they were, and then the new ones, which are attached
--     patch_at w f               what linking writes at the field
--     with_changes v w new r     the region with the fields that change and those of the new cells written
--     links_from w new           one link for each entry of the new cells whose target is a section
use Rattle.std.specs.Prelude.{ℕ, ◌≡◌, ◌⊎◌, IsTrue, List, ◌++◌, Some, All, filter_map, flat_map, fold, map}
use Rattle.std.specs.List.{list_all}
use Rattle.cell_num.specs.Lists.{In, numbered}
use Rattle.cell_world.specs.declared.state.LinkRow.{LinkRow}
use Rattle.cell_world.specs.World.{World, Cell, Region, is_attached}
use Rattle.cell_world.specs.Linked.Relink.{Patch, bound_entries, class_start, patch_of, patched, patches_of, link_of}
use Rattle.cell_world.specs.Placed.Layout.{permission_of, sections_in, image_of}
use Rattle.cell_world.specs.declared.layout.Class.{Class}
use Rattle.cell_world.specs.Changed.{FieldAt, changed_fields, now_in}

pub record IsOwn (new : List Cell) (r : Region) : Type 0 where
  pub cell : Cell
  pub new_cell : In cell new
  pub class : Class
  pub start : class_start cell class ≡ Some r.start
  pub permission : r.permission ≡ permission_of class
  pub bytes : r.bytes ≡ image_of (sections_in class cell.object)

-- the cells of v may have other standings or aliases in w
pub record IsRegrown (v w : World) (new : List Cell) : Type 0 where
  pub cells : w.cells ≡ map (now_in w) v.cells ++ new
  -- number, namespace, stem, file, object and places are as they were
  pub same : All (λ c. (now_in w c).placed ≡ c.placed) v.cells
  -- the regions of v, and those of the new cells, which start where none of v does
  pub old : (r : Region) → In r v.regions → In r w.regions
  pub regions : (r : Region) → In r w.regions → In r v.regions ⊎ IsOwn new r
  pub starts : (c : Cell) → In c new → (class : Class) (start : ℕ) → class_start c class ≡ Some start → (r : Region) → In r v.regions → start ≡ r.start → ⊥

pub record HasAttached (v w : World) (new : List Cell) : Type 0 where
  pub cells : w.cells ≡ v.cells ++ new
  pub attached : IsTrue (list_all (λ c. is_attached c.standing) new)
  pub spaces : w.namespaces ≡ v.namespaces

abbrev pub patch_at : World → FieldAt → Patch
patch_at w f = patch_of f.cell (bound_entries w f.cell) f.field

abbrev pub with_changes : World → World → List Cell → Region → Region
with_changes v w new r = fold patched r (map (patch_at w) (changed_fields v w) ++ flat_map (patches_of w) new)

abbrev pub links_from : World → List Cell → List LinkRow
links_from w new = flat_map (λ c. filter_map (link_of w c) (numbered c.object.entries)) new
