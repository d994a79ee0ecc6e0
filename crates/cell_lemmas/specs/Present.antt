-- What there is at an address, and what a target and a link name.
--     IsInside w addr n                the n bytes from the address on are in one region
--     HasSection w key                 the section is one of a present cell
--     IsInSection w key offset addr    the offset is in a section of a present cell, and stands at the address
--     IsThere w target                 the target is a number, or a place in a section of a present cell
--     NamesPresent w c e               what the entry of the cell names is there
--     JoinsPresent w l                 both ends of the link are sections of present cells
use Rattle.std.specs.Prelude.{ℕ, ◌+◌, ◌≤◌, ◌≡◌, Some}
use Rattle.cell_num.specs.declared.ids.SecKey.{SecKey}
use Rattle.cell_object.specs.declared.object.Section.{Section as ObjectSection}
use Rattle.cell_object.specs.declared.object.Entry.{Entry}
use Rattle.cell_object.specs.Parts.{section_of}
use Rattle.cell_world.specs.declared.state.LinkRow.{LinkRow}
use Rattle.cell_world.specs.declared.state.Target.{Target}
use Rattle.cell_world.specs.declared.state.Target.TheVariants.{Section, Number}
use Rattle.cell_world.specs.World.{World, Cell, Region, cell_of}
use Rattle.cell_world.specs.Running.Memory.{end_of, region_at}
use Rattle.cell_world.specs.Linked.Target.{start_of, target_of}

pub record IsInside (w : World) (addr n : ℕ) : Type 0 where
  pub region : Region
  pub at : region_at w addr ≡ Some region
  pub ends : addr + n ≤ end_of region

pub record HasSection (w : World) (key : SecKey) : Type 0 where
  pub cell : Cell
  pub present : cell_of w key.cell.0 ≡ Some cell
  pub section : ObjectSection
  pub has : section_of cell.object key.section ≡ Some section

-- the offset may be the section's end
pub record IsInSection (w : World) (key : SecKey) (offset addr : ℕ) : Type 0 where
  pub is : HasSection w key
  pub inside : offset ≤ is.section.size
  pub stands : addr ≡ start_of is.cell.placed key.section + offset

abbrev pub IsThere : World → Target → Type 0
IsThere w (Section key offset addr) = IsInSection w key offset addr
IsThere w (Number value) = Unit {0}

abbrev pub NamesPresent : World → Cell → Entry → Type 0
NamesPresent w c e = (t : Target) × (target_of w c e ≡ Some t) × IsThere w t

pub record JoinsPresent (w : World) (l : LinkRow) : Type 0 where
  pub user : HasSection w l.user
  pub target : HasSection w l.target
