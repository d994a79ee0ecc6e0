-- Where code may begin in a cell.
--     BeginsIn c addr     four bytes of an executable section of the cell stand from that address on, which is a multiple of 4
use Rattle.std.specs.Prelude.{ℕ, ◌+◌, ◌%◌, ◌≡◌, ◌≤◌, true}
use Rattle.cell_object.specs.declared.object.Section.{Section}
use Rattle.cell_world.specs.World.{Cell}
use Rattle.cell_world.specs.Linked.Target.{start_of}
use Rattle.cell_num.specs.Lists.{In}

pub record BeginsIn (c : Cell) (addr : ℕ) : Type 0 where
  pub section : Section
  pub offset : ℕ
  pub there : In section c.object.sections
  pub executable : section.exec ≡ true
  pub bytes : offset + 4 ≤ section.size
  pub at : addr ≡ start_of c.placed section.number + offset
  pub multiple : addr % 4 ≡ 0
