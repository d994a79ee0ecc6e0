-- What showing something comes to.
--     section_shown c s       a section as it is shown
--     CanShow m c             the cell's namespace is there, and its places are in the order of their sections
use Rattle.std.specs.Prelude.{◌<◌, nat_lt, IsTrue, length}
use Rattle.cell_num.specs.Lists.{each_pair}
use Rattle.cell_object.specs.declared.object.Section.{Section as ObjectSection}
use Rattle.cell_world.specs.declared.state.NewCell.{NewCell}
use Rattle.cell_world.specs.Linked.Target.{start_of}
use Rattle.cell_world.specs.declared.reply.MapSection.{MapSection}
use Rattle.cell_machine.specs.declared.machine.Machine.{Machine}

pub record CanShow (m : Machine) (c : NewCell) : Type 0 where
  pub ordered : IsTrue (each_pair (λ a b. nat_lt a.section b.section) c.places)
  pub ns : c.ns < length m.spaces.namespaces

-- a section as it is shown, by its cell's places
abbrev pub section_shown : NewCell → ObjectSection → MapSection
section_shown c s = record { section = s.number; write = s.write; exec = s.exec; start = start_of c s.number; size = s.size }
