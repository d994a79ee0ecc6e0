-- `map`: all cells, and where their sections stand.
use Rattle.std.specs.Prelude.{ℕ, Option, Some, None, map}
use Rattle.cell_object.specs.declared.object.Section.{Section as ObjectSection}
use Rattle.cell_world.specs.declared.reply.MapCell.{MapCell}
use Rattle.cell_world.specs.declared.reply.MapSection.{MapSection}
use Rattle.cell_world.specs.declared.reply.Reply.TheVariants.{Map as MapDone}
use Rattle.cell_world.specs.World.{World, Cell, Standing}
use Rattle.cell_world.specs.declared.state.Standing.TheVariants.{Attached, Detached}
use Rattle.cell_world.specs.Gather.{name_of_ns}
use Rattle.cell_world.specs.Linked.Target.{start_of}
use Rattle.cell_world.specs.Outcome.{Outcome}
use Rattle.cell_world.specs.Answer.{Done, done}

abbrev pub map_section : Cell → ObjectSection → MapSection
map_section c s = record { section = s.number; write = s.write; exec = s.exec; start = start_of c.placed s.number; size = s.size }

abbrev pub group_of : Standing → Option ℕ
group_of Attached = None
group_of (Detached k) = Some k

abbrev pub map_cell : World → Cell → MapCell
map_cell w c =
    record {
      cell = c.id;
      ns = name_of_ns w c.ns;
      stem = c.stem;
      file = c.file;
      group = group_of c.standing;
      sections = map (map_section c) c.object.sections;
    }

abbrev pub next_map : World → Outcome Done
next_map w = done (MapDone (map (map_cell w) w.cells)) w
