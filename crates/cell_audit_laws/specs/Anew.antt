-- A machine linked anew, as an audit shows it.
--     linked_anew w       with the links of its entries
--     made_anew w c s     what a section holds: its own bytes, or what it holds where it is writable, with the values of its fields
--     described_of w      what a dump says of w, without what it shows anew: no regions, no tasks and no counts
--     shown l             the text of a line, as a transcript has it
use Rattle.std.specs.Prelude.{ℕ, List, [], ◌∷◌, if◌then◌else◌}
use Rattle.cell_object.specs.declared.object.Section.{Section as ObjectSection}
use Rattle.cell_world.specs.Placed.Layout.{own_bytes}
use Rattle.cell_world.specs.Linked.Relink.{links_of}
use Rattle.cell_world.specs.World.{World, Cell}
use Rattle.cell_world.specs.DumpLines.{held_in}
use Rattle.cell_dumped.specs.Texts.{line_text}
use Rattle.cell_world.specs.declared.line.DumpLine.{DumpLine}
use Rattle.cell_audit.specs.Linking.{relinked_bytes}

abbrev pub linked_anew : World → World
linked_anew w = record w { links = links_of w }

abbrev pub made_anew : World → Cell → ObjectSection → List ℕ
made_anew w c s = relinked_bytes w c s (if s.write then held_in w c s else own_bytes s s.fill)

abbrev pub described_of : World → World
described_of w =
    record {
      base = w.base;
      pages = w.pages;
      namespaces = w.namespaces;
      cells = w.cells;
      links = [];
      regions = [];
      tasks = [];
      next_cell = 0;
      next_task = 0;
      swaps = 0;
    }

abbrev pub shown : DumpLine → List ℕ
shown l = 32 ∷ 32 ∷ line_text l
