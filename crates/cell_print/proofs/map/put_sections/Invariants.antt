use Rattle.std.proofs.Common.{◌≡◌, ◌++◌, drop}
use Rattle.std.specs.List.{flat_map}
use Rattle.cell_print.specs.Lines.{section_line, Extends}
use Rattle.cell_print.proofs.map.put_sections.Given as goal

-- the lines of the sections so far, and of those that are left, are all of them
abbrev pub invariant-loop-section : goal.invariant-loop-section
invariant-loop-section l = record {
  all : l.into.items ++ flat_map section_line (drop l.section-index l.sections) ≡ l.fn.into.items ++ flat_map section_line l.sections;
  extends : Extends l.fn.into.items l.into.items;
}
