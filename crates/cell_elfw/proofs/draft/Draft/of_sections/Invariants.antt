use Rattle.std.proofs.Common.{◌≡◌, [], take}
use Rattle.cell_elfw.specs.Drafts.{HoldsSections}
use Rattle.cell_elfw.proofs.draft.Draft.of_sections.Given as goal

-- the draft holds the sections so far
abbrev pub invariant-loop-section : goal.invariant-loop-section
invariant-loop-section l = record {
  sections : HoldsSections l.draft.file.items l.draft.names.items l.draft.own_rows.items (take l.section-index l.sections);
  tables : l.draft.table_rows.items ≡ [];
}
