use Rattle.std.proofs.Common.{◌≡◌, take}
use Rattle.cell_elfw.specs.Drafts.{HoldsTables}
use Rattle.cell_object.specs.ImageParts.{relocated}
use Rattle.cell_elfw.proofs.draft.Draft.add_tables.Given as goal

-- the draft holds the relocations of the sections so far
abbrev pub invariant-loop-index : goal.invariant-loop-index
invariant-loop-index l = record {
  all : HoldsTables l.self.file.items l.self.names.items l.self.table_rows.items l.object (relocated (take l.index l.object.sections) l.object.entries);
  own : l.self.own_rows.items ≡ l.fn.self.own_rows.items;
}
