use Rattle.std.proofs.Common.{◌≡◌, ◌-◌, drop, length}
use Rattle.std.specs.Prelude.{All}
use Rattle.cell_mem.specs.State.{HasWrites}
use Rattle.cell_commit.specs.Commit.{IsMapped, fields_written}
use Rattle.cell_commit.proofs.fields.write_fields.Given as goal

-- the memory so far, with the fields that are left written, is as it is to be
abbrev pub invariant-loop-field : goal.invariant-loop-field
invariant-loop-field l = record {
  written : fields_written l.memory (drop l.field-index l.fields) ≡ fields_written l.fn.memory l.fields;
  undo : HasWrites l.memory (length l.fields - l.field-index);
  mapped : All (IsMapped l.memory) l.fields;
}
