use Rattle.std.proofs.Common.{length}
use Rattle.cell_commit.specs.Commit.{field_written}
use Rattle.cell_commit.proofs.FieldsLeft.{all_mapped_kept, no_field, one_left, written_kept, written_takes, writes_kept, written_done, written_more}
use Rattle.cell_commit.proofs.fields.write_fields.Goals as goal

pub write_field-requires-clause-mapped : goal.write_field-requires-clause-mapped
write_field-requires-clause-mapped c = c.loop-field.invariant.mapped c.loop-field.field-index no_field c.loop-field-test.true

pub write_field-requires-clause-undo : goal.write_field-requires-clause-undo
write_field-requires-clause-undo c = one_left c.loop-field.memory (length c.args.fields.now) c.loop-field.field-index c.loop-field-test.true c.loop-field.invariant.undo

pub loop-field-preserved : goal.loop-field-preserved
loop-field-preserved c =
    let this = c.loop-field.invariant.mapped c.loop-field.field-index no_field c.loop-field-test.true in
    record {
      written = written_more field_written written_takes written_kept _ _ _ c.args.fields.now c.loop-field.field-index c.loop-field-test.true c.write_field.ensures.written c.loop-field.invariant.written;
      undo = writes_kept field_written written_takes written_kept c.loop-field.memory _ _ (length c.args.fields.now) c.loop-field.field-index c.write_field.ensures.written c.loop-field.invariant.undo;
      mapped = all_mapped_kept field_written written_takes written_kept _ _ _ c.args.fields.now c.write_field.ensures.laid this c.write_field.ensures.written c.loop-field.invariant.mapped;
    }

pub returns : goal.returns
returns c = written_done field_written written_takes written_kept _ _ c.args.fields.now c.loop-field.field-index c.loop-field-test.false c.loop-field.invariant.written
