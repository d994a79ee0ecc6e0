use Rattle.std.proofs.Common.{◌-◌, arith, length, refl}
use Rattle.cell_mem.proofs.Noting.{fewer_writes}
use Rattle.cell_commit.specs.Commit.{field_patched}
use Rattle.cell_commit.proofs.FieldsLeft.{all_mapped_kept, no_field, one_left, patched_kept, patched_takes, still_kept, writes_kept, written_done, written_more}
use Rattle.cell_commit.proofs.fields.patch_fields.Goals as goal

pub loop-patch-init : goal.loop-patch-init
loop-patch-init c = record { written = refl; undo = fewer_writes c.args.memory.now (length c.args.patches.now) (length c.args.patches.now - 0) (omega arith) c.requires.undo; still = λ f m. m; mapped = c.requires.mapped }

pub patch_field-requires-clause-mapped : goal.patch_field-requires-clause-mapped
patch_field-requires-clause-mapped c = c.loop-patch.invariant.mapped c.loop-patch.patch-index no_field c.loop-patch-test.true

pub patch_field-requires-clause-undo : goal.patch_field-requires-clause-undo
patch_field-requires-clause-undo c = one_left c.loop-patch.memory (length c.args.patches.now) c.loop-patch.patch-index c.loop-patch-test.true c.loop-patch.invariant.undo

pub loop-patch-preserved : goal.loop-patch-preserved
loop-patch-preserved c =
    let this = c.loop-patch.invariant.mapped c.loop-patch.patch-index no_field c.loop-patch-test.true in
    record {
      written = written_more field_patched patched_takes patched_kept _ _ _ c.args.patches.now c.loop-patch.patch-index c.loop-patch-test.true c.patch_field.ensures.written c.loop-patch.invariant.written;
      undo = writes_kept field_patched patched_takes patched_kept c.loop-patch.memory _ _ (length c.args.patches.now) c.loop-patch.patch-index c.patch_field.ensures.written c.loop-patch.invariant.undo;
      still = still_kept field_patched patched_takes patched_kept c.args.memory.now _ _ c.args.patches.now c.loop-patch.patch-index c.patch_field.ensures.laid this c.patch_field.ensures.written c.loop-patch.invariant.still;
      mapped = all_mapped_kept field_patched patched_takes patched_kept _ _ _ c.args.patches.now c.patch_field.ensures.laid this c.patch_field.ensures.written c.loop-patch.invariant.mapped;
    }

pub returns-clause-patched : goal.returns-clause-patched
returns-clause-patched c = written_done field_patched patched_takes patched_kept _ _ c.args.patches.now c.loop-patch.patch-index c.loop-patch-test.false c.loop-patch.invariant.written
