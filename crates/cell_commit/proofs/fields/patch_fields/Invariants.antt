use Rattle.std.proofs.Common.{◌≡◌, ◌-◌, drop, length}
use Rattle.std.specs.Prelude.{All}
use Rattle.cell_mem.specs.State.{HasWrites}
use Rattle.cell_commit.specs.Commit.{IsMapped, fields_patched}
use Rattle.cell_link.specs.declared.value.FieldValue.{FieldValue}
use Rattle.cell_commit.proofs.fields.patch_fields.Given as goal

-- the memory so far, with the fields that are left written, is as it is to be
abbrev pub invariant-loop-patch : goal.invariant-loop-patch
invariant-loop-patch l = record {
  written : fields_patched l.memory (drop l.patch-index l.patches) ≡ fields_patched l.fn.memory l.patches;
  undo : HasWrites l.memory (length l.patches - l.patch-index);
  still : (f : FieldValue) → IsMapped l.fn.memory f → IsMapped l.memory f;
  mapped : All (IsMapped l.memory) l.patches;
}
