use Rattle.std.proofs.Common.{◌≡◌, ℕ, List, length, map, take}
use Rattle.cell_object.specs.declared.object.Entry.{Entry}
use Rattle.cell_object.specs.declared.object.Section.{Section}
use Rattle.cell_relinked.specs.Contents.{with_fields}
use Rattle.cell_relinked.proofs.writing.write_fields.Given as goal

-- the fields so far are written
abbrev pub invariant-loop-index : goal.invariant-loop-index
invariant-loop-index l = record {
  sizes : map (λ bytes. length bytes) l.contents.items ≡ map (λ s. s.size) l.sections;
  written : (value : Entry → ℕ) (own : Section → List ℕ) → map (λ v. v.value) l.fields.values ≡ map value l.fields.firsts.items → l.fn.contents.items ≡ map own l.sections
      → l.contents.items ≡ map (λ s. with_fields value (take l.index l.fields.firsts.items) s (own s)) l.sections;
}
