use Rattle.std.proofs.Common.{◌≡◌, ℕ, ◌+◌, ◌<◌, false}
use Rattle.cell_file.specs.Cover.{hits}
use Rattle.cell_file.specs.Fields.{field_at}
use Rattle.cell_file.proofs.cover.Fields.is_hit.Given as goal

abbrev pub invariant-loop-start : goal.invariant-loop-start
invariant-loop-start l = (q : ℕ) → l.field.from < q + 8 → q < l.start → hits l.field (field_at l.self q) ≡ false
