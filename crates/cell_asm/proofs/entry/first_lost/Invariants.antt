use Rattle.std.specs.Prelude.{◌≡◌}
use Rattle.cell_asm.proofs.Facts.{drop, find, lost_by}
use Rattle.cell_asm.proofs.entry.first_lost.Given as goal

-- none so far, so the first is among those that are left
abbrev pub invariant-loop-reference : goal.invariant-loop-reference
invariant-loop-reference l = find (lost_by l.kept) (drop l.reference-index l.kept.references.items) ≡ find (lost_by l.kept) l.kept.references.items
