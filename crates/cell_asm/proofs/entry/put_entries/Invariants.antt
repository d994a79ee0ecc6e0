use Rattle.std.specs.Prelude.{◌≡◌, ◌++◌}
use Rattle.cell_asm.proofs.Facts.{map, take, filter, is_at, entry_kept}
use Rattle.cell_asm.proofs.entry.put_entries.Given as goal

-- the entries so far
abbrev pub invariant-loop-reference : goal.invariant-loop-reference
invariant-loop-reference l =
    l.entries.items ≡ l.initial.entries.items ++ map (entry_kept l.section l.symbols) (filter (λ r. is_at l.part r.part) (take l.reference-index l.kept.references.items))
