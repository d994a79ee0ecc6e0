use Rattle.std.specs.Prelude.{◌≡◌, ◌+◌}
use Rattle.cell_asm.proofs.Facts.{drop, prefix_len, is_blank}
use Rattle.cell_asm.proofs.line.blanks_before.Given as goal

-- the bytes so far pass
abbrev pub invariant-loop-i : goal.invariant-loop-i
invariant-loop-i l = prefix_len (λ b. is_blank b) l.text ≡ l.i + prefix_len (λ b. is_blank b) (drop l.i l.text)
