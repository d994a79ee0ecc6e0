use Rattle.std.specs.Prelude.{◌≡◌, ◌+◌}
use Rattle.cell_asm.proofs.Facts.{drop, prefix_len, is_inked}
use Rattle.cell_asm.proofs.line.word_end.Given as goal

-- the bytes so far pass
abbrev pub invariant-loop-i : goal.invariant-loop-i
invariant-loop-i l = prefix_len (λ b. is_inked b) l.text ≡ l.i + prefix_len (λ b. is_inked b) (drop l.i l.text)
