use Rattle.std.specs.Prelude.{◌≡◌, ◌+◌}
use Rattle.cell_asm.proofs.Facts.{drop, not, prefix_len, is_sign}
use Rattle.cell_asm.proofs.operand.name_end.Given as goal

-- the bytes so far pass
abbrev pub invariant-loop-i : goal.invariant-loop-i
invariant-loop-i l = prefix_len (λ b. not (is_sign b)) l.text ≡ l.i + prefix_len (λ b. not (is_sign b)) (drop l.i l.text)
