use Rattle.std.specs.Prelude.{◌≡◌, ◌+◌}
use Rattle.cell_asm.proofs.Facts.{take, not, suffix_len, is_open}
use Rattle.cell_asm.proofs.operand.after_open.Given as goal

-- the bytes since then pass
abbrev pub invariant-loop-i : goal.invariant-loop-i
invariant-loop-i l = l.after + suffix_len (λ b. not (is_open b)) (take l.i l.text) ≡ l.i
