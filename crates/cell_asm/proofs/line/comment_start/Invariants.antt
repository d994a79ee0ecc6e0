use Rattle.std.specs.Prelude.{◌≡◌, ◌+◌, ◌==◌}
use Rattle.cell_asm.proofs.Facts.{drop, not, prefix_len}
use Rattle.cell_asm.proofs.line.comment_start.Given as goal

-- the bytes so far pass
abbrev pub invariant-loop-i : goal.invariant-loop-i
invariant-loop-i l = prefix_len (λ b. not (b == 35)) l.text ≡ l.i + prefix_len (λ b. not (b == 35)) (drop l.i l.text)
