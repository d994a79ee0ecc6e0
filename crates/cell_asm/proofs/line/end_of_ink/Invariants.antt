use Rattle.std.specs.Prelude.{◌≡◌, ◌+◌}
use Rattle.cell_asm.proofs.Facts.{take, suffix_len, is_blank}
use Rattle.cell_asm.proofs.line.end_of_ink.Given as goal

-- the bytes since then pass
abbrev pub invariant-loop-i : goal.invariant-loop-i
invariant-loop-i l = l.end + suffix_len (λ b. is_blank b) (take l.i l.text) ≡ l.i
