use Rattle.std.proofs.Common.{◌≡◌, ◌+◌, map, drop}
use Rattle.cell_script.specs.Script.{script_from}
use Rattle.cell_script.proofs.Lines.{prepend}
use Rattle.cell_script.proofs.read.read_lines.Given as goal

-- the lines so far, and those of the texts that are left, are all lines
abbrev pub invariant-loop-i : goal.invariant-loop-i
invariant-loop-i l = prepend l.lines.items (script_from (l.i + 1) (map (λ text. text.now) (drop l.i l.texts))) ≡ script_from 1 (map (λ text. text.now) l.texts)
