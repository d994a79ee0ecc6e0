use Rattle.std.proofs.Common.{◌≡◌, ◌+◌, ◌/◌, length}
use Rattle.cell_world.specs.DumpLines.{content_lines}
use Rattle.cell_compared.specs.Left.{left}
use Rattle.cell_compared.specs.Walk.{walk}
use Rattle.cell_compared.proofs.Lining.{lines_behind}
use Rattle.cell_compared.proofs.content_lines.compare_bytes.Given as goal

-- what is left of the dump, against what is left of the lines
abbrev pub invariant-loop-k : goal.invariant-loop-k
invariant-loop-k l = walk (left l.cursor) (lines_behind l.at ((length l.bytes + 63) / 64) l.start l.bytes l.k) ≡ walk (left l.fn.cursor) (content_lines l.at l.start l.bytes)
