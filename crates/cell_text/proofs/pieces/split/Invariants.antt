use Rattle.std.proofs.Common.{◌≡◌, ◌-◌, ◌≤◌, ◌++◌, map, take, drop}
use Rattle.cell_text.specs.Text.{pieces, separates}
use Rattle.cell_text.proofs.Splits.{glue}
use Rattle.cell_text.proofs.pieces.split.Given as goal

-- the parts so far, the piece that is open, and the pieces of what is left are all pieces
abbrev pub invariant-loop-i : goal.invariant-loop-i
invariant-loop-i l = record {
  all : map (λ part. part.now) l.parts.items ++ glue (take (l.i - l.start) (drop l.start l.text)) (pieces (separates l.separator) (drop l.i l.text)) ≡ pieces (separates l.separator) l.text;
  begun : l.start ≤ l.i;
}
