use Rattle.std.proofs.Common.{◌++◌, ap, ◌∙◌, arith}
use Rattle.cell_print.specs.Pieces.{text}
use Rattle.cell_print.proofs.Growth.{pieces_more}
use Rattle.cell_print.proofs.line.put_line.Goals as goal

pub loop-piece-preserved : goal.loop-piece-preserved
loop-piece-preserved c =
    pieces_more c.args.into.now.items c.loop-piece.into.items _ c.args.pieces.now c.loop-piece.piece-index c.piece-item.result (omega arith) c.loop-piece.invariant
    (c.in_ok-put_piece.ensures.ok ∙ ap (λ p. c.loop-piece.into.items ++ text p) c.piece-item.is)
