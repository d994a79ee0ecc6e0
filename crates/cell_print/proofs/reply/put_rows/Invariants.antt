use Rattle.std.proofs.Common.{◌≡◌, ◌++◌, length}
use Rattle.cell_print.specs.Lines.{rows, Extends}
use Rattle.cell_print.proofs.reply.put_rows.Given as goal

-- the rows so far, and those that are left, are all of them
abbrev pub invariant-loop-rest : goal.invariant-loop-rest
invariant-loop-rest l = record {
  all : l.into.items ++ rows l.addr l.rest ≡ l.fn.into.items ++ rows l.start l.bytes;
  extends : Extends l.fn.into.items l.into.items;
}

abbrev pub decreases-loop-rest : goal.decreases-loop-rest
decreases-loop-rest l = length l.rest
