use Rattle.std.proofs.Common.{◌≡◌, ◌++◌, drop}
use Rattle.std.specs.List.{flat_map}
use Rattle.cell_print.specs.Lines.{escaped, Extends}
use Rattle.cell_print.proofs.piece.put_out.Given as goal

-- the bytes so far, and those that are left, are all of them
abbrev pub invariant-loop-byte : goal.invariant-loop-byte
invariant-loop-byte l = record {
  all : l.into.items ++ flat_map escaped (drop l.byte-index l.bytes) ≡ l.fn.into.items ++ flat_map escaped l.bytes;
  extends : Extends l.fn.into.items l.into.items;
}
