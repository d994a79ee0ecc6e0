use Rattle.std.proofs.Common.{◌≤◌, length, take}
use Rattle.std.specs.Io.KnownBytes.{Appends}
use Rattle.cell_io.proofs.std_sink.write_through.Given as goal

abbrev pub invariant-loop : goal.invariant-loop
invariant-loop g l = record {
  within : l.at ≤ length l.piece;
  written : Appends (g.W.Write.contents l.fn.stream) (g.W.Write.contents l.stream) (take l.at l.piece);
}
