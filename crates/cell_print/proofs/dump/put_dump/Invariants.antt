use Rattle.std.proofs.Common.{◌≡◌, ◌++◌, drop}
use Rattle.std.specs.List.{flat_map}
use Rattle.cell_print.specs.Lines.{dump_line, Extends}
use Rattle.cell_print.proofs.dump.put_dump.Given as goal

-- the lines so far, and those that are left, are all of them
abbrev pub invariant-loop-line : goal.invariant-loop-line
invariant-loop-line l = record {
  all : l.into.items ++ flat_map dump_line (drop l.line-index l.lines) ≡ l.fn.into.items ++ flat_map dump_line l.lines;
  extends : Extends l.fn.into.items l.into.items;
}
