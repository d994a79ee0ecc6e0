use Rattle.std.proofs.Common.{◌≡◌, ◌++◌, drop}
use Rattle.std.specs.Prelude.{codes}
use Rattle.std.specs.List.{flat_map}
use Rattle.cell_print.specs.Lines.{run_lines, Extends}
use Rattle.cell_print.proofs.tasks.put_runs.Given as goal

-- the lines of the tasks so far, and of those that are left, are all of them
abbrev pub invariant-loop-run : goal.invariant-loop-run
invariant-loop-run l = record {
  all : l.into.items ++ flat_map (run_lines (codes "  t")) (drop l.run-index l.runs) ≡ l.fn.into.items ++ flat_map (run_lines (codes "  t")) l.runs;
  extends : Extends l.fn.into.items l.into.items;
}
