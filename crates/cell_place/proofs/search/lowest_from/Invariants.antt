use Rattle.std.proofs.Common.{◌≤◌, length}
use Rattle.cell_place.specs.Runs.{HasRun}
use Rattle.cell_place.proofs.search.lowest_from.Given as goal

-- so many pages are free up to there, too few, and none before has enough
abbrev pub invariant-loop-page : goal.invariant-loop-page
invariant-loop-page l = record {
  run : HasRun l.taken l.count l.page l.free;
  inside : l.page ≤ length l.taken;
}
