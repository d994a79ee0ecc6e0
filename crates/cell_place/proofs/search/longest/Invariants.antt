use Rattle.cell_place.specs.Runs.{IsFound}
use Rattle.cell_place.proofs.search.longest.Given as goal

-- what the pages from there on have
abbrev pub invariant-loop-page : goal.invariant-loop-page
invariant-loop-page l = IsFound l.taken l.page l.found
