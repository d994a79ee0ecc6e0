use Rattle.std.proofs.Common.{◌≡◌, ◌+◌, drop}
use Rattle.cell_commit.specs.Cells.{name_count as names_in}
use Rattle.cell_load.proofs.room.name_count.Given as goal

-- the names so far, with those of the cells that are left, are all
abbrev pub invariant-loop-newcomer : goal.invariant-loop-newcomer
invariant-loop-newcomer l = l.n + names_in (drop l.newcomer-index l.newcomers) ≡ names_in l.newcomers
