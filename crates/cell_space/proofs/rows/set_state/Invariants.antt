use Rattle.std.proofs.Common.{◌≡◌, ◌++◌, take, drop, map}
use Rattle.cell_space.specs.Named.{put_into}
use Rattle.cell_space.proofs.rows.set_state.Given as goal

abbrev pub invariant-loop-cell : goal.invariant-loop-cell
invariant-loop-cell l = l.cell-items ≡ map (put_into l.state l.number) (take l.cell-index l.initial.cell-items) ++ drop l.cell-index l.initial.cell-items
