use Rattle.std.proofs.Common.{◌≡◌, drop}
use Rattle.std.specs.Prelude.{filter_map}
use Rattle.cell_num.specs.Lists.{first}
use Rattle.cell_space.specs.Nearest.{weak_offer}
use Rattle.cell_space.proofs.nearest.weak_by_walk.Given as goal

-- none so far
abbrev pub invariant-loop-cell : goal.invariant-loop-cell
invariant-loop-cell l = first (filter_map (weak_offer l.ns l.state l.name) (drop l.cell-index l.cells)) ≡ first (filter_map (weak_offer l.ns l.state l.name) l.cells)
