use Rattle.std.proofs.Common.{◌≡◌, ◌++◌, map}
use Rattle.cell_space.proofs.cell.into_names.Given as goal

-- the names so far, and those of the cells that are left
abbrev pub invariant-loop-cell : goal.invariant-loop-cell
invariant-loop-cell l = l.names.items ++ map (λ c. c.names) l.cell-iterator.rest.items ≡ map (λ c. c.names) l.fn.cells.items
