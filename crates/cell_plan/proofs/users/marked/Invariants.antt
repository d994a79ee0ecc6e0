use Rattle.std.proofs.Common.{◌≡◌, map, take}
use Rattle.std.specs.Prelude.{filter}
use Rattle.cell_plan.specs.Marked.{has_mark}
use Rattle.cell_plan.proofs.users.marked.Given as goal

-- those of the cells so far
abbrev pub invariant-loop-index : goal.invariant-loop-index
invariant-loop-index l = map (λ c. c.now) l.users.items ≡ filter (λ c. has_mark l.marks c.id.0) (take l.index l.cells)
