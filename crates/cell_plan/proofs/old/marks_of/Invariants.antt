use Rattle.std.proofs.Common.{◌≡◌, ℕ, take}
use Rattle.std.specs.Prelude.{◌==◌}
use Rattle.std.specs.List.{list_any}
use Rattle.cell_graph.specs.Users.{is_marked}
use Rattle.cell_plan.proofs.old.marks_of.Given as goal

-- those of the cells so far
abbrev pub invariant-loop-index : goal.invariant-loop-index
invariant-loop-index l = (q : ℕ) → is_marked l.marks.items q ≡ list_any (λ c. c.0 == q) (take l.index l.cells)
