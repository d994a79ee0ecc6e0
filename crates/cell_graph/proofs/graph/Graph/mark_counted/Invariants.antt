use Rattle.std.proofs.Common.{◌≡◌, ℕ, ◌||◌, take}
use Rattle.std.specs.List.{list_any}
use Rattle.cell_graph.specs.Users.{is_marked, leads_to}
use Rattle.cell_graph.proofs.graph.Graph.mark_counted.Given as goal

-- the users of the sections so far
abbrev pub invariant-loop-index : goal.invariant-loop-index
invariant-loop-index g l = (n : ℕ) → is_marked l.marks.items n ≡ (is_marked l.fn.marks.items n || list_any (λ s. leads_to s.key l.self.rows n) (take l.index l.sections))
