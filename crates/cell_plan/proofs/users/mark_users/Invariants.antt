use Rattle.std.proofs.Common.{◌≡◌, ℕ, take}
use Rattle.std.specs.List.{list_any}
use Rattle.cell_graph.specs.Users.{is_marked, is_user_of}
use Rattle.cell_num.specs.declared.ids.CellId.{CellId}
use Rattle.cell_plan.proofs.users.mark_users.Given as goal

-- the users of the cells so far
abbrev pub invariant-loop-index : goal.invariant-loop-index
invariant-loop-index l = (n : ℕ) → is_marked l.marks.items n ≡ list_any (λ (c : CellId). is_user_of c.0 l.graph.rows n) (take l.index l.old.cells.now)
