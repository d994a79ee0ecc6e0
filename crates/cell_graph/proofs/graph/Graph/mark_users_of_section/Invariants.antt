use Rattle.std.proofs.Common.{◌≡◌, ◌+◌, ℕ, ◌||◌, length}
use Rattle.std.specs.Prelude.{◌==◌}
use Rattle.std.specs.List.{list_any}
use Rattle.cell_graph.specs.Links.{links_to}
use Rattle.cell_graph.specs.Users.{is_marked, leads_to}
use Rattle.cell_graph.proofs.graph.Graph.mark_users_of_section.Given as goal

-- those that are left are still to be marked, and to be counted
abbrev pub invariant-loop-row : goal.invariant-loop-row
invariant-loop-row g l = record {
  marks : (n : ℕ) → (is_marked l.marks.items n || list_any (λ r. r.user.cell.0 == n) l.users) ≡ (is_marked l.fn.marks.items n || leads_to l.fn.sec l.self.rows n);
  steps : l.steps + length l.users ≡ l.fn.steps + length (links_to l.fn.sec l.self.rows);
}

abbrev pub decreases-loop-row : goal.decreases-loop-row
decreases-loop-row g l = length l.users
