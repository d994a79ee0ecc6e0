use Rattle.std.proofs.Common.{◌+◌, ◌||◌, ap, sym, ◌∙◌}
use Rattle.std.specs.Prelude.{◌==◌}
use Rattle.std.proofs.lemmas.List.Sorted.{length_permutation, list_any-IsPermutation}
use Rattle.cell_world.specs.declared.state.LinkRow.{LinkRow}
use Rattle.cell_graph.specs.Links.{is_same, links_to}
use Rattle.cell_graph.specs.Users.{is_marked}
use Rattle.cell_graph.proofs.Marking.{any_filter}
use Rattle.cell_graph.proofs.graph.Graph.mark_users_of_section.Goals as goal

pub loop-row-init : goal.loop-row-init
loop-row-init g c =
    let rows = c.args.self.now.rows in
    let to = links_to c.args.sec rows in
    record {
      marks = λ n.
          ap (λ b. is_marked c.args.marks.now.items n || b)
          (sym (list_any-IsPermutation (λ (r : LinkRow). r.user.cell.0 == n) to c.users_near-found.result.0 c.users_near-found.ensures.users)
          ∙ any_filter (λ (r : LinkRow). is_same r.target c.args.sec) (λ r. r.user.cell.0 == n) rows);
      steps = ap (λ k. c.args.steps.now + k) (length_permutation to c.users_near-found.result.0 c.users_near-found.ensures.users);
    }
