use Rattle.std.proofs.Common.{rules, sym, ◌∙◌, ◌+◌, slice_index_or}
use Rattle.std.proofs.lemmas.List.Sorted.{answers_always}
use Rattle.cell_world.specs.declared.state.LinkRow.{LinkRow}
use Rattle.cell_view.proofs.LinkOrder.{before_is}
use Rattle.cell_view.proofs.links.in_order.Goals as goal

pub returns-clause-order : goal.returns-clause-order
returns-clause-order c = λ k d low high.
    let sorted = c.sort_unstable_by_key.new.self.items in
    let a = slice_index_or sorted (k + 1) d in
    let b = slice_index_or sorted k d in
    sym (before_is a.user.cell.0 b.user.cell.0 a.entry b.entry)
    ∙ c.sort_unstable_by_key.ensures.sorted (λ (row : LinkRow). (row.user.cell.0, row.entry)) (answers_always _ _ _ (λ f x r g h. search rules)) k d low high
