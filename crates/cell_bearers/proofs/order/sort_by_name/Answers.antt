use Rattle.std.proofs.Common.{rules, ◌∙◌, ap, arith, filter, length}
use Rattle.std.proofs.lemmas.Cmp.{nat_list_cmp_total}
use Rattle.std.proofs.lemmas.List.Sorted.{answers_always, ranks_by}
use Rattle.std.proofs.lemmas.Result.{on_ok_weaker}
use Rattle.cell_bearers.specs.Key.{keyed}
use Rattle.cell_bearers.specs.Namings.{Named, is_called, is_lower}
use Rattle.cell_bearers.proofs.Ordered.{same_called, written_whole}
use Rattle.cell_bearers.proofs.order.sort_by_name.Goals as goal

pub returns-clause-sorted : goal.returns-clause-sorted
returns-clause-sorted c =
    on_ok_weaker c.sort_by.result (λ sorted. sorted is_lower (ranks_by nat_list_cmp_total (λ (n : Named). keyed n.name)) (answers_always _ _ _ (λ f a r g h. search rules))) c.sort_by.ensures.sorted

pub returns-clause-stable : goal.returns-clause-stable
returns-clause-stable c = λ name.
    let size = c.args.namings.now.ok.0 in
    same_called _ c.sort_by.new.self.items
    (c.sort_by.ensures.stable is_lower (ranks_by nat_list_cmp_total (λ (n : Named). keyed n.name)) (answers_always _ _ _ (λ f a r g h. search rules))) name
    ∙ (ap (filter (is_called name)) (written_whole c.args.namings.now.len c.args.namings.now.items c.sort_most.new.namings (c.sort_most.ensures.len ∙ ap length c.deref_mut.ensures.value) (omega (arith, size)))
    ∙ (c.sort_most.ensures.stable name ∙ ap (filter (is_called name)) c.deref_mut.ensures.value))
