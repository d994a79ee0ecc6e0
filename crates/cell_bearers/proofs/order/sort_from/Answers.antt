use Rattle.std.proofs.Common.{rules, ◌∙◌, ap, sym, arith, ◌-◌, drop, length, length-drop, take, take-append-drop}
use Rattle.std.specs.Prelude.{filter}
use Rattle.std.proofs.lemmas.Cmp.{nat_list_cmp_total}
use Rattle.std.proofs.lemmas.List.{take_all}
use Rattle.std.proofs.lemmas.List.Sorted.{answers_always, ranks_by}
use Rattle.std.proofs.lemmas.Slice.{drop-put_mid, take-put_mid}
use Rattle.cell_bearers.specs.Key.{keyed}
use Rattle.cell_bearers.specs.Namings.{Named, is_called, is_lower}
use Rattle.cell_bearers.proofs.Ordered.{last_called, put_last, same_called}
use Rattle.cell_bearers.proofs.order.sort_from.Goals as goal

pub returns-clause-stable : goal.returns-clause-stable
returns-clause-stable c = λ name.
    let ns = c.args.namings.now in
    let k = c.args.start in
    let new = c.sort_by.new.self in
    let n = length ns in
    let last = take_all (n - k) (drop k ns) (omega (arith, length-drop k ns)) in
    let size = c.sort_by.ensures.len ∙ (ap length last ∙ length-drop k ns) in
    ap (filter (is_called name)) (put_last k ns new _ (take-put_mid k (n - k) ns new n (omega (arith, size, c.requires)) c.requires) (drop-put_mid k (n - k) ns new n (omega (arith, c.requires)) c.requires size))
    ∙ last_called name (take k ns) (drop k ns) new ns (sym (take-append-drop k ns))
    (same_called _ new (c.sort_by.ensures.stable is_lower (ranks_by nat_list_cmp_total (λ (n : Named). keyed n.name)) (answers_always _ _ _ (λ f a r g h. search rules))) name
    ∙ ap (filter (is_called name)) last)
