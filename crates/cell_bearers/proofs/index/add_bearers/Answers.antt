use Rattle.std.proofs.Common.{◌++◌, ◌∙◌, ap, drop, refl, sym, List, append-nil, ◌+◌}
use Rattle.std.specs.Prelude.{Option, filter_map}
use Rattle.std.specs.List.{cons_option}
use Rattle.std.proofs.lemmas.List.{drop_all}
use Rattle.cell_bearers.specs.Namings.{Named, bearer_of, borne, distinct_after}
use Rattle.cell_bearers.specs.declared.bearer.Bearer.{Bearer}
use Rattle.cell_bearers.proofs.Reading.{begins}
use Rattle.cell_bearers.proofs.index.add_bearers.Goals as goal

pub loop-index-preserved : goal.loop-index-preserved
loop-index-preserved c =
    let ns = c.args.namings.now in
    let i = c.loop-index.index in
    let x = c.index-namings-index.result in
    let old = c.loop-index.bearers.items in
    let last = c.loop-index.last in
    let rest = filter_map bearer_of (drop (i + 1) ns) in
    c.in_ok-last.ensures rest
    ∙ (ap (λ (o : Option Bearer). old ++ distinct_after last (cons_option o rest)) (ap borne c.owner.ensures)
    ∙ (ap (λ (ys : List Named). old ++ distinct_after last (filter_map bearer_of ys)) (sym (begins ns ns refl i x c.loop-index-test.true c.index-namings-index.is))
    ∙ c.loop-index.invariant))

pub returns : goal.returns
returns c =
    let ns = c.args.namings.now in
    let old = c.loop-index.bearers.items in
    sym (append-nil old)
    ∙ (sym (ap (λ (ys : List Named). old ++ distinct_after c.loop-index.last (filter_map bearer_of ys)) (drop_all c.loop-index.index ns c.loop-index-test.false)) ∙ c.loop-index.invariant)
