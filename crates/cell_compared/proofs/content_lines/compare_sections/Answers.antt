use Rattle.std.proofs.Common.{ap, length, refl, subst, sym, List, ℕ, ◌+◌, ◌<◌, ◌^◌, ◌∙◌}
use Rattle.std.specs.Prelude.{flat_map}
use Rattle.std.proofs.lemmas.List.{drop_all}
use Rattle.std.proofs.lemmas.Result.{err_from_is_err_and}
use Rattle.cell_num.proofs.Elements.{get-In}
use Rattle.cell_object.specs.declared.object.Section.{Section}
use Rattle.cell_relinked.specs.Fit.{start_among}
use Rattle.cell_relinked.proofs.Gotten.{got}
use Rattle.cell_relinked.proofs.OneField.{place_below, size_there}
use Rattle.cell_compared.specs.Left.{left}
use Rattle.cell_compared.specs.Shown.{lines_at}
use Rattle.cell_compared.specs.Walk.{walk}
use Rattle.cell_compared.proofs.Lining.{content_here}
use Rattle.cell_compared.proofs.Pieces.{flat_on}
use Rattle.cell_compared.proofs.Walking.{all_gone, fails_here, fails_same, goes_on}
use Rattle.cell_compared.proofs.content_lines.compare_sections.Goals as goal

pub compare_section-requires-clause-low : goal.compare_section-requires-clause-low
compare_section-requires-clause-low c =
    let cell = c.args.cell.now in
    let xs = c.args.sections.now in
    let i = c.loop-index.index in
    let x = c.index-sections-index.result in
    let at = got xs i x c.loop-index-test.true c.index-sections-index.is in
    let bytes = c.index-contents-index.result in
    let there = got c.args.contents.now i bytes (place_below c.args.contents.now xs c.requires.sizes i x at) c.index-contents-index.is in
    let size = ap (λ (bs : List ℕ). length bs) c.as_slice.ensures ∙ size_there c.args.contents.now xs c.requires.sizes i x at bytes there in
    subst (λ (n : ℕ). start_among cell.places x.number + n < 2 ^ 64) (sym size) (c.requires.low x (get-In xs i x at))

pub returns-in_err-compare_section : goal.returns-in_err-compare_section
returns-in_err-compare_section c =
    let p = err_from_is_err_and c.from_residual.result c.from_residual.ensures.1 in
    rw (p.1, p.2) (λ content e.
    let cell = c.args.cell.now in
    let xs = c.args.sections.now in
    let i = c.loop-index.index in
    let x = c.index-sections-index.result in
    fails_here c.in_err-compare_section.field-0.0 (left c.loop-index.cursor) _ _ _ _ (flat_on xs xs refl i x c.loop-index-test.true c.index-sections-index.is (λ (s : Section). lines_at cell s (content s))) (c.loop-index.invariant content e)
    (fails_same c.in_err-compare_section.field-0.0 _ _ (ap (λ (bs : List ℕ). walk (left c.loop-index.cursor) (lines_at cell x bs)) (c.as_slice.ensures ∙ content_here content c.args.contents.now xs e i x c.index-contents-index.result c.loop-index-test.true c.index-sections-index.is c.index-contents-index.is)) c.in_err-compare_section.ensures))

pub loop-index-preserved : goal.loop-index-preserved
loop-index-preserved c = λ content e.
    let cell = c.args.cell.now in
    let xs = c.args.sections.now in
    let i = c.loop-index.index in
    let x = c.index-sections-index.result in
    goes_on (left c.loop-index.cursor) (left c.compare_section.new.cursor) _ _ _ _ (flat_on xs xs refl i x c.loop-index-test.true c.index-sections-index.is (λ (s : Section). lines_at cell s (content s))) (c.loop-index.invariant content e)
    (sym (ap (λ (bs : List ℕ). walk (left c.loop-index.cursor) (lines_at cell x bs)) (c.as_slice.ensures ∙ content_here content c.args.contents.now xs e i x c.index-contents-index.result c.loop-index-test.true c.index-sections-index.is c.index-contents-index.is)) ∙ c.in_ok-compare_section.ensures)

pub returns : goal.returns
returns c = λ content e.
    let cell = c.args.cell.now in
    let xs = c.args.sections.now in
    all_gone (left c.loop-index.cursor) _ _ (ap (λ (ys : List Section). flat_map (λ (s : Section). lines_at cell s (content s)) ys) (drop_all c.loop-index.index xs c.loop-index-test.false)) (c.loop-index.invariant content e)
