use Rattle.std.proofs.Common.{ap, refl, subst, sym, ◌∙◌, ◌+◌, ◌<◌, ◌^◌, ℕ}
use Rattle.cell_object.specs.declared.object.Section.{Section}
use Rattle.cell_relinked.specs.Contents.{first_bytes}
use Rattle.cell_relinked.specs.Fit.{start_among}
use Rattle.cell_relinked.proofs.Gotten.{in_there, mapped_more}
use Rattle.cell_relinked.proofs.contents.first_contents.Goals as goal

pub first_bytes-requires : goal.first_bytes-requires
first_bytes-requires c =
    let xs = c.args.sections.now in
    let s = c.index-sections-index.result in
    subst (λ (n : ℕ). n + s.size < 2 ^ 64) (sym c.start_in-start.ensures) (c.requires.low s (in_there xs xs refl c.loop-index.index s c.index-sections-index.is c.loop-index-test.true))

pub loop-index-preserved : goal.loop-index-preserved
loop-index-preserved c =
    let xs = c.args.sections.now in
    let s = c.index-sections-index.result in
    mapped_more xs xs refl c.loop-index.index s c.index-sections-index.is (λ (x : Section). first_bytes c.args.told.now (start_among c.args.places.now x.number) x) c.from_vec.result c.loop-index.contents.items _ c.loop-index-test.true
    c.in_ok-push.ensures.items (c.from_vec.ensures ∙ (c.in_ok-first_bytes.ensures ∙ ap (λ (n : ℕ). first_bytes c.args.told.now n s) c.start_in-start.ensures)) c.loop-index.invariant
