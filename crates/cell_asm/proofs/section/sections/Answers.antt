use Rattle.std.specs.Prelude.{◌<◌, ◌++◌, ◌∷◌}
use Rattle.cell_asm.proofs.Facts.{[], map, take, length, ap, sym, ◌∙◌, arith, map_more, section_kept}
use Rattle.cell_asm.proofs.section.sections.Goals as goal

pub loop-part-preserved : goal.loop-part-preserved
loop-part-preserved c =
    let i = c.loop-part.part-index in
    let parts = c.args.parts.now in
    let kept = section_kept parts c.args.bodies.now in
    let within : i < length parts = omega arith in
    c.in_ok-push.ensures.items
    ∙ ap (λ ss. ss ++ c.in_ok-section.section ∷ []) c.loop-part.invariant
    ∙ ap (λ s. map kept (take i parts) ++ s ∷ []) c.in_ok-section.ensures
    ∙ sym (map_more kept parts i _ within)
