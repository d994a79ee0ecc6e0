use Rattle.std.proofs.Common.{refl}
use Rattle.cell_link.proofs.FirstLemmas.{first_section}
use Rattle.cell_link.proofs.contents.sections_of.Goals as goal

pub loop-section-preserved : goal.loop-section-preserved
loop-section-preserved c =
    first_section (λ s. s.now) c.args.sections.now c.loop-section.section-index _ c.section-item.result _ _ _ c.loop-section-test.true c.section-item.is refl c.loop-section.invariant c.in_ok-insert_first.ensures.first
