use Rattle.cell_elf.proofs.Loads.{loadable}
use Rattle.cell_elf.proofs.sections.pass_section.Goals as goal

pub keep_loaded-requires-clause-fits : goal.keep_loaded-requires-clause-fits
keep_loaded-requires-clause-fits g c = λ a.
    rw c.section-header.ensures (loadable _ _ c.in_ok-check_section.ensures.rules (rw (← c.section-header.ensures) a))
