use Rattle.cell_elf.proofs.Keeping.{adds_none, loaded_section-none}
use Rattle.cell_elf.proofs.sections.keep_loaded.Goals as goal

pub returns-else-is_alloc-clause-kept : goal.returns-else-is_alloc-clause-kept
returns-else-is_alloc-clause-kept g c =
    adds_none (g.K.Keep.holds c.args.loaded.now) _ (loaded_section-none c.args.file.now.bytes.now c.args.number (rw (← c.requires.is, ← c.is_alloc.ensures) c.if-is_alloc.false))
