use Rattle.cell_gen.proofs.files.add_crate.Goals as goal

pub returns-clause-files : goal.returns-clause-files
returns-clause-files c =
    rw (c.draw_three-drawn.ensures.first, c.draw_three-drawn.ensures.second, c.draw_three-drawn.ensures.third) at c.add_files.ensures
