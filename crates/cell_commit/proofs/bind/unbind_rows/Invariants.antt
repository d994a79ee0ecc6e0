use Rattle.cell_commit.proofs.bind.unbind_rows.Given as goal

abbrev pub ghosts-unbind_with : goal.ghosts-unbind_with
ghosts-unbind_with g = record { name = g.blank.name; parts = g.blank.parts }
