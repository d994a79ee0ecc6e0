use Rattle.cell_commit.proofs.bind.insert_rows.Given as goal

abbrev pub ghosts-insert_with : goal.ghosts-insert_with
ghosts-insert_with g = record { name = g.blank.name; parts = g.blank.parts }
