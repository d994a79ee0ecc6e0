use Rattle.cell_commit.proofs.bind.move_rows.Given as goal

abbrev pub ghosts-move_with : goal.ghosts-move_with
ghosts-move_with g = record { name = g.blank.name; parts = g.blank.parts }
