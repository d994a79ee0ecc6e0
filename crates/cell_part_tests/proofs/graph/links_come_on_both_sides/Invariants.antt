use Rattle.cell_part_tests.proofs.graph.links_come_on_both_sides.Given as goal

abbrev pub ghosts-bind_with : goal.ghosts-bind_with
ghosts-bind_with g a = record { name = a.blank.name; parts = a.blank.parts }
