use Rattle.cell_part_tests.proofs.graph.a_link_goes.Given as goal

abbrev pub ghosts-unbind_with : goal.ghosts-unbind_with
ghosts-unbind_with g a = record { name = a.blank.name; parts = a.blank.parts }
