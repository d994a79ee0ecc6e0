use Rattle.cell_graph.proofs.graph.Graph.upgrade.Given as goal

abbrev pub ghosts-stands_at : goal.ghosts-stands_at
ghosts-stands_at a = record { name = a.blank.name; parts = a.blank.parts }
