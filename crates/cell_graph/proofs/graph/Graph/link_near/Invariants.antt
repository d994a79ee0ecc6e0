use Rattle.cell_graph.proofs.graph.Graph.link_near.Given as goal

abbrev pub ghosts-link_named : goal.ghosts-link_named
ghosts-link_named a = record { name = a.blank.name; parts = a.blank.parts }
