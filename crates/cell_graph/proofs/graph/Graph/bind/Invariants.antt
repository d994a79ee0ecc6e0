use Rattle.cell_graph.proofs.graph.Graph.bind.Given as goal

abbrev pub ghosts-bind_counted : goal.ghosts-bind_counted
ghosts-bind_counted a = record { name = a.blank.name; parts = a.blank.parts }
