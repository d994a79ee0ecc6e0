use Rattle.cell_graph.proofs.graph.Graph.mark_users_of.Given as goal

abbrev pub ghosts-mark_counted : goal.ghosts-mark_counted
ghosts-mark_counted a = record { name = a.blank.name; parts = a.blank.parts }
