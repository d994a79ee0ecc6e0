use Rattle.cell_graph.proofs.graph.Graph.deps_of_cell_near.Given as goal

abbrev pub ghosts-cell_rows_counted : goal.ghosts-cell_rows_counted
ghosts-cell_rows_counted a = record { name = a.blank.name; parts = a.blank.parts }
