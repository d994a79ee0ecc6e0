use Rattle.cell_graph.proofs.graph.Graph.remove_cells.Given as goal

abbrev pub ghosts-outside_user_of_any : goal.ghosts-outside_user_of_any
ghosts-outside_user_of_any a = record { name = a.blank.name; parts = a.blank.parts }

abbrev pub ghosts-remove_links : goal.ghosts-remove_links
ghosts-remove_links a = record { name = a.blank.name; parts = a.blank.parts }

abbrev pub ghosts-remove_sections : goal.ghosts-remove_sections
ghosts-remove_sections a = record { name = a.blank.name; parts = a.blank.parts }
