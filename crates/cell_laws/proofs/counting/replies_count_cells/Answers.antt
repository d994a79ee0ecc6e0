use Rattle.cell_laws.proofs.Counts.{outcome_counts}
use Rattle.cell_laws.proofs.counting.replies_count_cells.Goals as goal

pub returns-clause-counted : goal.returns-clause-counted
returns-clause-counted c sources w command reply new h e = (outcome_counts sources w h (record { reply = reply; world = new }) command e).counted

pub returns-clause-room : goal.returns-clause-room
returns-clause-room c sources w command reply new h e = (outcome_counts sources w h (record { reply = reply; world = new }) command e).room
