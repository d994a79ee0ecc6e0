use Rattle.cell_laws.proofs.Progress.{next_turn, no_turn, runs_out, turn_by_turn}
use Rattle.cell_laws.proofs.transfer.transfer_turn_by_turn.Goals as goal

pub returns-clause-is : goal.returns-clause-is
returns-clause-is c n addresses m stack routines = turn_by_turn addresses m stack n routines

pub returns-clause-out : goal.returns-clause-out
returns-clause-out c n addresses m stack routines = runs_out addresses m stack n routines

pub returns-clause-turn : goal.returns-clause-turn
returns-clause-turn c n addresses m stack routines = next_turn addresses m stack n routines

pub returns-clause-ended : goal.returns-clause-ended
returns-clause-ended c n addresses m stack routines = no_turn addresses m stack n routines
