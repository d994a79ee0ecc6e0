use Rattle.cell_isolation_laws.proofs.TurnSame.{turn_state, turn_out, turn_task, turn_looks}
use Rattle.cell_isolation_laws.proofs.isolation.turns_do_the_same.Goals as goal

pub returns-clause-state : goal.returns-clause-state
returns-clause-state c starts v w t number hv hw l e k = turn_state starts number v w hv hw l t e k

pub returns-clause-out : goal.returns-clause-out
returns-clause-out c starts v w t number hv hw l e k = turn_out starts number v w hv hw l t e k

pub returns-clause-task : goal.returns-clause-task
returns-clause-task c starts v w t number hv hw l e k = turn_task starts number v w hv hw l t e k

pub returns-clause-on : goal.returns-clause-on
returns-clause-on c starts v w t number hv hw l e k q = turn_looks starts number v w hv hw l t e k q
