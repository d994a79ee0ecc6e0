use Rattle.cell_isolation_laws.proofs.TurnSame.{turns_same}
use Rattle.cell_isolation_laws.proofs.isolation.many_turns_do_the_same.Goals as goal

pub returns : goal.returns
returns c starts n number v w hv hw l k = turns_same starts number n v w hv hw l k
