use Rattle.std.proofs.Common.{refl}
use Rattle.cell_laws.proofs.Worked.{returns_7, runs_out, succeeds, turn_by_turn, asks_old, asks_new, asks_other}
use Rattle.cell_laws.proofs.transfer.transfers_by_hand.Goals as goal

pub returns-clause-returns : goal.returns-clause-returns
returns-clause-returns c = returns_7

pub returns-clause-runs_out : goal.returns-clause-runs_out
returns-clause-runs_out c = runs_out

pub returns-clause-succeeds : goal.returns-clause-succeeds
returns-clause-succeeds c = succeeds

pub returns-clause-turns : goal.returns-clause-turns
returns-clause-turns c = turn_by_turn

pub returns-clause-goes_back : goal.returns-clause-goes_back
returns-clause-goes_back c = refl

pub returns-clause-old : goal.returns-clause-old
returns-clause-old c = asks_old

pub returns-clause-new : goal.returns-clause-new
returns-clause-new c = asks_new

pub returns-clause-other : goal.returns-clause-other
returns-clause-other c = asks_other
