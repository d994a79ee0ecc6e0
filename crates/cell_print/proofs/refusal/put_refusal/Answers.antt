use Rattle.cell_print.proofs.refusal.put_refusal.Goals as goal

pub returns-in-NotRunnable-clause-ok : goal.returns-in-NotRunnable-clause-ok
returns-in-NotRunnable-clause-ok c = rw c.in-NotRunnable.is c.put_answer-in-NotRunnable.ensures.ok

pub returns-in-NoObject-clause-ok : goal.returns-in-NoObject-clause-ok
returns-in-NoObject-clause-ok c = rw c.in-NoObject.is c.put_answer-in-NoObject.ensures.ok

pub returns-in-Ambiguous-clause-ok : goal.returns-in-Ambiguous-clause-ok
returns-in-Ambiguous-clause-ok c = rw c.in-Ambiguous.is c.put_answer-in-Ambiguous.ensures.ok

pub returns-in-Duplicate-clause-ok : goal.returns-in-Duplicate-clause-ok
returns-in-Duplicate-clause-ok c = rw c.in-Duplicate.is c.put_answer-in-Duplicate.ensures.ok

pub returns-in-Missing-clause-ok : goal.returns-in-Missing-clause-ok
returns-in-Missing-clause-ok c = rw c.in-Missing.is c.put_answer-in-Missing.ensures.ok

pub returns-in-NoEntry-clause-ok : goal.returns-in-NoEntry-clause-ok
returns-in-NoEntry-clause-ok c = rw c.in-NoEntry.is c.put_answer-in-NoEntry.ensures.ok

pub returns-in-Exhausted-clause-ok : goal.returns-in-Exhausted-clause-ok
returns-in-Exhausted-clause-ok c = rw c.in-Exhausted.is c.put_answer-in-Exhausted.ensures.ok

pub returns-in-Overflow-clause-ok : goal.returns-in-Overflow-clause-ok
returns-in-Overflow-clause-ok c = rw c.in-Overflow.is c.put_answer-in-Overflow.ensures.ok

pub returns-in-Transfer-clause-ok : goal.returns-in-Transfer-clause-ok
returns-in-Transfer-clause-ok c = rw c.in-Transfer.is c.put_answer-in-Transfer.ensures.ok

pub returns-in-NoCrate-clause-ok : goal.returns-in-NoCrate-clause-ok
returns-in-NoCrate-clause-ok c = rw c.in-NoCrate.is c.put_answer-in-NoCrate.ensures.ok

pub returns-in-NoParent-clause-ok : goal.returns-in-NoParent-clause-ok
returns-in-NoParent-clause-ok c = rw c.in-NoParent.is c.put_answer-in-NoParent.ensures.ok
