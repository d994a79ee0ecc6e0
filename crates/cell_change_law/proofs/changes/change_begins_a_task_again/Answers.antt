use Rattle.cell_change_law.proofs.Again.{begins_again}
use Rattle.cell_change_law.proofs.Ending.{last_parts, no_restart}
use Rattle.cell_change_law.proofs.EntryStays.{surely_begins}
use Rattle.cell_change_law.proofs.Steps.{follows, planned}
use Rattle.cell_change_law.proofs.changes.change_begins_a_task_again.Goals as goal

pub returns-clause-begins : goal.returns-clause-begins
returns-clause-begins k = λ sources v c plan t e r. begins_again sources v c plan (planned sources v c plan e) t r

pub returns-clause-surely : goal.returns-clause-surely
returns-clause-surely k = λ sources v c plan t sound h good e r. surely_begins sources sound v h c good plan e t r

pub returns-clause-parts : goal.returns-clause-parts
returns-clause-parts k = last_parts

pub returns-clause-follows : goal.returns-clause-follows
returns-clause-follows k = follows

pub returns-clause-none : goal.returns-clause-none
returns-clause-none k = no_restart
