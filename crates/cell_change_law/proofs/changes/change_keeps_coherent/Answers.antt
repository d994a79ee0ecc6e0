use Rattle.cell_change_law.proofs.Steps.{plan_coherent}
use Rattle.cell_change_law.proofs.Ending.{second_coherent, last_coherent, made_coherent}
use Rattle.cell_change_law.proofs.changes.change_keeps_coherent.Goals as goal

pub returns-clause-linked : goal.returns-clause-linked
returns-clause-linked k = λ sources v c plan sound h good e. plan_coherent sources sound v h c good plan e

pub returns-clause-run : goal.returns-clause-run
returns-clause-run k = λ sources v c plan second sound h good e t. second_coherent sources sound v h c good plan e second t

pub returns-clause-begun : goal.returns-clause-begun
returns-clause-begun k = λ sources v c plan last sound h good e t. last_coherent sources sound v h c good plan e last t

pub returns-clause-made : goal.returns-clause-made
returns-clause-made k = λ sources v c made sound h good e. made_coherent sources sound v h c good made e
