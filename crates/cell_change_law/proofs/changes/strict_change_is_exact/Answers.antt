use Rattle.cell_change_law.proofs.Strict.{strict_made, lenient_made, made_is}
use Rattle.cell_change_law.proofs.changes.strict_change_is_exact.Goals as goal

pub returns-clause-strict : goal.returns-clause-strict
returns-clause-strict k = λ sources v c plan last sound h good e t strict. strict_made sources sound v h c good plan last e t strict

pub returns-clause-other : goal.returns-clause-other
returns-clause-other k = λ sources v c plan last sound h good e t lenient. lenient_made sources sound v h c good plan last e t lenient

pub returns-clause-is : goal.returns-clause-is
returns-clause-is k = λ sources v c plan last made sound h good e t f. made_is sources sound v h c good plan last e t made f
