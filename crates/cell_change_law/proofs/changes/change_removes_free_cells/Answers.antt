use Rattle.std.proofs.Common.{sym}
use Rattle.cell_world.specs.Change.{made_by, old_of}
use Rattle.cell_lemmas.proofs.Holding.Purged.{purged_fields, purged_kept, purged_left, purged_targets, purged_unreached}
use Rattle.cell_change_law.proofs.Ending.{last_coherent, swept_is}
use Rattle.cell_change_law.proofs.changes.change_removes_free_cells.Goals as goal

pub returns-clause-left : goal.returns-clause-left
returns-clause-left k = λ sources v c plan last sound h good e t some. purged_left last (made_by c plan last).world (last_coherent sources sound v h c good plan e last t) (sym (swept_is last (old_of c) some).1)

pub returns-clause-kept : goal.returns-clause-kept
returns-clause-kept k = λ sources v c plan last sound h good e t some. purged_kept last (made_by c plan last).world (last_coherent sources sound v h c good plan e last t) (sym (swept_is last (old_of c) some).1)

pub returns-clause-unreached : goal.returns-clause-unreached
returns-clause-unreached k = λ sources v c plan last sound h good e t some. purged_unreached last (made_by c plan last).world (last_coherent sources sound v h c good plan e last t) (sym (swept_is last (old_of c) some).1)

pub returns-clause-targets : goal.returns-clause-targets
returns-clause-targets k = λ sources v c plan last sound h good e t some. purged_targets last (made_by c plan last).world (last_coherent sources sound v h c good plan e last t) (sym (swept_is last (old_of c) some).1)

pub returns-clause-fields : goal.returns-clause-fields
returns-clause-fields k = λ sources v c plan last sound h good e t some. purged_fields last (made_by c plan last).world (last_coherent sources sound v h c good plan e last t) (sym (swept_is last (old_of c) some).1)
