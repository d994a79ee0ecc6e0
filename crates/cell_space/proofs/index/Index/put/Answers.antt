use Rattle.cell_space.proofs.index.Index.put.Goals as goal

pub returns-clause-put : goal.returns-clause-put
returns-clause-put c = λ m h. c.in_ok-insert.ensures.updates.0 (m, h)
