use Rattle.cell_space.proofs.spaces.Spaces.cell_at.Goals as goal

pub cell_at-requires-clause-whole : goal.cell_at-requires-clause-whole
cell_at-requires-clause-whole c = rw c.deref.ensures.value c.self.invariant.whole
