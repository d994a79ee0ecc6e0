use Rattle.cell_space.proofs.spaces.Spaces.clash_stem.Goals as goal

pub clash_stem-requires-clause-whole : goal.clash_stem-requires-clause-whole
clash_stem-requires-clause-whole c = rw c.deref-2.ensures.value c.self.invariant.whole
