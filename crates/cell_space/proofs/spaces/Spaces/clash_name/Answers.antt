use Rattle.cell_space.proofs.spaces.Spaces.clash_name.Goals as goal

pub clash_name-requires-clause-whole : goal.clash_name-requires-clause-whole
clash_name-requires-clause-whole c = rw c.deref-2.ensures.value c.self.invariant.whole
