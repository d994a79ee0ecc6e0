use Rattle.cell_space.proofs.Keeping.{kept_entries}
use Rattle.cell_space.proofs.spaces.Spaces.reserve.Goals as goal

pub invariant_of-self : goal.invariant_of-self
invariant_of-self c = kept_entries c.self.inside.namespaces.items c.self.inside.cells.items c.self.inside.index c.reserve.new.self c.reserve.ensures.same c.self.invariant

pub invariant_of-self-2 : goal.invariant_of-self-2
invariant_of-self-2 c =
    rw c.reserve-2.ensures.items (kept_entries c.self.inside.namespaces.items c.self.inside.cells.items c.self.inside.index c.reserve.new.self c.reserve.ensures.same c.self.invariant)
