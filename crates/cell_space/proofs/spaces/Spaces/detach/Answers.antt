use Rattle.cell_space.specs.Index.{held}
use Rattle.cell_space.proofs.Keeping.{kept_aside}
use Rattle.cell_space.proofs.spaces.Spaces.detach.Goals as goal

pub invariant_of-self : goal.invariant_of-self
invariant_of-self c = rw c.set_state.ensures.items (kept_aside c.self.inside.namespaces.items c.self.inside.cells.items (held c.self.inside.index) c.self.invariant c.args.group c.args.cell.0)
