use Rattle.cell_space.specs.Index.{held}
use Rattle.cell_space.proofs.Keeping.{kept_without}
use Rattle.cell_space.proofs.spaces.Spaces.drop_cell.Goals as goal

pub invariant_of-self : goal.invariant_of-self
invariant_of-self c = rw c.remove_cell.ensures.items (kept_without c.self.inside.namespaces.items c.self.inside.cells.items (held c.self.inside.index) c.self.invariant c.args.cell.0)
