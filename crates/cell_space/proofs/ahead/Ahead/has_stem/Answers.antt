use Rattle.std.proofs.Common.{◌∙◌}
use Rattle.cell_world.specs.Names.{chain}
use Rattle.cell_space.proofs.Layered.{climbing}
use Rattle.cell_space.proofs.ahead.Ahead.has_stem.Goals as goal

pub returns : goal.returns
returns c = c.climb_for.ensures ∙ climbing c.args.stem.now (chain c.args.self.now.namespaces c.args.ns) c.args.self.now.cells
