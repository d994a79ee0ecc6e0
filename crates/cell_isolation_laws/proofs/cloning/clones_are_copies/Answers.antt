use Rattle.std.proofs.Common.{length}
use Rattle.cell_num.specs.Lists.{In}
use Rattle.cell_num.proofs.Elements.{In-All}
use Rattle.cell_world.specs.World.{Cell}
use Rattle.cell_world.specs.Commands.Asked.{cells_in}
use Rattle.cell_isolation_laws.specs.Copies.{IsCopy}
use Rattle.cell_isolation_laws.proofs.Copies.{as_many, copied_of}
use Rattle.cell_isolation_laws.proofs.cloning.clones_are_copies.Goals as goal

pub returns-clause-copies : goal.returns-clause-copies
returns-clause-copies c sources w name sibling d sound h k =
    In-All (λ (z : Cell). (o : Cell) × In o (cells_in w k.ns) × IsCopy (length w.namespaces) o z) k.made.fresh (copied_of sources w h name sibling d k sound)

pub returns-clause-many : goal.returns-clause-many
returns-clause-many c sources w name sibling d sound h k = as_many sources w h name sibling d k sound
