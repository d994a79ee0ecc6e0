use Rattle.std.proofs.Common.{arith}
use Rattle.cell_commit.proofs.Mapping.{mapped_maps, mapped_regions, mapped_sealed, mapped_spare}
use Rattle.cell_commit.proofs.laws.mapping_adds.Goals as goal

pub returns-clause-regions : goal.returns-clause-regions
returns-clause-regions c = mapped_regions c.args.memory.now c.args.regions.now

pub returns-clause-maps : goal.returns-clause-maps
returns-clause-maps c = mapped_maps c.args.memory.now c.args.regions.now (omega (arith, c.maps-maps.ensures, c.maps-maps.type_inv))

pub returns-clause-spare : goal.returns-clause-spare
returns-clause-spare c = mapped_spare c.args.memory.now c.args.regions.now

pub returns-clause-seals : goal.returns-clause-seals
returns-clause-seals c = mapped_sealed c.args.memory.now c.args.regions.now
