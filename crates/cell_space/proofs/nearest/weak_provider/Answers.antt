use Rattle.cell_world.specs.Names.{chain}
use Rattle.cell_world.specs.declared.state.Standing.TheVariants.{Attached}
use Rattle.cell_space.specs.Named.{provider_as, weak_provider}
use Rattle.cell_space.specs.Nearest.{nearest_aside, nearest_in}
use Rattle.cell_space.proofs.Layered.{answered_first, answered_next}
use Rattle.cell_space.proofs.Nearests.{weak_provider_is}
use Rattle.cell_space.proofs.nearest.weak_provider.Goals as goal

pub returns-in-Some : goal.returns-in-Some
returns-in-Some c =
    let state = c.args.state in
    let name = c.args.name.now in
    let way = chain c.args.namespaces.now c.args.ns in
    let cells = c.args.cells.now in
    answered_first provider_as c.in-Some.provider (nearest_aside way state name cells) (nearest_in way Attached name cells) (weak_provider way state name cells) (weak_provider_is way state name cells) c.in-Some.ensures

pub returns-in-None : goal.returns-in-None
returns-in-None c =
    let state = c.args.state in
    let name = c.args.name.now in
    let way = chain c.args.namespaces.now c.args.ns in
    let cells = c.args.cells.now in
    answered_next provider_as c.nearest_attached.result (nearest_aside way state name cells) (nearest_in way Attached name cells) (weak_provider way state name cells) (weak_provider_is way state name cells) c.in-None.ensures c.nearest_attached.ensures
