use Rattle.cell_bearers.specs.Asked.{nearest_in}
use Rattle.cell_relinked.proofs.Providing.{own_is, own_none, own_of}
use Rattle.cell_relinked.proofs.scene.Scene.own_nearest.Goals as goal

pub nearest_in-requires : goal.nearest_in-requires
nearest_in-requires c =
    let sights = c.args.sights.now in
    own_of c.args.self.now sights.group sights.spaces.now sights.own c.in-Some.own c.requires.own c.in-Some.is

pub returns-in-Some-clause-nearest : goal.returns-in-Some-clause-nearest
returns-in-Some-clause-nearest c =
    let sights = c.args.sights.now in
    own_is c.args.self.now nearest_in sights.group sights.spaces.now sights.own c.in-Some.own c.requires.own c.in-Some.is c.args.name.now _ c.nearest_in.ensures.nearest

pub returns-in-None-clause-nearest : goal.returns-in-None-clause-nearest
returns-in-None-clause-nearest c =
    let sights = c.args.sights.now in
    own_none c.args.self.now nearest_in sights.group sights.spaces.now sights.own c.requires.own c.in-None.is c.args.name.now
