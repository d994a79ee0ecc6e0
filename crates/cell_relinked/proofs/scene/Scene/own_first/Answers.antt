use Rattle.cell_bearers.specs.Asked.{first_in}
use Rattle.cell_relinked.proofs.Providing.{own_is, own_none, own_of}
use Rattle.cell_relinked.proofs.scene.Scene.own_first.Goals as goal

pub first_in-requires : goal.first_in-requires
first_in-requires c =
    let sights = c.args.sights.now in
    own_of c.args.self.now sights.group sights.spaces.now sights.own c.in-Some.own c.requires.own c.in-Some.is

pub returns-in-Some-clause-first : goal.returns-in-Some-clause-first
returns-in-Some-clause-first c = λ name are.
    let sights = c.args.sights.now in
    own_is c.args.self.now first_in sights.group sights.spaces.now sights.own c.in-Some.own c.requires.own c.in-Some.is name _ (c.first_in.ensures.first name are)

pub returns-in-None-clause-first : goal.returns-in-None-clause-first
returns-in-None-clause-first c = λ name are.
    let sights = c.args.sights.now in
    own_none c.args.self.now first_in sights.group sights.spaces.now sights.own c.requires.own c.in-None.is name
