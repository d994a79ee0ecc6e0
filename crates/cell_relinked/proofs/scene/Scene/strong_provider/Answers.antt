use Rattle.std.specs.Prelude.{option_map}
use Rattle.cell_audit.specs.Described.{standing_of}
use Rattle.cell_bearers.specs.Asked.{first_in, provider_at}
use Rattle.cell_world.specs.Names.{strong_provider}
use Rattle.cell_relinked.specs.Scene.{world_of}
use Rattle.cell_relinked.proofs.Providing.{from_attached, from_own, strong_is}
use Rattle.cell_relinked.proofs.scene.Scene.strong_provider.Goals as goal

pub returns-in-Some-clause-provider : goal.returns-in-Some-clause-provider
returns-in-Some-clause-provider c = λ ns name spaces are.
    let s = c.args.self.now in
    let sights = c.args.sights.now in
    from_own s first_in sights c.requires ns name spaces c.own_first.result (c.own_first.ensures.first name are) (strong_provider (world_of s) (standing_of sights.group) ns name) (strong_is s sights.group ns name)
    c.in-Some.first c.in-Some.is

pub returns-in-None-clause-provider : goal.returns-in-None-clause-provider
returns-in-None-clause-provider c = λ ns name spaces are.
    let s = c.args.self.now in
    let sights = c.args.sights.now in
    from_attached s first_in sights c.requires ns name spaces c.own_first.result (c.own_first.ensures.first name are) (strong_provider (world_of s) (standing_of sights.group) ns name) (strong_is s sights.group ns name)
    c.in-None.is (option_map (provider_at s.cells.now) c.first_in.result) (c.first_in.ensures.first name are)
