use Rattle.std.specs.Prelude.{option_map}
use Rattle.cell_audit.specs.Described.{standing_of}
use Rattle.cell_bearers.specs.Asked.{nearest_in, provider_at}
use Rattle.cell_world.specs.Names.{weak_provider}
use Rattle.cell_relinked.specs.Scene.{world_of}
use Rattle.cell_relinked.proofs.Providing.{from_attached, from_own, weak_is}
use Rattle.cell_relinked.proofs.scene.Scene.weak_provider.Goals as goal

pub returns-in-Some-clause-provider : goal.returns-in-Some-clause-provider
returns-in-Some-clause-provider c = λ ns spaces.
    let name = c.args.name.now in
    let s = c.args.self.now in
    let sights = c.args.sights.now in
    from_own s nearest_in sights c.requires ns name spaces c.own_nearest.result c.own_nearest.ensures.nearest (weak_provider (world_of s) (standing_of sights.group) ns name) (weak_is s sights.group ns name)
    c.in-Some.nearest c.in-Some.is

pub returns-in-None-clause-provider : goal.returns-in-None-clause-provider
returns-in-None-clause-provider c = λ ns spaces.
    let name = c.args.name.now in
    let s = c.args.self.now in
    let sights = c.args.sights.now in
    from_attached s nearest_in sights c.requires ns name spaces c.own_nearest.result c.own_nearest.ensures.nearest (weak_provider (world_of s) (standing_of sights.group) ns name) (weak_is s sights.group ns name)
    c.in-None.is (option_map (provider_at s.cells.now) c.nearest_in.result) c.nearest_in.ensures.nearest
