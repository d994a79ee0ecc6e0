use Rattle.std.specs.Prelude.{option_map}
use Rattle.cell_bearers.specs.Asked.{provider_at}
use Rattle.cell_relinked.proofs.Providing.{by_strong, by_weak}
use Rattle.cell_relinked.proofs.scene.Scene.provider.Goals as goal

pub returns-in-Some-clause-provider : goal.returns-in-Some-clause-provider
returns-in-Some-clause-provider c = λ ns spaces.
    let name = c.args.name.now in
    by_strong c.args.self.now c.args.sights.now.group ns name c.strong_provider.result (c.strong_provider.ensures.provider ns name spaces c.requires.bearers) c.in-Some.first c.in-Some.is

pub returns-in-None-clause-provider : goal.returns-in-None-clause-provider
returns-in-None-clause-provider c = λ ns spaces.
    let s = c.args.self.now in
    let name = c.args.name.now in
    by_weak s c.args.sights.now.group ns name c.strong_provider.result (c.strong_provider.ensures.provider ns name spaces c.requires.bearers) c.in-None.is
    (option_map (provider_at s.cells.now) c.weak_provider.result) (c.weak_provider.ensures.provider ns spaces)
