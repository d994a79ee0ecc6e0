use Rattle.std.proofs.Common.{◌∙◌, ◌++◌, ap, sym}
use Rattle.cell_world.specs.Names.{chain}
use Rattle.cell_world.specs.declared.state.Standing.TheVariants.{Attached}
use Rattle.cell_space.specs.Ahead.{AheadState}
use Rattle.cell_space.specs.Named.{provider_as}
use Rattle.cell_space.specs.Nearest.{nearest_aside, nearest_in}
use Rattle.cell_space.specs.Named.{weak_provider}
use Rattle.cell_space.proofs.Layered.{answered_first, answered_next}
use Rattle.cell_space.proofs.Nearests.{aside_present, weak_provider_is}
use Rattle.cell_space.proofs.ahead.Ahead.weak_provider.Goals as goal

pub returns-in-Some : goal.returns-in-Some
returns-in-Some c =
    let i = c.self.inside in
    let state = c.args.state in
    let name = c.args.name.now in
    let way = chain i.present.now.namespaces c.args.ns in
    let old = i.present.now.cells in
    let all = old ++ i.fresh.items in
    answered_first provider_as c.in-Some.provider (nearest_aside way state name all) (nearest_in way Attached name all) (weak_provider way state name all) (weak_provider_is way state name all)
    (c.in-Some.ensures ∙ sym (aside_present way state name old i.fresh.items c.self.invariant.attached))
    ∙ ap (λ (s : AheadState). weak_provider (chain s.namespaces c.args.ns) state name s.cells) c.self.view_is

pub returns-in-None : goal.returns-in-None
returns-in-None c =
    let i = c.self.inside in
    let state = c.args.state in
    let name = c.args.name.now in
    let way = chain i.present.now.namespaces c.args.ns in
    let old = i.present.now.cells in
    let all = old ++ i.fresh.items in
    answered_next provider_as c.nearest_attached.result (nearest_aside way state name all) (nearest_in way Attached name all) (weak_provider way state name all) (weak_provider_is way state name all)
    (c.in-None.ensures ∙ sym (aside_present way state name old i.fresh.items c.self.invariant.attached))
    (c.nearest_attached.ensures ∙ sym (ap (λ (s : AheadState). nearest_in (chain s.namespaces c.args.ns) Attached name s.cells) c.self.view_is))
    ∙ ap (λ (s : AheadState). weak_provider (chain s.namespaces c.args.ns) state name s.cells) c.self.view_is
