use Rattle.std.proofs.Common.{◌∙◌, ap, List, ◌++◌}
use Rattle.cell_world.specs.declared.state.Namespace.{Namespace}
use Rattle.cell_world.specs.Names.{chain}
use Rattle.cell_world.specs.declared.state.Standing.TheVariants.{Attached}
use Rattle.cell_space.specs.declared.cell.SpaceCell.{SpaceCell}
use Rattle.cell_space.specs.Named.{strong_provider, provider_as}
use Rattle.cell_space.proofs.Layered.{answered_first, answered_next, strong_provider-append}
use Rattle.cell_space.proofs.ahead.Ahead.strong_provider.Goals as goal

pub returns-in-Some : goal.returns-in-Some
returns-in-Some c =
    let i = c.self.inside in
    let spaces = i.present.now.namespaces in
    let old = i.present.now.cells in
    let new = i.fresh.items in
    let way = chain spaces c.args.ns in
    let name = c.args.name.now in
    answered_first provider_as c.in-Some.provider (strong_provider way c.args.state name old) (strong_provider way Attached name new) (strong_provider way c.args.state name (old ++ new))
    (strong_provider-append way c.args.state name old new c.self.invariant.attached) c.in-Some.ensures
    ∙ ap (λ s. strong_provider (chain s.namespaces c.args.ns) c.args.state name s.cells) c.self.view_is

pub returns-in-None : goal.returns-in-None
returns-in-None c =
    let i = c.self.inside in
    let spaces = i.present.now.namespaces in
    let old = i.present.now.cells in
    let new = i.fresh.items in
    let way = chain spaces c.args.ns in
    let name = c.args.name.now in
    answered_next provider_as c.strong_provider-in-None.result (strong_provider way c.args.state name old) (strong_provider way Attached name new) (strong_provider way c.args.state name (old ++ new))
    (strong_provider-append way c.args.state name old new c.self.invariant.attached) c.in-None.ensures
    (c.strong_provider-in-None.ensures
    ∙ ap (λ (cells : List SpaceCell). strong_provider (chain i.namespaces.now c.args.ns) Attached name cells) c.deref.ensures.value
    ∙ ap (λ (all : List Namespace). strong_provider (chain all c.args.ns) Attached name new) c.self.invariant.same)
    ∙ ap (λ s. strong_provider (chain s.namespaces c.args.ns) c.args.state name s.cells) c.self.view_is
