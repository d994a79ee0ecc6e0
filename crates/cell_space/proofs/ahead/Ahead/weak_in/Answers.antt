use Rattle.std.proofs.Common.{◌∙◌, ap, ◌++◌}
use Rattle.cell_world.specs.declared.state.Standing.TheVariants.{Attached}
use Rattle.cell_space.specs.Named.{provider_as}
use Rattle.cell_space.specs.Nearest.{weak_in}
use Rattle.cell_space.proofs.Layered.{answered_first, answered_next}
use Rattle.cell_space.proofs.Nearests.{weak_in-append}
use Rattle.cell_space.proofs.ahead.Ahead.weak_in.Goals as goal

pub returns-in-Some : goal.returns-in-Some
returns-in-Some c =
    let name = c.args.word.now.text.now in
    let at = weak_in c.args.ns Attached name in
    let old = c.self.inside.present.now.cells in
    let new = c.self.inside.fresh.items in
    answered_first provider_as c.in-Some.provider (at old) (at new) (at (old ++ new)) (weak_in-append Attached name c.args.ns old new) c.in-Some.ensures
    ∙ ap (λ s. weak_in c.args.ns Attached name s.cells) c.self.view_is

pub returns-in-None : goal.returns-in-None
returns-in-None c =
    let name = c.args.word.now.text.now in
    let at = weak_in c.args.ns Attached name in
    let old = c.self.inside.present.now.cells in
    let new = c.self.inside.fresh.items in
    answered_next provider_as c.weak_in-in-None.result (at old) (at new) (at (old ++ new)) (weak_in-append Attached name c.args.ns old new) c.in-None.ensures
    (c.weak_in-in-None.ensures ∙ ap at c.deref.ensures.value)
    ∙ ap (λ s. weak_in c.args.ns Attached name s.cells) c.self.view_is
