use Rattle.std.proofs.Common.{◌∙◌, ap, List, ◌++◌}
use Rattle.cell_world.specs.declared.state.Namespace.{Namespace}
use Rattle.cell_num.specs.Lists.{equals}
use Rattle.cell_space.specs.declared.cell.SpaceCell.{SpaceCell}
use Rattle.cell_space.specs.Named.{clash_stem, is_rival, number_as}
use Rattle.cell_space.proofs.Layered.{answered_first, answered_next, rival-append}
use Rattle.cell_space.proofs.ahead.Ahead.clash_stem.Goals as goal

pub returns-in-Some : goal.returns-in-Some
returns-in-Some c =
    let spaces = c.self.inside.present.now.namespaces in
    let old = c.self.inside.present.now.cells in
    let new = c.self.inside.fresh.items in
    let clash = clash_stem spaces c.args.path.now.ns c.args.stem.now in
    answered_first number_as c.in-Some.holder (clash old) (clash new) (clash (old ++ new)) (rival-append (λ d. equals d.stem c.args.stem.now) (is_rival spaces c.args.path.now.ns) old new) c.in-Some.ensures
    ∙ ap (λ s. clash_stem s.namespaces c.args.path.now.ns c.args.stem.now s.cells) c.self.view_is

pub returns-in-None : goal.returns-in-None
returns-in-None c =
    let spaces = c.self.inside.present.now.namespaces in
    let old = c.self.inside.present.now.cells in
    let new = c.self.inside.fresh.items in
    let clash = clash_stem spaces c.args.path.now.ns c.args.stem.now in
    answered_next number_as c.clash_stem-in-None.result (clash old) (clash new) (clash (old ++ new)) (rival-append (λ d. equals d.stem c.args.stem.now) (is_rival spaces c.args.path.now.ns) old new) c.in-None.ensures
    (c.clash_stem-in-None.ensures
    ∙ ap (λ (cells : List SpaceCell). clash_stem c.self.inside.namespaces.now c.args.path.now.ns c.args.stem.now cells) c.deref.ensures.value
    ∙ ap (λ (all : List Namespace). clash_stem all c.args.path.now.ns c.args.stem.now new) c.self.invariant.same)
    ∙ ap (λ s. clash_stem s.namespaces c.args.path.now.ns c.args.stem.now s.cells) c.self.view_is
