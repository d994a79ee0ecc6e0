use Rattle.std.proofs.Common.{◌∙◌, ap, List, ◌++◌}
use Rattle.cell_world.specs.declared.state.Namespace.{Namespace}
use Rattle.cell_world.specs.Names.{has_name}
use Rattle.cell_space.specs.declared.cell.SpaceCell.{SpaceCell}
use Rattle.cell_space.specs.Named.{clash_name, is_rival, number_as}
use Rattle.cell_space.proofs.Layered.{answered_first, answered_next, rival-append}
use Rattle.cell_space.proofs.ahead.Ahead.clash_name.Goals as goal

pub returns-in-Some : goal.returns-in-Some
returns-in-Some c =
    let spaces = c.self.inside.present.now.namespaces in
    let old = c.self.inside.present.now.cells in
    let new = c.self.inside.fresh.items in
    let clash = clash_name spaces c.args.path.now.ns c.args.name.now in
    answered_first number_as c.in-Some.holder (clash old) (clash new) (clash (old ++ new)) (rival-append (λ d. has_name d.names c.args.name.now) (is_rival spaces c.args.path.now.ns) old new) c.in-Some.ensures
    ∙ ap (λ s. clash_name s.namespaces c.args.path.now.ns c.args.name.now s.cells) c.self.view_is

pub returns-in-None : goal.returns-in-None
returns-in-None c =
    let spaces = c.self.inside.present.now.namespaces in
    let old = c.self.inside.present.now.cells in
    let new = c.self.inside.fresh.items in
    let clash = clash_name spaces c.args.path.now.ns c.args.name.now in
    answered_next number_as c.clash_name-in-None.result (clash old) (clash new) (clash (old ++ new)) (rival-append (λ d. has_name d.names c.args.name.now) (is_rival spaces c.args.path.now.ns) old new) c.in-None.ensures
    (c.clash_name-in-None.ensures
    ∙ ap (λ (cells : List SpaceCell). clash_name c.self.inside.namespaces.now c.args.path.now.ns c.args.name.now cells) c.deref.ensures.value
    ∙ ap (λ (all : List Namespace). clash_name all c.args.path.now.ns c.args.name.now new) c.self.invariant.same)
    ∙ ap (λ s. clash_name s.namespaces c.args.path.now.ns c.args.name.now s.cells) c.self.view_is
