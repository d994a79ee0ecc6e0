use Rattle.std.proofs.Common.{◌∙◌, ap, subst, get_or, List}
use Rattle.cell_world.specs.declared.state.Namespace.{Namespace}
use Rattle.cell_space.specs.Rooted.{AreRooted}
use Rattle.cell_commands.proofs.Parents.{none_above, parent_is, parent_there}
use Rattle.cell_commands.proofs.cloning.parent.Goals as goal

pub returns-in-Some-clause-number : goal.returns-in-Some-clause-number
returns-in-Some-clause-number c =
    let space = c.index-all-ns.result in
    let at = c.index-all-ns.is ∙ ap (λ (all : List Namespace). get_or all c.args.ns space) c.namespaces-all.ensures.value in
    parent_is c.args.spaces.now.namespaces c.args.ns c.args.word.now c.requires space at c.in-Some.up c.in-Some.is

pub returns-in-Some-clause-there : goal.returns-in-Some-clause-there
returns-in-Some-clause-there c =
    let space = c.index-all-ns.result in
    let at = c.index-all-ns.is ∙ ap (λ (all : List Namespace). get_or all c.args.ns space) c.namespaces-all.ensures.value in
    let rooted = subst AreRooted c.namespaces-all.ensures.value c.namespaces-all.ensures.rooted in
    parent_there c.args.spaces.now.namespaces c.args.ns c.args.word.now c.requires space at rooted c.in-Some.up c.in-Some.is

pub returns-in-None-clause-number : goal.returns-in-None-clause-number
returns-in-None-clause-number c =
    let space = c.index-all-ns.result in
    let at = c.index-all-ns.is ∙ ap (λ (all : List Namespace). get_or all c.args.ns space) c.namespaces-all.ensures.value in
    none_above c.args.spaces.now.namespaces c.args.ns c.args.word.now c.requires space at c.in-None.is c.no_parent.result c.no_parent.ensures
