use Rattle.std.proofs.Common.{◌≡◌, Some, sym, subst}
use Rattle.slab.specs.Slab.{get}
use Rattle.cell_graph.specs.Chains.{AreChained, IsHome}
use Rattle.cell_graph.proofs.Linking.{has_users, before_stands, after_stands, taken_out}
use Rattle.cell_graph.proofs.chains.unlink.Goals as goal

pub lose-requires : goal.lose-requires
lose-requires c =
    let s = c.in-Some.section.now in
    has_users c.args.rows.now c.args.sections.now c.args.target c.args.place c.args.chain s
    c.requires.chained c.requires.stands c.requires.home (subst (λ x. get x c.args.target ≡ Some s) c.sections.view_is (sym c.in-Some.ensures.value))

pub set_after-requires : goal.set_after-requires
set_after-requires c =
    let s = c.in-Some.section.now in
    before_stands c.args.rows.now c.args.sections.now c.args.target c.args.place c.args.chain s
    c.requires.chained c.requires.stands c.requires.home (subst (λ x. get x c.args.target ≡ Some s) c.sections.view_is (sym c.in-Some.ensures.value))

pub set_before-requires : goal.set_before-requires
set_before-requires c =
    let s = c.in-Some.section.now in
    after_stands c.args.rows.now c.args.sections.now c.args.target c.args.place c.args.chain s
    c.requires.chained c.requires.stands c.requires.home (subst (λ x. get x c.args.target ≡ Some s) c.sections.view_is (sym c.in-Some.ensures.value)) c.set_after.new.self c.set_after.ensures.edited

pub returns-clause-chained : goal.returns-clause-chained
returns-clause-chained c =
    let sections = c.sections.inside.arena in
    let chained = subst (λ x. AreChained (get c.args.rows.now) (get x)) (sym c.sections.view_is) c.requires.chained in
    let home = subst (λ x. IsHome (get x) c.args.target c.args.chain.row.target) (sym c.sections.view_is) c.requires.home in
    taken_out c.args.rows.now sections c.args.target c.args.place c.args.chain c.in-Some.section.now
    chained c.requires.stands home (sym c.in-Some.ensures.value)
    c.set_after.new.self c.set_before.new.self c.lose.new.self c.lose.ensures.key c.lose.ensures.first c.lose.ensures.users c.set_after.ensures.edited c.set_before.ensures.edited
