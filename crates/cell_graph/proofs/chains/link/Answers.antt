use Rattle.std.proofs.Common.{◌≡◌, Some, sym, subst, arith}
use Rattle.slab.specs.Slab.{get}
use Rattle.cell_graph.specs.Chains.{AreChained, IsHome}
use Rattle.cell_graph.specs.Edits.{without}
use Rattle.cell_graph.proofs.Linking.{first_stands, room_for_one, linked_in}
use Rattle.cell_graph.proofs.chains.link.Goals as goal

pub gain-requires : goal.gain-requires
gain-requires c =
    let s = c.in-Some.section.now in
    let was = subst (λ x. get x c.args.target ≡ Some s) c.sections.view_is (sym c.in-Some.ensures.value) in
    let most = room_for_one c.args.rows.now c.args.place s (c.requires.chained.chain c.args.target s was) c.requires.stands in
    omega (arith, most, c.len.ensures)

pub set_before-requires : goal.set_before-requires
set_before-requires c =
    let s = c.in-Some.section.now in
    let was = subst (λ x. get x c.args.target ≡ Some s) c.sections.view_is (sym c.in-Some.ensures.value) in
    first_stands (get c.args.rows.now) c.args.place s (c.requires.chained.chain c.args.target s was)

pub returns-clause-chained : goal.returns-clause-chained
returns-clause-chained c =
    let sections = c.sections.inside.arena in
    let chained = subst (λ x. AreChained (without (get c.args.rows.now) c.args.place) (get x)) (sym c.sections.view_is) c.requires.chained in
    let home = subst (λ x. IsHome (get x) c.args.target c.args.row.target) (sym c.sections.view_is) c.requires.home in
    linked_in c.args.rows.now c.set_before.new.self c.write.new.self sections c.args.target c.args.place c.args.row c.in-Some.section.now c.gain.new.self
    chained home (sym c.in-Some.ensures.value) c.gain.ensures.key c.gain.ensures.first c.gain.ensures.users c.set_before.ensures.edited c.write.ensures.placed
