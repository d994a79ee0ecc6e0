use Rattle.std.proofs.Common.{true, subst, ◌≡◌, Contains}
use Rattle.cell_num.specs.declared.ids.SecKey.{SecKey}
use Rattle.cell_graph.specs.Order.{below_section}
use Rattle.cell_graph.proofs.Rising.{in_map}
use Rattle.cell_graph.proofs.graph.Graph.add_section.Goals as goal

pub add_section-requires-clause-above : goal.add_section-requires-clause-above
add_section-requires-clause-above c = λ s has.
    let seen = subst (λ v. Contains v.sections s.key) c.self.view_is (in_map (λ x. x.key) c.self.inside.section_list.items s has) in
    subst (λ (k : SecKey). below_section k c.args.key ≡ true) seen.2 (c.requires.above seen.0 s.key seen.1)
