use Rattle.std.proofs.Common.{List, get_or, sym, subst, ◌≡◌, true}
use Rattle.std.specs.List.{All}
use Rattle.cell_num.specs.declared.ids.SecKey.{SecKey}
use Rattle.cell_world.specs.World.{key_of}
use Rattle.cell_graph.specs.Order.{below_section}
use Rattle.cell_graph.proofs.Adding.{all_below}
use Rattle.cell_graph.proofs.graph.Graph.add_cell.Goals as goal

pub add_section-requires-clause-above : goal.add_section-requires-clause-above
add_section-requires-clause-above c =
    subst (λ (l : List SecKey). All (λ k. below_section k (key_of c.args.cell.0 (get_or c.args.sections.now c.loop-section.section-index 0)) ≡ true) l) (sym c.loop-section.invariant.added)
    (all_below c.args.self.now.sections c.args.sections.now c.args.cell.0 c.loop-section.section-index c.requires.above c.requires.rising c.loop-section-test.true)
