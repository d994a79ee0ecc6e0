use Rattle.slab.specs.Slab.{get}
use Rattle.cell_graph.proofs.Adding.{whole_more}
use Rattle.cell_graph.proofs.links.add_section.Goals as goal

pub returns-clause-whole : goal.returns-clause-whole
returns-clause-whole c = λ rows row_list whole.
    whole_more (get c.args.sections.now) (get c.insert-place.new.self) c.args.section_list.now.items c.insert-place.result c.args.key
    c.insert-place.ensures.was_empty c.insert-place.ensures.stands c.insert-place.ensures.others c.requires.above
    c.push.new.self.items rows row_list c.push.ensures.items whole
