use Rattle.std.proofs.Common.{◌≡◌, ◌∙◌, false, map, sym, ap, subst}
use Rattle.std.specs.Prelude.{not}
use Rattle.slab.specs.Slab.{get}
use Rattle.cell_num.specs.declared.ids.SecKey.{SecKey}
use Rattle.cell_graph.specs.Removal.{is_listed}
use Rattle.cell_graph.specs.declared.order.SectionPlace.{SectionPlace}
use Rattle.cell_graph.proofs.Dropping.{whole_left}
use Rattle.cell_graph.proofs.Ranges.{filter_mapped}
use Rattle.cell_graph.proofs.links.remove_sections.Goals as goal

pub returns-clause-whole : goal.returns-clause-whole
returns-clause-whole g c = λ rows row_list whole unused.
    whole_left (get c.args.sections.now) (get c.drop_listed_sections.new.sections) c.args.section_list.now.items c.requires (λ (s : SectionPlace). is_listed c.args.cells.now s.key)
    c.drop_listed_sections.ensures.sections rows row_list c.remove_listed.new.self.items c.remove_listed.ensures.items whole
    (λ p row at s has e. subst (λ (k : SecKey). is_listed c.args.cells.now k ≡ false) (sym e) (unused p row at))

pub returns-clause-left : goal.returns-clause-left
returns-clause-left g c =
    ap (map (λ (s : SectionPlace). s.key)) c.remove_listed.ensures.items
    ∙ sym (filter_mapped (λ (s : SectionPlace). s.key) (λ k. not (is_listed c.args.cells.now k)) c.args.section_list.now.items)
