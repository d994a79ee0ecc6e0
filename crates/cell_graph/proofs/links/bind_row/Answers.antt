use Rattle.std.proofs.Common.{◌∙◌, ap}
use Rattle.std.specs.List.{insert}
use Rattle.slab.specs.Slab.{get}
use Rattle.cell_graph.specs.declared.order.RowPlace.{RowPlace}
use Rattle.cell_graph.proofs.Wholes.{cut_within, seen_bound, whole_bound}
use Rattle.cell_graph.proofs.links.bind_row.Goals as goal

pub insert-requires-clause-within : goal.insert-requires-clause-within
insert-requires-clause-within g c = cut_within _ c.args.row_list.now.items c.cut-index.result c.cut-index.ensures

pub returns-clause-whole : goal.returns-clause-whole
returns-clause-whole g c =
    whole_bound (get c.args.rows.now) (get c.place_row-at.new.rows) (get c.args.sections.now) (get c.place_row-at.new.sections)
    c.args.section_list.now.items c.args.row_list.now.items c.insert.new.self.items c.cut-index.result c.place_row-at.result.0 c.args.row c.requires.whole
    c.place_row-at.ensures.was_empty c.place_row-at.ensures.links c.requires.unbound c.cut-index.ensures
    (c.insert.ensures.items ∙ ap (λ (x : RowPlace). insert c.args.row_list.now.items c.cut-index.result x) c.of.ensures) c.place_row-at.ensures.keys c.place_row-at.ensures.chained

pub returns-clause-added : goal.returns-clause-added
returns-clause-added g c =
    seen_bound (get c.args.rows.now) (get c.place_row-at.new.rows) (get c.args.sections.now) (get c.place_row-at.new.sections)
    c.args.section_list.now.items c.args.row_list.now.items c.insert.new.self.items c.cut-index.result c.place_row-at.result.0 c.args.row c.requires.whole
    c.place_row-at.ensures.was_empty c.place_row-at.ensures.links c.requires.unbound c.cut-index.ensures
    (c.insert.ensures.items ∙ ap (λ (x : RowPlace). insert c.args.row_list.now.items c.cut-index.result x) c.of.ensures)
