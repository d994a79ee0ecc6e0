use Rattle.std.proofs.Common.{refl}
use Rattle.std.specs.Prelude.{not}
use Rattle.slab.specs.Slab.{get}
use Rattle.cell_graph.specs.Removal.{is_listed}
use Rattle.cell_graph.specs.declared.order.RowPlace.{RowPlace}
use Rattle.cell_graph.proofs.Dropping.{left_links, left_whole}
use Rattle.cell_graph.proofs.links.remove_rows.Goals as goal

pub returns-clause-whole : goal.returns-clause-whole
returns-clause-whole g c =
    left_whole (get c.args.rows.now) (get c.drop_listed_rows.new.rows) (get c.args.sections.now) (get c.drop_listed_rows.new.sections) c.args.section_list.now.items
    c.args.row_list.now.items c.remove_listed.new.self.items (λ (r : RowPlace). is_listed c.args.cells.now r.user) c.requires c.drop_listed_rows.ensures.keys c.drop_listed_rows.ensures.chained
    c.drop_listed_rows.ensures.links c.remove_listed.ensures.items

pub returns-clause-left : goal.returns-clause-left
returns-clause-left g c =
    left_links (get c.args.rows.now) (get c.drop_listed_rows.new.rows) c.args.row_list.now.items c.remove_listed.new.self.items (λ l. not (is_listed c.args.cells.now l.user))
    (λ (r : RowPlace). is_listed c.args.cells.now r.user) (λ r. refl) c.requires.rows_listed c.drop_listed_rows.ensures.links c.remove_listed.ensures.items
