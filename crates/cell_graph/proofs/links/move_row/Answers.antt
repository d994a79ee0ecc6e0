use Rattle.std.proofs.Common.{subst}
use Rattle.slab.specs.Slab.{get}
use Rattle.cell_graph.specs.declared.order.RowPlace.{RowPlace}
use Rattle.cell_graph.specs.Heads.{HasNew}
use Rattle.cell_graph.proofs.Wholes.{home_named, home_same, row_stands, seen_moved, target_named, whole_moved}
use Rattle.cell_graph.proofs.links.move_row.Goals as goal

pub index_near-old_index-requires-clause-present : goal.index_near-old_index-requires-clause-present
index_near-old_index-requires-clause-present g c =
    target_named (get c.args.rows.now) (get c.args.sections.now) c.args.section_list.now.items c.args.row_list.now.items _ c.read-chain.result c.requires.whole c.read-chain.ensures.row

pub link-requires-clause-home : goal.link-requires-clause-home
link-requires-clause-home g c =
    home_same (get c.args.sections.now) (get c.unlink.new.sections) c.place_at-new.result c.args.to.target c.unlink.ensures.keys
    (home_named (get c.args.rows.now) (get c.args.sections.now) c.args.section_list.now.items c.args.row_list.now.items c.args.to.target c.place_at-new.result c.requires.whole c.place_at-new.ensures.place)

pub returns-clause-whole : goal.returns-clause-whole
returns-clause-whole g c =
    whole_moved (get c.args.rows.now) (get c.unlink.new.rows) (get c.link.new.rows) (get c.args.sections.now) (get c.unlink.new.sections) (get c.link.new.sections)
    c.args.section_list.now.items c.args.row_list.now.items c.requires.whole c.unlink.ensures.keys c.link.ensures.keys
    c.index_near-row.result c.at-place.result c.args.to c.index_near-row.ensures.named c.unlink.ensures.links
    (subst (λ (x : RowPlace). HasNew (get c.unlink.new.rows) (get c.link.new.rows) x.place c.args.to) (c.at-place.ensures.place c.at-place.result) c.link.ensures.links) c.link.ensures.chained

pub returns-clause-moved : goal.returns-clause-moved
returns-clause-moved g c =
    seen_moved (get c.args.rows.now) (get c.unlink.new.rows) (get c.link.new.rows) (get c.args.sections.now) (get c.unlink.new.sections) (get c.link.new.sections)
    c.args.section_list.now.items c.args.row_list.now.items c.requires.whole c.unlink.ensures.keys c.link.ensures.keys
    c.index_near-row.result c.at-place.result c.args.to c.index_near-row.ensures.named c.unlink.ensures.links
    (subst (λ (x : RowPlace). HasNew (get c.unlink.new.rows) (get c.link.new.rows) x.place c.args.to) (c.at-place.ensures.place c.at-place.result) c.link.ensures.links)

pub read-chain-requires : goal.read-chain-requires
read-chain-requires g c =
    row_stands (get c.args.rows.now) c.args.row_list.now.items c.index_near-row.result c.at-place.result c.requires.whole.rows_listed.stand c.index_near-row.ensures.named.within (c.at-place.ensures.place c.at-place.result)
