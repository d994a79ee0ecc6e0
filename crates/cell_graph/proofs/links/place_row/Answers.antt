use Rattle.slab.specs.Slab.{get}
use Rattle.cell_graph.proofs.Listing.{home_of}
use Rattle.cell_graph.proofs.Wholes.{fresh_from, unseen_yet}
use Rattle.cell_graph.proofs.links.place_row.Goals as goal

pub link-requires-clause-chained : goal.link-requires-clause-chained
link-requires-clause-chained c =
    unseen_yet (get c.args.rows.now) (get c.insert-place.new.self) (get c.args.sections.now) c.insert-place.result _
    c.insert-place.ensures.was_empty c.insert-place.ensures.placed c.requires.chained

pub link-requires-clause-home : goal.link-requires-clause-home
link-requires-clause-home c =
    home_of (get c.args.sections.now) c.args.section_list.now.items c.args.row.target c.place_near-target.result.0 c.requires.listed c.place_near-target.ensures.named

pub returns-clause-links : goal.returns-clause-links
returns-clause-links c =
    fresh_from (get c.args.rows.now) (get c.insert-place.new.self) (get c.link.new.rows) c.insert-place.result _ c.args.row c.insert-place.ensures.placed c.link.ensures.links
