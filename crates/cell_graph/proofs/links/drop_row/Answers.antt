use Rattle.slab.specs.Slab.{get}
use Rattle.cell_graph.proofs.Listing.{home_of}
use Rattle.cell_graph.proofs.Wholes.{chained_without, emptied, target_listed}
use Rattle.cell_graph.proofs.links.drop_row.Goals as goal

pub place_near-target-requires-clause-present : goal.place_near-target-requires-clause-present
place_near-target-requires-clause-present g c =
    target_listed (get c.args.rows.now) (get c.args.sections.now) c.args.section_list.now.items c.args.place c.read-chain.result c.requires.chained c.requires.listed c.read-chain.ensures.row

pub unlink-requires-clause-home : goal.unlink-requires-clause-home
unlink-requires-clause-home g c =
    home_of (get c.args.sections.now) c.args.section_list.now.items c.read-chain.result.row.target c.place_near-target.result.0 c.requires.listed c.place_near-target.ensures.named

pub returns-clause-chained : goal.returns-clause-chained
returns-clause-chained g c = chained_without (get c.unlink.new.rows) (get c.remove.new.self) (get c.unlink.new.sections) c.args.place c.remove.ensures.gone c.unlink.ensures.chained

pub returns-clause-links : goal.returns-clause-links
returns-clause-links g c = emptied (get c.args.rows.now) (get c.unlink.new.rows) (get c.remove.new.self) c.args.place c.unlink.ensures.links c.remove.ensures.gone
