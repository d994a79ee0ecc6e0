use Rattle.cell_hold.proofs.Reaching.{reached_added}
use Rattle.cell_hold.proofs.reached.Reading.add_reached.Goals as goal

pub returns-clause-added : goal.returns-clause-added
returns-clause-added c =
    reached_added c.args.self.now.graph.now c.args.self.now.memory.now c.args.self.now.places.now c.args.self.now.others.now.items c.args.cell.0 _ _ c.args.known _ _ _ c.add_targets_unless.ensures.room
    c.add_targets_unless.ensures.added c.add_from_sections.ensures.added
