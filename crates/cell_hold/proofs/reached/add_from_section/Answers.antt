use Rattle.cell_hold.proofs.Reaching.{not_written, written_added}
use Rattle.cell_hold.proofs.reached.add_from_section.Goals as goal

pub returns-then-not-place-clause-added : goal.returns-then-not-place-clause-added
returns-then-not-place-clause-added c = not_written c.args.memory.now c.args.others.now.items c.args.place.now _ _ c.if-not-place.true

pub returns-clause-added : goal.returns-clause-added
returns-clause-added c = written_added c.args.memory.now c.args.others.now.items c.args.place.now _ _ _ _ c.if-not-place.false c.section_bytes-bytes.ensures c.add_words.ensures.added
