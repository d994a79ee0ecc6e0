use Rattle.cell_task.proofs.Cleared.{no_fault, word_stored}
use Rattle.cell_task.proofs.clearing.clear_word.Goals as goal

pub unreachable-requires : goal.unreachable-requires
unreachable-requires c = no_fault c.args.memory.now c.args.addr c.in-Err.field-0 c.requires.may c.in-Err.ensures.fault

pub returns : goal.returns
returns c = word_stored c.args.memory.now c.store.new.self c.args.addr c.requires.undo c.requires.may c.in-Ok.ensures.ok
