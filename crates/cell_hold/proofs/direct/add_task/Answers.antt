use Rattle.std.proofs.Common.{refl, take, drop}
use Rattle.cell_world.specs.Running.Words.{words_in}
use Rattle.cell_hold.proofs.Rooting.{task_added}
use Rattle.cell_hold.proofs.direct.add_task.Goals as goal

pub returns-clause-added : goal.returns-clause-added
returns-clause-added c =
    task_added c.args.memory.now c.args.others.now.items c.args.task.now (take 31 (drop 1 c.args.task.now.x)) (words_in c.stack_of-bytes.result.now) c.args.into.now.room
    c.add.new.self.room c.add_word.new.into.room c.add_numbers.new.into.room c.args.into.now.items c.add.new.self.items c.add_word.new.into.items
    c.add_numbers.new.into.items c.add_words.new.into.items refl c.stack_of-bytes.ensures c.add.ensures.room c.add_word.ensures.room c.add_numbers.ensures.room c.add.ensures.added
    c.add_word.ensures.added c.add_numbers.ensures.added c.add_words.ensures.added
