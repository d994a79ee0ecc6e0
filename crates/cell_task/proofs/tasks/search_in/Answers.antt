use Rattle.cell_task.proofs.Arena.{absent_in}
use Rattle.cell_task.proofs.tasks.search_in.Goals as goal

pub returns-clause-absent : goal.returns-clause-absent
returns-clause-absent c =
    absent_in 1 c.args.numbers.now c.requires.0 c.args.task c.binary_search.result c.ok.result c.requires.1 c.binary_search.ensures.position c.ok.ensures.value
