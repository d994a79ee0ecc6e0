use Rattle.std.proofs.Common.{ap, arith, length}
use Rattle.cell_task.proofs.Places.{count_is}
use Rattle.cell_task.proofs.tasks.Tasks.count.Goals as goal

pub returns : goal.returns
returns c =
    omega (arith, c.len.ensures, c.self.inside.numbers.ok.0, count_is c.self.inside c.self.invariant, ap (λ s. length s.tasks) c.self.view_is)
