use Rattle.std.proofs.Common.{refl}
use Rattle.cell_hold.specs.Roots.{task_of}
use Rattle.cell_hold.proofs.bytes.stack_of.Goals as goal

pub returns : goal.returns
returns c = c.stack_bytes.ensures (task_of c.args.task.now) refl refl
