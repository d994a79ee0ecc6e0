use Rattle.std.proofs.Common.{arith}
use Rattle.cell_part_tests.proofs.Stack.{may_clear}
use Rattle.cell_part_tests.proofs.task.memory_with_stack.Goals as goal

pub returns-clause-stack : goal.returns-clause-stack
returns-clause-stack c =
    may_clear 0x10000000 16 (omega arith) (omega arith) c.in_ok-memory.memory c.reserve.new.self c.map.new.self _ c.in_ok-stack.stack.items
    (c.in_ok-memory.ensures {u = tt}) ((c.in_ok-reserve.ensures {u = tt}).ok) c.of.ensures (c.in_ok-stack.ensures {u = tt}) c.map.ensures
