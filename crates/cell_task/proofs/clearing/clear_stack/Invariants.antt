use Rattle.std.proofs.Common.{◌≡◌, ◌≤◌}
use Rattle.cell_task.specs.Clearing.{zeroed_in}
use Rattle.cell_task.proofs.clearing.clear_stack.Given as goal

-- the stack is cleared so far
abbrev pub invariant-loop-word : goal.invariant-loop-word
invariant-loop-word l = record {
  cleared : l.memory ≡ zeroed_in l.fn.memory l.stack l.word;
  most : l.word ≤ 2048;
}
