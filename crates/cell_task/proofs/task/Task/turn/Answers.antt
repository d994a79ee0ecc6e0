use Rattle.std.proofs.Common.{ap, ◌∙◌, ◌++◌}
use Rattle.cell_task.specs.Ran.{answered, fault_after}
use Rattle.cell_task.proofs.Calling.{call_is, call_memory}
use Rattle.cell_task.proofs.task.Task.turn.Goals as goal

pub returns-in-Call-clause-ran : goal.returns-in-Call-clause-ran
returns-in-Call-clause-ran c =
    let same = call_is c.args.self.now.hart c.step.new.self c.args.memory.now c.step.new.memory (c.in-Call.ensures {u = tt}) in
    let ran = c.call.ensures.ran in
    record {
      answer_is = ran.answer_is ∙ ap (λ r. answered r.state r.yields) same;
      pc = ran.pc ∙ ap (λ r. r.hart.pc) same;
      registers = ran.registers ∙ ap (λ r. r.hart.registers) same;
      fault = ran.fault ∙ ap (λ r. fault_after c.args.self.now.fault r.state) same;
      origin = ran.origin;
      root = ran.root;
      stack = ran.stack;
      put_out = ran.put_out ∙ ap (λ r. c.args.out.now.items ++ r.out) same;
    }

pub returns-in-Call-clause-memory : goal.returns-in-Call-clause-memory
returns-in-Call-clause-memory c = call_memory c.args.self.now.hart c.step.new.self c.args.memory.now c.step.new.memory (c.in-Call.ensures {u = tt})
