use Rattle.std.proofs.Common.{arith, List, subst, take}
use Rattle.cell_script.specs.declared.line.Line.{Line}
use Rattle.cell_run.specs.Driven.{Tallies}
use Rattle.cell_run.proofs.Steps.{front_more, tallied_more}
use Rattle.cell_run.proofs.driving.sum_up.Goals as goal

pub loop-line-preserved : goal.loop-line-preserved
loop-line-preserved g c =
    let lines = c.args.lines.now in
    let i = c.loop-line.line-index in
    record {
      far = subst (λ (front : List Line). Tallies g.M.Machine.acts c.args.machine.now front c.count_answer.new.summary c.count_answer.new.machine)
          (front_more lines i c.line-item.result (omega arith) c.line-item.is)
          (tallied_more g.M.Machine.acts c.args.machine.now c.loop-line.machine c.count_answer.new.machine (take i lines) c.line-item.result c.loop-line.summary c.count_answer.new.summary
          c.loop-line.invariant.far c.in_ok-count_answer.ensures.counted);
      started = c.in_ok-count_answer.ensures.started;
    }
