use Rattle.std.proofs.Common.{◌≡◌, ◌||◌, ◌++◌, ◌∷◌, [], arith, Bool, List, ap, sym, subst, take, ◌∙◌}
use Rattle.cell_script.specs.declared.line.Line.{Line}
use Rattle.cell_run.proofs.Steps.{SoFar, cut_at, front_more, one_more}
use Rattle.cell_run.proofs.driving.write_answers.Goals as goal
use Rattle.cell_run.proofs.driving.write_answers.Goals.{then-some_refused, else-some_refused}

pub returns-in-Err-clause-answers : goal.returns-in-Err-clause-answers
returns-in-Err-clause-answers g c =
    cut_at g.M.Machine.acts c.args.machine.now c.loop-line.machine c.write_answer.new.machine c.args.lines.now c.loop-line.line-index c.line-item.result c.loop-line.some_refused c.in-Err.status
    c.write_answer.new.machine (g.K.Sink.written c.args.out.now) (g.K.Sink.written c.loop-line.out) (g.K.Sink.written c.write_answer.new.out)
    (omega arith) c.line-item.is c.loop-line.invariant.far c.in-Err.ensures.cut.0 c.in-Err.ensures.cut.1

pub loop-line-preserved : goal.loop-line-preserved
loop-line-preserved g c =
    let lines = c.args.lines.now in
    let i = c.loop-line.line-index in
    let both : c.if-some_refused.some_refused ≡ (c.loop-line.some_refused || c.in-Ok.refused) = elim c.if-some_refused.branch [
      | then-some_refused w ↦ w.some_refused-is ∙ w.if-some_refused.true ∙ ap (λ b. b || c.in-Ok.refused) (sym w.if-some_refused.true)
      | else-some_refused w ↦ w.some_refused-is ∙ ap (λ b. b || c.in-Ok.refused) (sym w.if-some_refused.false)
    ] in
    let more = one_more g.M.Machine.acts c.args.machine.now c.loop-line.machine c.write_answer.new.machine (take i lines) c.line-item.result c.loop-line.some_refused c.in-Ok.refused
    (g.K.Sink.written c.args.out.now) (g.K.Sink.written c.loop-line.out) (g.K.Sink.written c.write_answer.new.out) c.loop-line.invariant.far c.in-Ok.ensures.done in
    record {
      far = subst (λ (front : List Line). SoFar g.M.Machine.acts c.args.machine.now front c.if-some_refused.some_refused c.write_answer.new.machine (g.K.Sink.written c.args.out.now) (g.K.Sink.written c.write_answer.new.out))
          (front_more lines i c.line-item.result (omega arith) c.line-item.is)
          (subst (λ (b : Bool). SoFar g.M.Machine.acts c.args.machine.now (take i lines ++ c.line-item.result ∷ []) b c.write_answer.new.machine (g.K.Sink.written c.args.out.now) (g.K.Sink.written c.write_answer.new.out)) (sym both) more);
      started = c.in-Ok.ensures.started;
      room = c.in-Ok.ensures.room ∙ c.loop-line.invariant.room;
      later = omega (arith, c.in-Ok.ensures.cause.later);
    }
