use Rattle.std.proofs.Common.{◌≡◌, sym, ap, subst, arith, length, ◌∷◌, List}
use Rattle.cell_world.specs.declared.reply.TaskRun.{TaskRun}
use Rattle.cell_schedule.specs.declared.round.Due.{Due}
use Rattle.cell_schedule.specs.Rounds.{numbers_due}
use Rattle.cell_schedule.proofs.Rounds.{IsOnWay, first_room, round_more}
use Rattle.cell_schedule.proofs.round.run_each.Goals as goal

pub slice-run-requires-clause-empty : goal.slice-run-requires-clause-empty
slice-run-requires-clause-empty c =
    let so : IsOnWay c.args.machine.now c.args.turns (numbers_due c.args.all.items) c.loop-due.machine c.loop-due.runs.items (c.in-Some.due ∷ c.next.new.self.rest.items) =
    subst (IsOnWay c.args.machine.now c.args.turns (numbers_due c.args.all.items) c.loop-due.machine c.loop-due.runs.items) (c.in-Some.ensures {u = tt}).steps.0 c.loop-due.invariant.on_way in
    (first_room c.loop-due.machine.tasks c.args.turns c.in-Some.due c.next.new.self.rest.items so.due).empty

pub slice-run-requires-clause-room : goal.slice-run-requires-clause-room
slice-run-requires-clause-room c =
    let so : IsOnWay c.args.machine.now c.args.turns (numbers_due c.args.all.items) c.loop-due.machine c.loop-due.runs.items (c.in-Some.due ∷ c.next.new.self.rest.items) =
    subst (IsOnWay c.args.machine.now c.args.turns (numbers_due c.args.all.items) c.loop-due.machine c.loop-due.runs.items) (c.in-Some.ensures {u = tt}).steps.0 c.loop-due.invariant.on_way in
    (first_room c.loop-due.machine.tasks c.args.turns c.in-Some.due c.next.new.self.rest.items so.due).room

pub loop-due-preserved : goal.loop-due-preserved
loop-due-preserved c =
    let left = (c.in-Some.ensures {u = tt}).steps.0 in
    let rest : List Due = c.next.new.self.rest.items in
    let so : IsOnWay c.args.machine.now c.args.turns (numbers_due c.args.all.items) c.loop-due.machine c.loop-due.runs.items (c.in-Some.due ∷ rest) =
    subst (IsOnWay c.args.machine.now c.args.turns (numbers_due c.args.all.items) c.loop-due.machine c.loop-due.runs.items) left c.loop-due.invariant.on_way in
    let pushed = c.in-Ok.ensures {u = tt} in
    let longer : length c.loop-due.due-iterator.rest.items ≡ length (c.in-Some.due ∷ rest) = ap (λ (ds : List Due). length ds) left in
    record {
      on_way = subst (λ (runs : List TaskRun). IsOnWay c.args.machine.now c.args.turns (numbers_due c.args.all.items) c.slice-run.new.machine runs rest) (sym pushed.items)
          (round_more c.args.machine.now c.args.turns (numbers_due c.args.all.items) c.loop-due.machine c.loop-due.runs.items c.in-Some.due rest so c.slice-run.result c.slice-run.new.machine c.slice-run.ensures);
      room = omega (arith, pushed.len, c.push.ensures.lower_bound, c.loop-due.invariant.room, longer);
    }
