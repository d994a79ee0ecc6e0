use Rattle.std.proofs.Common.{subst, ◌≤◌, ◌+◌, length}
use Rattle.cell_machine.proofs.Unchanged.{same_itself}
use Rattle.cell_change.specs.declared.planning.Plan.{Plan}
use Rattle.cell_change.proofs.ready.Ready.of.Goals as goal

pub returns-in_err-ready-clause-same : goal.returns-in_err-ready-clause-same
returns-in_err-ready-clause-same c = same_itself c.args.machine.now

pub returns-clause-ready : goal.returns-clause-ready
returns-clause-ready c =
    let taken = c.in_ok-ready.ensures {u = tt} in
    let made = c.in_ok-make_room.ensures {u = tt} in
    record {
      same = made.same;
      taken = taken;
      room = made.room;
      stack_room = subst (λ (o : Plan). length o.staged.regions.items + 1 ≤ c.make_room.new.machine.memory.spare) taken.plan made.stack;
    }
