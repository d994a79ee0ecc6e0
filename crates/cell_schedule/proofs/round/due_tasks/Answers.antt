use Rattle.std.proofs.Common.{refl, sym, ◌∙◌, ap, subst, ◌++◌, List, ℕ, map}
use Rattle.std.specs.Prelude.{filter}
use Rattle.cell_world.specs.World.{Task}
use Rattle.cell_schedule.specs.declared.round.Due.{Due}
use Rattle.cell_schedule.specs.Rounds.{HaveRoom, can_turn, numbers_due}
use Rattle.cell_schedule.proofs.Rounds.{due_more, room_more}
use Rattle.cell_schedule.proofs.round.due_tasks.Goals as goal

pub loop-number-preserved-in-Continue-branch-2 : goal.loop-number-preserved-in-Continue-branch-2
loop-number-preserved-in-Continue-branch-2 c =
    let s = c.args.tasks.now in
    let d : Due = record { task = c.in-Some.number; out = c.in_ok-out.out } in
    let all : List ℕ = filter (can_turn s) (map (λ (t : Task). t.number) s.tasks) in
    let is = (c.in_ok-push.ensures {u = tt}).items in
    record {
      ready =
          ap (λ (due : List Due). numbers_due due ++ filter (can_turn s) c.next.new.self) is
          ∙ due_more (can_turn s) c.in-Some.number c.next.new.self all c.loop-number.due.items d refl (sym c.if-is_ready.ensures)
          (ap (λ ns. numbers_due c.loop-number.due.items ++ filter (can_turn s) ns) (sym (c.in-Some.ensures {u = tt}).steps) ∙ c.loop-number.invariant.ready);
      room = subst (HaveRoom c.args.turns) (sym is) (room_more c.args.turns c.loop-number.due.items d c.loop-number.invariant.room (record { empty = c.in_ok-out.ensures.empty; room = c.in_ok-out.ensures.room }));
    }
