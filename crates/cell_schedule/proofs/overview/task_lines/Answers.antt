use Rattle.std.proofs.Common.{◌≡◌, sym, ◌∙◌, ap, ℕ, List, [], ◌∷◌, ◌++◌, length, map, take, drop}
use Rattle.std.proofs.lemmas.List.{length_push}
use Rattle.cell_world.specs.World.{Task}
use Rattle.cell_world.specs.Commands.TaskCommands.{task_line as line_of}
use Rattle.cell_world.specs.declared.reply.TaskLine.{TaskLine}
use Rattle.cell_task.specs.State.{seen_as}
use Rattle.cell_schedule.proofs.Lines.{left_more, lines_more, never_missing}
use Rattle.cell_schedule.proofs.overview.task_lines.Goals as goal

pub loop-number-preserved : goal.loop-number-preserved
loop-number-preserved c =
    let ts = c.args.tasks.now.tasks in
    let n : ℕ = length c.loop-number.yielded in
    let e : c.in-Some.number ∷ c.next.new.self ≡ drop n (map (λ (t : Task). t.number) ts) = sym (c.in-Some.ensures {u = tt}).steps ∙ c.loop-number.invariant.left in
    let u : Task = seen_as c.in-Some.number c.in-Some-get.task.now in
    let k = length_push c.loop-number.yielded c.in-Some.number in
    record {
      so_far =
          (c.in_ok-push-in-Some-get.ensures {u = tt}).items
          ∙ (ap (λ (ls : List TaskLine). ls ++ c.task_line.result ∷ []) c.loop-number.invariant.so_far
          ∙ (ap (λ (l : TaskLine). map line_of (take n ts) ++ l ∷ []) c.task_line.ensures
          ∙ (lines_more ts c.requires n c.in-Some.number c.next.new.self e u (c.in-Some-get.ensures {u = tt})
          ∙ ap (λ (k : ℕ). map line_of (take k ts)) (sym k))));
      left = left_more ts c.requires n c.in-Some.number c.next.new.self e ∙ ap (λ (k : ℕ). drop k (map (λ (t : Task). t.number) ts)) (sym k);
    }

pub unreachable-requires : goal.unreachable-requires
unreachable-requires c =
    let ts = c.args.tasks.now.tasks in
    let n : ℕ = length c.loop-number.yielded in
    let e : c.in-Some.number ∷ c.next.new.self ≡ drop n (map (λ (t : Task). t.number) ts) = sym (c.in-Some.ensures {u = tt}).steps ∙ c.loop-number.invariant.left in
    never_missing ts c.requires n c.in-Some.number c.next.new.self e (c.in-None-get.ensures {u = tt})
