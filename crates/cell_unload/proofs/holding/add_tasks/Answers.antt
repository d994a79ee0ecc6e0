use Rattle.std.proofs.Common.{◌≡◌, sym, ◌∙◌, ap, ℕ, ◌∷◌, ◌++◌, length, map, take, drop}
use Rattle.std.proofs.lemmas.List.{length_push}
use Rattle.cell_world.specs.World.{Task}
use Rattle.cell_task.specs.State.{seen_as}
use Rattle.cell_unload.specs.Begun.{root_of_task}
use Rattle.cell_unload.proofs.LiveTasks.{left_more, never_missing, roots_more}
use Rattle.cell_unload.proofs.holding.add_tasks.Goals as goal

pub loop-number-preserved : goal.loop-number-preserved
loop-number-preserved c =
    let ts = c.args.tasks.now.tasks in
    let n : ℕ = length c.loop-number.yielded in
    let e : c.in-Some.number ∷ c.next.new.self ≡ drop n (map (λ (t : Task). t.number) ts) = sym (c.in-Some.ensures {u = tt}).steps ∙ c.loop-number.invariant.left in
    let k = length_push c.loop-number.yielded c.in-Some.number in
    record {
      so_far =
          roots_more ts c.requires n c.in-Some.number c.next.new.self e (seen_as c.in-Some.number c.in-Some-get.task.now) (c.in-Some-get.ensures {u = tt})
          c.args.into.now.items c.loop-number.into.items c.push.new.self.items c.in_ok-root_of_task-in-Some-get.field-0 c.loop-number.invariant.so_far (c.in_ok-root_of_task-in-Some-get.ensures {u = tt}) (c.in_ok-push-in-Some-get.ensures {u = tt}).items
          ∙ ap (λ (k : ℕ). c.args.into.now.items ++ map root_of_task (take k ts)) (sym k);
      left = left_more ts c.requires n c.in-Some.number c.next.new.self e ∙ ap (λ (k : ℕ). drop k (map (λ (t : Task). t.number) ts)) (sym k);
    }

pub unreachable-requires : goal.unreachable-requires
unreachable-requires c =
    let ts = c.args.tasks.now.tasks in
    let n : ℕ = length c.loop-number.yielded in
    let e : c.in-Some.number ∷ c.next.new.self ≡ drop n (map (λ (t : Task). t.number) ts) = sym (c.in-Some.ensures {u = tt}).steps ∙ c.loop-number.invariant.left in
    never_missing ts c.requires n c.in-Some.number c.next.new.self e (c.in-None-get.ensures {u = tt})
