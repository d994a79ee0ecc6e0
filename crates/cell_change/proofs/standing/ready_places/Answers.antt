use Rattle.std.proofs.Common.{◌≡◌, sym, ◌∙◌, ap, ℕ, ◌∷◌, length, map, take, drop}
use Rattle.std.specs.Prelude.{flat_map}
use Rattle.std.proofs.lemmas.List.{length_push}
use Rattle.cell_world.specs.World.{Task}
use Rattle.cell_task.specs.State.{seen_as}
use Rattle.cell_change.specs.Planning.{place_if_ready}
use Rattle.cell_unload.proofs.LiveTasks.{left_more, never_missing, parts_more}
use Rattle.cell_change.proofs.Decision.ReadyPlaces.{all_ready}
use Rattle.cell_change.proofs.standing.ready_places.Goals as goal

pub loop-number-preserved : goal.loop-number-preserved
loop-number-preserved c =
    let ts = c.args.tasks.now.tasks in
    let n : ℕ = length c.loop-number.yielded in
    let e : c.in-Some.number ∷ c.next.new.self ≡ drop n (map (λ (t : Task). t.number) ts) = sym (c.in-Some.ensures {u = tt}).steps ∙ c.loop-number.invariant.left in
    let k = length_push c.loop-number.yielded c.in-Some.number in
    record {
      so_far =
          parts_more ts c.requires n c.in-Some.number c.next.new.self e place_if_ready (seen_as c.in-Some.number c.in-Some-get.task.now) (c.in-Some-get.ensures {u = tt})
          c.loop-number.places.items c.add_ready.new.places.items c.loop-number.invariant.so_far (c.in_ok-add_ready-in-Some-get.ensures {u = tt})
          ∙ ap (λ (k : ℕ). flat_map place_if_ready (take k ts)) (sym k);
      left = left_more ts c.requires n c.in-Some.number c.next.new.self e ∙ ap (λ (k : ℕ). drop k (map (λ (t : Task). t.number) ts)) (sym k);
    }

pub unreachable-requires : goal.unreachable-requires
unreachable-requires c =
    let ts = c.args.tasks.now.tasks in
    let n : ℕ = length c.loop-number.yielded in
    let e : c.in-Some.number ∷ c.next.new.self ≡ drop n (map (λ (t : Task). t.number) ts) = sym (c.in-Some.ensures {u = tt}).steps ∙ c.loop-number.invariant.left in
    never_missing ts c.requires n c.in-Some.number c.next.new.self e (c.in-None-get.ensures {u = tt})

pub returns : goal.returns
returns c = all_ready c.args.tasks.now.tasks (length c.loop-number.yielded) c.loop-number.places.items c.loop-number.invariant.so_far (sym c.loop-number.invariant.left ∙ (c.in-None.ensures {u = tt}).steps.0)
