use Rattle.std.proofs.Common.{◌+◌, ◌++◌, ℕ, List, None, [], ◌∷◌, refl, ap, ◌∙◌}
use Rattle.slab.specs.Slab.{Slab}
use Rattle.cell_task.specs.declared.task.Task.{Task as LiveTask}
use Rattle.cell_task.specs.declared.tasks.Tasks.TheInside.{Inside}
use Rattle.cell_world.specs.World.{Task}
use Rattle.cell_world.specs.Commands.SpawnCommand.{new_task}
use Rattle.cell_task.specs.Inside.{state_of}
use Rattle.cell_task.specs.State.{TasksState, with_new}
use Rattle.cell_task.proofs.Places.{sound_room, sound_pushed, state_pushed}
use Rattle.cell_task.proofs.tasks.Tasks.spawn.Goals as goal

pub invariant_of-self-in_err-reserve-3 : goal.invariant_of-self-in_err-reserve-3
invariant_of-self-in_err-reserve-3 c =
    sound_room c.self.inside c.self.invariant _ (ap (λ (s : Slab LiveTask). s.slots) c.reserve-3.ensures.rest_kept) c.reserve.ensures.items c.reserve-2.ensures.items refl

pub invariant_of-self-2 : goal.invariant_of-self-2
invariant_of-self-2 c =
    let i = c.self.inside in
    let numbers = (c.in_ok-push.ensures {u = tt}).items ∙ ap (λ (ns : List ℕ). ns ++ i.next ∷ []) c.reserve.ensures.items in
    let keys = (c.in_ok-push-2.ensures {u = tt}).items ∙ ap (λ (ks : List ℕ). ks ++ c.insert_reserved-key.result ∷ []) c.reserve-2.ensures.items in
    sound_pushed i c.self.invariant c.reserve-3.new.self _ c.insert_reserved-key.result _ (ap (λ (s : Slab LiveTask). s.slots) c.reserve-3.ensures.rest_kept)
    c.insert_reserved-key.ensures.was_vacant c.insert_reserved-key.ensures.updates numbers keys refl

pub returns-clause-started : goal.returns-clause-started
returns-clause-started c =
    let i = c.self.inside in
    let numbers = (c.in_ok-push.ensures {u = tt}).items ∙ ap (λ (ns : List ℕ). ns ++ i.next ∷ []) c.reserve.ensures.items in
    let keys = (c.in_ok-push-2.ensures {u = tt}).items ∙ ap (λ (ks : List ℕ). ks ++ c.insert_reserved-key.result ∷ []) c.reserve-2.ensures.items in
    let j : Inside = record { arena = c.insert_reserved-key.new.self; numbers = c.push.new.self; keys = c.push-2.new.self; next = i.next + 1 } in
    state_pushed i c.self.invariant c.reserve-3.new.self j c.insert_reserved-key.result _ (ap (λ (s : Slab LiveTask). s.slots) c.reserve-3.ensures.rest_kept)
    c.insert_reserved-key.ensures.was_vacant c.insert_reserved-key.ensures.updates numbers keys refl
    ∙ ap (λ (pc : ℕ). let t : Task = record { number = i.next; origin = c.args.origin; root = c.args.root.0; stack = c.args.stack; pc = pc; registers = c.begin-hart.result.x; fault = None } in with_new (state_of i) t) c.begin-hart.ensures.pc
    ∙ ap (λ (xs : List ℕ). let t : Task = record { number = i.next; origin = c.args.origin; root = c.args.root.0; stack = c.args.stack; pc = c.args.entry; registers = xs; fault = None } in with_new (state_of i) t) c.begin-hart.ensures.x
    ∙ ap (λ (s : TasksState). with_new s (new_task s.next c.args.root.0 c.args.entry c.args.origin c.args.stack)) c.self.view_is
