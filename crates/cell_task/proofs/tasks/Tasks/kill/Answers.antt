use Rattle.std.proofs.Common.{ℕ, List, refl, sym, ap, subst, ◌∙◌, is_some}
use Rattle.std.specs.Prelude.{option_map}
use Rattle.std.proofs.lemmas.Bool.{false≢true}
use Rattle.std.proofs.lemmas.List.{get_or_read}
use Rattle.slab.specs.Slab.{get}
use Rattle.cell_task.specs.declared.tasks.Tasks.TheInside.{Inside}
use Rattle.cell_task.specs.Numbers.{HasAt, Lacks}
use Rattle.cell_task.specs.State.{live_in, without}
use Rattle.cell_task.proofs.Places.{not_live, no_value, key_inside, live_at, sound_removed, state_removed}
use Rattle.cell_task.proofs.tasks.Tasks.kill.Goals as goal

pub unreachable-requires : goal.unreachable-requires
unreachable-requires c =
    let lacks = subst (λ (ns : List ℕ). Lacks ns c.args.task) c.deref.ensures.value (c.in_default.ensures {u = tt}).absent in
    let none = not_live c.self.inside c.self.invariant c.args.task lacks in
    false≢true (sym (ap is_some none) ∙ ap (λ s. is_some (live_in s c.args.task)) c.self.view_is ∙ c.requires)

pub unreachable-requires-in-None : goal.unreachable-requires-in-None
unreachable-requires-in-None c =
    let i = c.self.inside in
    let place = c.in-Some.place in
    let at = subst (λ (ns : List ℕ). HasAt ns place c.args.task) c.deref.ensures.value (c.in-Some.ensures {u = tt}).found in
    let key = get_or_read i.keys.items place c.remove-key.result (key_inside i c.self.invariant place c.args.task at) c.remove-key.ensures.value 0 in
    no_value i c.self.invariant place c.args.task at c.remove-key.result key (c.in-None.ensures {u = tt}).value

pub invariant_of-self : goal.invariant_of-self
invariant_of-self c =
    let i = c.self.inside in
    let place = c.in-Some.place in
    let at = subst (λ (ns : List ℕ). HasAt ns place c.args.task) c.deref.ensures.value (c.in-Some.ensures {u = tt}).found in
    let key = get_or_read i.keys.items place c.remove-key.result (key_inside i c.self.invariant place c.args.task at) c.remove-key.ensures.value 0 in
    sound_removed i c.self.invariant place c.args.task at _ c.remove-key.result key c.try_remove.ensures.updates c.remove.ensures.items c.remove-key.ensures.items refl

pub returns-clause-stack : goal.returns-clause-stack
returns-clause-stack c =
    let i = c.self.inside in
    let place = c.in-Some.place in
    let at = subst (λ (ns : List ℕ). HasAt ns place c.args.task) c.deref.ensures.value (c.in-Some.ensures {u = tt}).found in
    let key = get_or_read i.keys.items place c.remove-key.result (key_inside i c.self.invariant place c.args.task at) c.remove-key.ensures.value 0 in
    let task = c.in-Some-try_remove.task in
    let live = live_at i c.self.invariant place c.args.task at task (sym ((c.in-Some-try_remove.ensures {u = tt}).value ∙ ap (get i.arena) key)) in
    ap (option_map (λ t. t.stack)) (sym (ap (λ s. live_in s c.args.task) c.self.view_is) ∙ live)

pub returns-clause-gone : goal.returns-clause-gone
returns-clause-gone c =
    let i = c.self.inside in
    let place = c.in-Some.place in
    let at = subst (λ (ns : List ℕ). HasAt ns place c.args.task) c.deref.ensures.value (c.in-Some.ensures {u = tt}).found in
    let key = get_or_read i.keys.items place c.remove-key.result (key_inside i c.self.invariant place c.args.task at) c.remove-key.ensures.value 0 in
    let j : Inside = record { arena = c.try_remove.new.self; numbers = c.remove.new.self; keys = c.remove-key.new.self; next = i.next } in
    state_removed i c.self.invariant place c.args.task at j c.remove-key.result key c.try_remove.ensures.updates c.remove.ensures.items c.remove-key.ensures.items refl
    ∙ ap (λ s. without s c.args.task) c.self.view_is
