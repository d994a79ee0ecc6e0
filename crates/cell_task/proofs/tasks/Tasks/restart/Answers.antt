use Rattle.std.proofs.Common.{ℕ, List, sym, ap, subst, ◌∙◌, is_some}
use Rattle.std.proofs.lemmas.Bool.{false≢true}
use Rattle.std.proofs.lemmas.List.{get_or_read}
use Rattle.cell_task.specs.Numbers.{HasAt, Lacks}
use Rattle.cell_task.specs.State.{live_in}
use Rattle.cell_task.proofs.Places.{not_live, no_value, key_inside}
use Rattle.cell_task.proofs.Ending.{turned_sound}
use Rattle.cell_task.proofs.Restarting.{begun_view, cleared_for, may_clear, stack_low}
use Rattle.cell_task.proofs.tasks.Tasks.restart.Goals as goal

pub unreachable-requires : goal.unreachable-requires
unreachable-requires c =
    let lacks = subst (λ (ns : List ℕ). Lacks ns c.args.task) c.deref.ensures.value (c.in_default.ensures {u = tt}).absent in
    let none = not_live c.self.inside c.self.invariant c.args.task lacks in
    false≢true (sym (ap is_some none) ∙ ap (λ s. is_some (live_in s c.args.task)) c.self.view_is ∙ c.requires.live)

pub unreachable-requires-in_default-get_mut : goal.unreachable-requires-in_default-get_mut
unreachable-requires-in_default-get_mut c =
    let i = c.self.inside in
    let place = c.in-Some.place in
    let at = subst (λ (ns : List ℕ). HasAt ns place c.args.task) c.deref.ensures.value (c.in-Some.ensures {u = tt}).found in
    let key = get_or_read i.keys.items place c.index.result.now (key_inside i c.self.invariant place c.args.task at) c.index.ensures 0 in
    no_value i c.self.invariant place c.args.task at c.index.result.now key (c.in_default-get_mut.ensures {u = tt}).value

pub begin_again-requires : goal.begin_again-requires
begin_again-requires c =
    let i = c.self.inside in
    let place = c.in-Some.place in
    let at = subst (λ (ns : List ℕ). HasAt ns place c.args.task) c.deref.ensures.value (c.in-Some.ensures {u = tt}).found in
    let key = get_or_read i.keys.items place c.index.result.now (key_inside i c.self.invariant place c.args.task at) c.index.ensures 0 in
    stack_low i c.self.invariant c.args.self.now c.self.view_is place c.args.task at c.index.result.now key c.in-Some-get_mut.live.now c.in-Some-get_mut.live.now (c.in-Some-get_mut.ensures {u = tt}).value c.args.memory.now c.requires.stack

pub clear_stack-requires-clause-stack : goal.clear_stack-requires-clause-stack
clear_stack-requires-clause-stack c =
    let i = c.self.inside in
    let place = c.in-Some.place in
    let at = subst (λ (ns : List ℕ). HasAt ns place c.args.task) c.deref.ensures.value (c.in-Some.ensures {u = tt}).found in
    let key = get_or_read i.keys.items place c.index.result.now (key_inside i c.self.invariant place c.args.task at) c.index.ensures 0 in
    may_clear i c.self.invariant c.args.self.now c.self.view_is place c.args.task at c.index.result.now key c.in-Some-get_mut.live.now c.begin_again.new.self (c.in-Some-get_mut.ensures {u = tt}).value c.args.memory.now c.requires.stack

pub invariant_of-self : goal.invariant_of-self
invariant_of-self c =
    let i = c.self.inside in
    let place = c.in-Some.place in
    let at = subst (λ (ns : List ℕ). HasAt ns place c.args.task) c.deref.ensures.value (c.in-Some.ensures {u = tt}).found in
    let key = get_or_read i.keys.items place c.index.result.now (key_inside i c.self.invariant place c.args.task at) c.index.ensures 0 in
    turned_sound i c.self.invariant c.args.self.now c.self.view_is place c.args.task at c.index.result.now key c.in-Some-get_mut.live.now c.begin_again.new.self (c.in-Some-get_mut.ensures {u = tt}).value

pub returns-clause-tasks : goal.returns-clause-tasks
returns-clause-tasks c =
    let i = c.self.inside in
    let place = c.in-Some.place in
    let at = subst (λ (ns : List ℕ). HasAt ns place c.args.task) c.deref.ensures.value (c.in-Some.ensures {u = tt}).found in
    let key = get_or_read i.keys.items place c.index.result.now (key_inside i c.self.invariant place c.args.task at) c.index.ensures 0 in
    begun_view i c.self.invariant c.args.self.now c.self.view_is place c.args.task at c.index.result.now key c.in-Some-get_mut.live.now c.begin_again.new.self (c.in-Some-get_mut.ensures {u = tt}).value (c.args.root.0, c.args.entry) (c.begin_again.ensures c.args.task)

pub returns-clause-memory : goal.returns-clause-memory
returns-clause-memory c =
    let i = c.self.inside in
    let place = c.in-Some.place in
    let at = subst (λ (ns : List ℕ). HasAt ns place c.args.task) c.deref.ensures.value (c.in-Some.ensures {u = tt}).found in
    let key = get_or_read i.keys.items place c.index.result.now (key_inside i c.self.invariant place c.args.task at) c.index.ensures 0 in
    cleared_for i c.self.invariant c.args.self.now c.self.view_is place c.args.task at c.index.result.now key c.in-Some-get_mut.live.now c.begin_again.new.self (c.in-Some-get_mut.ensures {u = tt}).value c.args.memory.now c.clear_stack.new.memory c.clear_stack.ensures
