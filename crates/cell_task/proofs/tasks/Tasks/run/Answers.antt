use Rattle.std.proofs.Common.{ℕ, List, sym, ap, subst, ◌∙◌, is_some}
use Rattle.std.proofs.lemmas.Bool.{false≢true}
use Rattle.std.proofs.lemmas.List.{get_or_read}
use Rattle.cell_task.specs.Numbers.{HasAt, Lacks}
use Rattle.cell_task.specs.Slices.{Going, begun, run_from}
use Rattle.cell_task.specs.State.{live_in, seen_as}
use Rattle.cell_task.proofs.Places.{not_live, no_value, key_inside}
use Rattle.cell_task.proofs.Ending.{among, ends_run, live_then, mapped_run, stays_run, there, turned_sound}
use Rattle.cell_task.proofs.tasks.Tasks.run.Goals as goal

pub unreachable-requires : goal.unreachable-requires
unreachable-requires c =
    let lacks = subst (λ (ns : List ℕ). Lacks ns c.args.task) c.deref.ensures.value (c.in_default.ensures {u = tt}).absent in
    let none = not_live c.self.inside c.self.invariant c.args.task lacks in
    false≢true (sym (ap is_some none) ∙ ap (λ s. is_some (live_in s c.args.task)) c.self.view_is ∙ c.requires.live)

pub unreachable-requires-in_default-get_mut : goal.unreachable-requires-in_default-get_mut
unreachable-requires-in_default-get_mut c =
    let i = c.self.inside in
    let place = c.in-Some.place in
    let at = subst (λ (ns : List ℕ). HasAt ns place c.args.task) c.deref.ensures.value (c.in-Some.ensures {u = tt}).found in
    let key = get_or_read i.keys.items place c.index.result.now (key_inside i c.self.invariant place c.args.task at) c.index.ensures 0 in
    no_value i c.self.invariant place c.args.task at c.index.result.now key (c.in_default-get_mut.ensures {u = tt}).value

pub invariant_of-self : goal.invariant_of-self
invariant_of-self c =
    let i = c.self.inside in
    let place = c.in-Some.place in
    let at = subst (λ (ns : List ℕ). HasAt ns place c.args.task) c.deref.ensures.value (c.in-Some.ensures {u = tt}).found in
    let key = get_or_read i.keys.items place c.index.result.now (key_inside i c.self.invariant place c.args.task at) c.index.ensures 0 in
    turned_sound i c.self.invariant c.args.self.now c.self.view_is place c.args.task at c.index.result.now key c.in-Some-get_mut.live.now c.run-ran.new.self (c.in-Some-get_mut.ensures {u = tt}).value

pub kill-stack-requires : goal.kill-stack-requires
kill-stack-requires c =
    let i = c.self.inside in
    let place = c.in-Some.place in
    let at = subst (λ (ns : List ℕ). HasAt ns place c.args.task) c.deref.ensures.value (c.in-Some.ensures {u = tt}).found in
    let key = get_or_read i.keys.items place c.index.result.now (key_inside i c.self.invariant place c.args.task at) c.index.ensures 0 in
    live_then i c.self.invariant c.args.self.now c.self.view_is place c.args.task at c.index.result.now key c.in-Some-get_mut.live.now c.run-ran.new.self (c.in-Some-get_mut.ensures {u = tt}).value

pub unmap-requires : goal.unmap-requires
unmap-requires c =
    let i = c.self.inside in
    let place = c.in-Some.place in
    let at = subst (λ (ns : List ℕ). HasAt ns place c.args.task) c.deref.ensures.value (c.in-Some.ensures {u = tt}).found in
    let key = get_or_read i.keys.items place c.index.result.now (key_inside i c.self.invariant place c.args.task at) c.index.ensures 0 in
    let x : Going = run_from c.args.slice.turns c.args.slice.until_yield c.args.task (begun c.args.self.now c.args.memory.now c.args.out.now.items) in
    let ran = c.run-ran.ensures.run c.args.self.now c.args.task (among i c.self.invariant c.args.self.now c.self.view_is place c.args.task at c.index.result.now key c.in-Some-get_mut.live.now c.run-ran.new.self (c.in-Some-get_mut.ensures {u = tt}).value) in
    mapped_run i c.self.invariant c.args.self.now c.self.view_is place c.args.task at c.index.result.now key c.in-Some-get_mut.live.now c.run-ran.new.self (c.in-Some-get_mut.ensures {u = tt}).value c.run-ran.new.memory x c.run-ran.result c.run-ran.new.out.items ran c.kill-stack.result c.kill-stack.ensures.stack
    (c.run-ran.ensures.mapped (c.requires.stack (seen_as c.args.task c.in-Some-get_mut.live.now) (there i c.self.invariant c.args.self.now c.self.view_is place c.args.task at c.index.result.now key c.in-Some-get_mut.live.now c.run-ran.new.self (c.in-Some-get_mut.ensures {u = tt}).value)))

pub invariant_of-self-in_default-state : goal.invariant_of-self-in_default-state
invariant_of-self-in_default-state c =
    let i = c.self.inside in
    let place = c.in-Some.place in
    let at = subst (λ (ns : List ℕ). HasAt ns place c.args.task) c.deref.ensures.value (c.in-Some.ensures {u = tt}).found in
    let key = get_or_read i.keys.items place c.index.result.now (key_inside i c.self.invariant place c.args.task at) c.index.ensures 0 in
    turned_sound i c.self.invariant c.args.self.now c.self.view_is place c.args.task at c.index.result.now key c.in-Some-get_mut.live.now c.run-ran.new.self (c.in-Some-get_mut.ensures {u = tt}).value

pub returns-in-Done : goal.returns-in-Done
returns-in-Done c =
    let i = c.self.inside in
    let place = c.in-Some.place in
    let at = subst (λ (ns : List ℕ). HasAt ns place c.args.task) c.deref.ensures.value (c.in-Some.ensures {u = tt}).found in
    let key = get_or_read i.keys.items place c.index.result.now (key_inside i c.self.invariant place c.args.task at) c.index.ensures 0 in
    let x : Going = run_from c.args.slice.turns c.args.slice.until_yield c.args.task (begun c.args.self.now c.args.memory.now c.args.out.now.items) in
    let ran = c.run-ran.ensures.run c.args.self.now c.args.task (among i c.self.invariant c.args.self.now c.self.view_is place c.args.task at c.index.result.now key c.in-Some-get_mut.live.now c.run-ran.new.self (c.in-Some-get_mut.ensures {u = tt}).value) in
    ends_run i c.self.invariant c.args.self.now c.self.view_is place c.args.task at c.index.result.now key c.in-Some-get_mut.live.now c.run-ran.new.self (c.in-Some-get_mut.ensures {u = tt}).value c.run-ran.new.memory x c.run-ran.result c.run-ran.new.out.items ran c.kill-stack.result c.kill-stack.ensures.stack c.in-Done.field-0 c.kill-stack.new.self c.unmap.new.self c.in-Done.is c.kill-stack.ensures.gone c.unmap.ensures

pub returns-in_default-state : goal.returns-in_default-state
returns-in_default-state c =
    let i = c.self.inside in
    let place = c.in-Some.place in
    let at = subst (λ (ns : List ℕ). HasAt ns place c.args.task) c.deref.ensures.value (c.in-Some.ensures {u = tt}).found in
    let key = get_or_read i.keys.items place c.index.result.now (key_inside i c.self.invariant place c.args.task at) c.index.ensures 0 in
    let x : Going = run_from c.args.slice.turns c.args.slice.until_yield c.args.task (begun c.args.self.now c.args.memory.now c.args.out.now.items) in
    let ran = c.run-ran.ensures.run c.args.self.now c.args.task (among i c.self.invariant c.args.self.now c.self.view_is place c.args.task at c.index.result.now key c.in-Some-get_mut.live.now c.run-ran.new.self (c.in-Some-get_mut.ensures {u = tt}).value) in
    stays_run i c.self.invariant c.args.self.now c.self.view_is place c.args.task at c.index.result.now key c.in-Some-get_mut.live.now c.run-ran.new.self (c.in-Some-get_mut.ensures {u = tt}).value c.run-ran.new.memory x c.run-ran.result c.run-ran.new.out.items ran c.in_default-state.not-Done
