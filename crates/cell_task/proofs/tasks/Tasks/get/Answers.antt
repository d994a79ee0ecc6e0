use Rattle.std.proofs.Common.{◌≡◌, ℕ, List, Option, None, Bor, sym, ap, subst, ◌∙◌}
use Rattle.std.specs.Prelude.{option_map}
use Rattle.std.proofs.lemmas.List.{get_or_read}
use Rattle.cell_task.specs.declared.task.Task.{Task as LiveTask}
use Rattle.cell_task.specs.Numbers.{HasAt, Lacks}
use Rattle.cell_task.specs.State.{TasksState, live_in, seen_as}
use Rattle.cell_task.proofs.Places.{not_live, got_is, key_inside}
use Rattle.cell_task.proofs.tasks.Tasks.get.Goals as goal

none_got : (s : TasksState) (task : ℕ) (o : Option (Bor LiveTask)) → o ≡ None → live_in s task ≡ None → option_map (λ t. seen_as task t.now) o ≡ live_in s task
none_got s task o e none = ap (option_map (λ (t : Bor LiveTask). seen_as task t.now)) e ∙ sym none

pub returns-in_err-place : goal.returns-in_err-place
returns-in_err-place c =
    let lacks = subst (λ (ns : List ℕ). Lacks ns c.args.task) c.deref.ensures.value (c.in_err-place.ensures {u = tt}).absent in
    none_got c.args.self.now c.args.task c.from_residual.result c.from_residual.ensures
    (sym (ap (λ s. live_in s c.args.task) c.self.view_is) ∙ not_live c.self.inside c.self.invariant c.args.task lacks)

pub returns : goal.returns
returns c =
    let i = c.self.inside in
    let at = subst (λ (ns : List ℕ). HasAt ns c.in_ok-place.place c.args.task) c.deref.ensures.value (c.in_ok-place.ensures {u = tt}).found in
    let key = get_or_read i.keys.items c.in_ok-place.place c.index.result.now (key_inside i c.self.invariant c.in_ok-place.place c.args.task at) c.index.ensures 0 in
    got_is i c.self.invariant c.in_ok-place.place c.args.task at c.get.result c.index.result.now key c.get.ensures ∙ ap (λ s. live_in s c.args.task) c.self.view_is
