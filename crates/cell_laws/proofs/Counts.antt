-- Each reply says how many cells came and went.
use Rattle.std.proofs.Common.{◌≡◌, refl, ◌∙◌, ap, subst, arith, ℕ, List, [], length, Ok}
use Rattle.std.specs.Prelude.{is_none, nat_le, nat_lt, decimal}
use Rattle.cell_world.specs.declared.command.Command.{Command}
use Rattle.cell_world.specs.declared.command.Command.TheVariants.{Ns, Load, Spawn, Step, Run, Kill, Swap, Unload, Purge, Tasks, Find, Deps, Users, Map, Dump, DumpAll, Recover, Rebuild, Clone}
use Rattle.cell_num.specs.declared.ids.CellId.{CellId}
use Rattle.cell_world.specs.declared.refusal.Many.TheVariants.{Namespaces, Tasks as ManyTasks, TaskNumbers}
use Rattle.cell_world.specs.declared.refusal.Refusal.TheVariants.{NameTaken, NoEntry, TooMany, Unknown}
use Rattle.cell_world.specs.World.{World, Cell}
use Rattle.cell_world.specs.Answer.{Done, fresh_by, live_task, present_cell, space_of}
use Rattle.cell_world.specs.Coherent.{IsCoherent}
use Rattle.cell_world.specs.Commands.DumpCommand.{next_dump}
use Rattle.cell_world.specs.Gather.{Source}
use Rattle.cell_num.specs.Limits.{max_namespaces, max_tasks, max_task_number}
use Rattle.cell_world.specs.Names.{namespace_named}
use Rattle.cell_world.specs.Next.{outcome_of}
use Rattle.cell_world.specs.Commands.NsCommand.{next_ns}
use Rattle.cell_world.specs.Outcome.{found, need}
use Rattle.cell_world.specs.Placed.Place.{start_of_run}
use Rattle.cell_world.specs.Commands.SpawnCommand.{entry_named, next_spawn}
use Rattle.cell_world.specs.Commands.TaskCommands.{can_run, next_run, next_step}
use Rattle.cell_object.specs.Parts.{section_of}
use Rattle.cell_lemmas.proofs.Naming.Appended.{ok_same}
use Rattle.cell_lemmas.proofs.Outcomes.{bind_ok, then_ok}
use Rattle.cell_lemmas.proofs.Tasks.Commands.{run_cells, step_cells}
use Rattle.cell_laws.specs.Counts.{removed_by}
use Rattle.cell_laws.proofs.Counted.{CountsCells}
use Rattle.cell_laws.proofs.CountsChange.{clone_counts, load_counts, rebuild_counts, recover_counts, swap_counts}
use Rattle.cell_laws.proofs.CountsRemoval.{purge_counts, unload_counts}

module _ (sources : List Source) (w : World) (h : IsCoherent w) (d : Done) where
  -- the reply names no cell, and there are those that there were
  leaves : (x : Done) → x ≡ d → fresh_by x.reply ≡ [] → removed_by x.reply ≡ [] → x.world.cells ≡ w.cells → CountsCells w d
  leaves x is fresh removed cells = subst (CountsCells w) is (record {
    counted = omega (arith, ap (λ (xs : List Cell). length xs) cells, ap (λ (xs : List CellId). length xs) fresh, ap (λ (xs : List CellId). length xs) removed);
    room = omega (arith, ap (λ (xs : List CellId). length xs) fresh, h.ready.few_cells);
  })

  ns_counts : (name parent : List ℕ) → next_ns w name parent ≡ Ok d → CountsCells w d
  ns_counts name parent e =
      let a = bind_ok (space_of w parent) _ d e in
      let b = then_ok (need (is_none (namespace_named w name)) (NameTaken name)) _ d a.2 in
      let c = then_ok (need (nat_lt (length w.namespaces) max_namespaces) (TooMany Namespaces max_namespaces)) _ d b.2 in
      leaves _ (ok_same _ d c.2) refl refl refl

  spawn_counts : (name symbol : List ℕ) (arg : ℕ) → next_spawn w name symbol arg ≡ Ok d → CountsCells w d
  spawn_counts name symbol arg e =
      let ns = bind_ok (space_of w name) _ d e in
      let few = then_ok (need (nat_lt (length w.tasks) max_tasks) (TooMany ManyTasks max_tasks)) _ d ns.2 in
      let free = then_ok (need (nat_le w.next_task max_task_number) (TooMany TaskNumbers max_task_number)) _ d few.2 in
      let entry = bind_ok (found (entry_named w ns.0 symbol) (NoEntry symbol)) _ d free.2 in
      let stack = bind_ok (start_of_run w 4) _ d entry.2 in
      leaves _ (ok_same _ d stack.2) refl refl refl

  step_counts : (task n : ℕ) → next_step w task n ≡ Ok d → CountsCells w d
  step_counts task n e =
      let a = bind_ok (live_task w task) _ d e in
      let b = then_ok (can_run a.0) _ d a.2 in
      let is = ok_same _ d b.2 in
      leaves _ is refl refl (ap (λ (x : Done). x.world.cells) is ∙ ap (λ (v : World). v.cells) (step_cells w task n d e))

  run_counts : (n : ℕ) → next_run w n ≡ Ok d → CountsCells w d
  run_counts n e = let is = ok_same _ d e in leaves _ is refl refl (ap (λ (x : Done). x.world.cells) is ∙ ap (λ (v : World). v.cells) (run_cells w n d e))

  dump_counts : (cell section : ℕ) → next_dump w cell section ≡ Ok d → CountsCells w d
  dump_counts cell section e =
      let a = bind_ok (present_cell w cell) _ d e in
      let b = bind_ok (found (section_of a.0.object section) (Unknown (decimal section))) _ d a.2 in
      leaves _ (ok_same _ d b.2) refl refl refl

  pub outcome_counts : (command : Command) → outcome_of sources w command ≡ Ok d → CountsCells w d
  outcome_counts (Ns name parent) e = ns_counts name parent e
  outcome_counts (Load name stem) e = load_counts sources w h name stem d e
  outcome_counts (Find name symbol) e = leaves _ (ok_same _ d (bind_ok (space_of w name) _ d e).2) refl refl refl
  outcome_counts (Spawn name symbol arg) e = spawn_counts name symbol arg e
  outcome_counts (Step task n) e = step_counts task n e
  outcome_counts (Run n) e = run_counts n e
  outcome_counts (Kill task) e = leaves _ (ok_same _ d (bind_ok (live_task w task) _ d e).2) refl refl refl
  outcome_counts (Swap items reexport strict routines budget) e = swap_counts sources w h items reexport strict routines budget d e
  outcome_counts (Unload cells) e = unload_counts w h d cells e
  outcome_counts Purge e = purge_counts w h d e
  outcome_counts Tasks e = leaves _ (ok_same _ d e) refl refl refl
  outcome_counts (Deps cell) e = leaves _ (ok_same _ d (bind_ok (present_cell w cell) _ d e).2) refl refl refl
  outcome_counts (Users cell) e = leaves _ (ok_same _ d (bind_ok (present_cell w cell) _ d e).2) refl refl refl
  outcome_counts Map e = leaves _ (ok_same _ d e) refl refl refl
  outcome_counts (Dump cell section) e = dump_counts cell section e
  outcome_counts DumpAll e = leaves _ (ok_same _ d e) refl refl refl
  outcome_counts (Recover task) e = recover_counts sources w h task d e
  outcome_counts (Rebuild task) e = rebuild_counts sources w h task d e
  outcome_counts (Clone name sibling) e = clone_counts sources w h name sibling d e
