-- The machine once its task has begun again.
use Rattle.std.proofs.Common.{◌≡◌, refl, sym, ap, ap₂, subst, ◌∙◌, ℕ, Bool, true, false, cond, inr, List, [], ◌∷◌, ◌++◌, Option, Some, None, map}
use Rattle.std.specs.Prelude.{◌==◌, ◌||◌, Ok, flat_map, is_some}
use Rattle.std.proofs.lemmas.List.{map-append}
use Rattle.cell_num.specs.Lists.{In}
use Rattle.cell_num.specs.declared.ids.CellId.{CellId}
use Rattle.cell_num.proofs.Elements.{found-In}
use Rattle.cell_hold.specs.declared.roots.Root.{Root}
use Rattle.cell_hold.specs.declared.roots.Root.TheVariants.{Attached as AttachedRoot, Task as TaskRoot}
use Rattle.cell_hold.specs.declared.roots.TaskView.{TaskView}
use Rattle.cell_world.specs.Change.{Change as ChangeSaid, first_held_old, with_sequel}
use Rattle.cell_world.specs.Coherent.{IsCoherent}
use Rattle.cell_world.specs.Commands.MapCommand.{group_of}
use Rattle.cell_world.specs.Outcome.{Outcome, ◌>>=◌, ◌>>◌, refused_by}
use Rattle.cell_world.specs.Running.Execute.{seen_in}
use Rattle.cell_world.specs.Running.Restart.{cleared, entry_again, restart, restart_by, restarted}
use Rattle.cell_world.specs.Running.Turn.{with_task}
use Rattle.cell_world.specs.World.{Cell, Task, World, cell_of}
use Rattle.cell_world.specs.declared.refusal.Refusal.{Refusal}
use Rattle.cell_world.specs.declared.state.NewCell.{NewCell}
use Rattle.cell_lemmas.proofs.Tasks.Executed.{Stored}
use Rattle.cell_lemmas.proofs.Tasks.Restarted.{restart_coherent, stack_free, stack_written, zeros}
use Rattle.cell_lemmas.proofs.Tasks.Spawned.{entry_present}
use Rattle.cell_change_law.proofs.Ending.{second_parts}
use Rattle.cell_schedule.proofs.Regions.{table_stored}
use Rattle.cell_task.specs.State.{TasksState, live_in}
use Rattle.cell_mem.specs.State.{MemoryState}
use Rattle.cell_machine.specs.declared.machine.Machine.{Machine}
use Rattle.cell_machine.specs.Machine.{IsSound, IsWhole, world_of}
use Rattle.cell_unload.specs.declared.outlook.Outlook.{Outlook}
use Rattle.cell_unload.specs.declared.survey.Survey.{Survey}
use Rattle.cell_unload.specs.Begun.{is_aside, renewed_root, root_of, root_of_task}
use Rattle.cell_change.specs.declared.ready.Ready.{Ready}
use Rattle.cell_change.specs.declared.request.Change.{Change}
use Rattle.cell_change.specs.declared.request.Ending.{Ending}
use Rattle.cell_change.specs.declared.request.Ending.TheVariants.{Lenient, Strict, Restart}
use Rattle.cell_change.specs.Asking.{is_strict, restart_by as restart_by_ending}
use Rattle.cell_change.specs.Entering.{HasEntered, HasTried, IsEntered, LooksBy, Reads}
use Rattle.cell_change.specs.Exchanged.{AreRoots, CanFinish, ended}
use Rattle.cell_change.specs.Planning.{IsBegunBy, Looks, wish}
use Rattle.cell_change.specs.Restarting.{CanRestart, HasRestarted, Renews, view_as, with_restarted}
use Rattle.cell_change.proofs.Arrival.ChangeOutlook.{new_root, outlook_after}
use Rattle.cell_change.proofs.Arrival.Suspended.{suspended, whole_suspended}
use Rattle.cell_change.proofs.ChangeFinished.{fresh_is, new, stand}

-- where a task begins again no kept cell is a refusal
restarts_lenient : (ending : Ending) {task : ℕ} → restart_by_ending ending ≡ Some task → is_strict ending ≡ false
restarts_lenient Lenient e = refl
restarts_lenient Strict e = absurd cc
restarts_lenient (Restart task) e = refl

-- what a restart leaves once an undo is forgotten
pub restarted_so : (n : Machine) (task : ℕ) (old : Option Outlook) (s : MemoryState) (out : s ≡ record n.memory { undo = None }) (l : Machine) (new : Option Outlook)
    → ((c : CanRestart (record n { memory = s }) task) → HasRestarted c old l new) → (c : CanRestart (suspended n) task) → HasRestarted c old l new
restarted_so n task old s out l new has c =
    subst (λ (memory : MemoryState). (d : CanRestart (record n { memory = memory }) task) → HasRestarted d old l new) out has c

-- what begins in cells stays, and the task's own root is the new one
module _ (t : Task) where
  abbrev view : TaskView
  view = view_as t

  same_attached : (aside : List CellId) (cells : List Cell) → map (renewed_root view) (flat_map (root_of aside) cells) ≡ flat_map (root_of aside) cells
  same_attached aside [] = refl
  same_attached aside (c ∷ cells) =
      map-append (renewed_root view) (root_of aside c) (flat_map (root_of aside) cells)
      ∙ ap₂ (λ (xs ys : List Root). xs ++ ys) (one (is_some (group_of c.standing)) (is_aside aside c.id)) (same_attached aside cells)
    where
      one : (a b : Bool) → map (renewed_root view) (cond (a || b) [] (AttachedRoot c.id ∷ [])) ≡ cond (a || b) [] (AttachedRoot c.id ∷ [])
      one true b = refl
      one false true = refl
      one false false = refl

  same_new : (cells : List NewCell) → map (renewed_root view) (map new_root cells) ≡ map new_root cells
  same_new [] = refl
  same_new (c ∷ cells) = ap (λ (rs : List Root). new_root c ∷ rs) (same_new cells)

  renewed_tasks : (tasks : List Task) → map (renewed_root view) (map root_of_task tasks) ≡ map root_of_task (with_task t tasks)
  renewed_tasks [] = refl
  renewed_tasks (u ∷ tasks) = ap₂ (λ (r : Root) (rs : List Root). r ∷ rs) (one (u.number == t.number)) (renewed_tasks tasks)
    where
      one : (b : Bool) → cond b (TaskRoot view) (root_of_task u) ≡ root_of_task (cond b t u)
      one true = refl
      one false = refl

  pub renewed_roots : (aside : List CellId) (cells : List Cell) (tasks : List Task) (fresh : List NewCell)
      → map (renewed_root view) ((flat_map (root_of aside) cells ++ map root_of_task tasks) ++ map new_root fresh) ≡ (flat_map (root_of aside) cells ++ map root_of_task (with_task t tasks)) ++ map new_root fresh
  renewed_roots aside cells tasks fresh =
      map-append (renewed_root view) (flat_map (root_of aside) cells ++ map root_of_task tasks) (map new_root fresh)
      ∙ ap₂ (λ (xs ys : List Root). xs ++ ys)
      (map-append (renewed_root view) (flat_map (root_of aside) cells) (map root_of_task tasks) ∙ ap₂ (λ (xs ys : List Root). xs ++ ys) (same_attached aside cells) (renewed_tasks tasks))
      (same_new fresh)

-- what names an entry is no matter of memory and tasks
entry_as_linked : (w v : World) (t : Task) → record w { regions = v.regions } ≡ v → entry_again w t ≡ entry_again v t
entry_as_linked w v t e = ap (λ (u : World). entry_again u t) e

module _ {first : Machine} {asked : Change} {r : Ready} {q : CanFinish first asked r} {outlook : Option Outlook} {n : Machine} (e : IsEntered q outlook n) (task : ℕ) (b : IsBegunBy q.before asked q.is.plan task) where
  abbrev change : ChangeSaid
  change = wish q.is.begun

  -- no undo goes on
  pub sound_then : IsSound (suspended n)
  sound_then = let w = whole_suspended n e.entered.whole in record { coherent = w.coherent; parts = w.parts; undo = refl }

  pub live_then : live_in n.tasks task ≡ Some b.t
  live_then = ap (λ (ts : TasksState). live_in ts task) e.tasks ∙ b.live

  pub there_then : entry_again (world_of n) b.t ≡ Some b.entry
  there_then = entry_as_linked (world_of n) q.is.plan.linked b.t (second_parts change q.is.plan (world_of n) e.is) ∙ b.there

  abbrev pub can_restart : CanRestart (suspended n) task
  can_restart = record {
    sound = sound_then;
    t = b.t;
    live = live_then;
    entry = b.entry;
    there = there_then;
  }

  abbrev begun : Task
  begun = restarted b.t b.entry

  abbrev w : World
  w = world_of n

  there : In b.t w.tasks
  there = (found-In (λ (u : Task). u.number == task) w.tasks b.t live_then).0

  present : is_some (cell_of w b.entry.0) ≡ true
  present = entry_present w b.t.origin.ns b.t.origin.name b.entry there_then

  coherent : IsCoherent (restart begun w)
  coherent = restart_coherent w e.entered.whole.coherent b.t there b.entry present

  stored : Stored (seen_in w) (map (cleared b.t.stack) w.regions)
  stored = inr (record { addr = b.t.stack; new = zeros; may = stack_written w e.entered.whole.coherent b.t there; free = stack_free w e.entered.whole.coherent b.t there; is = refl })

  abbrev last : Machine
  last = with_restarted (suspended n) begun

  pub last_sound : IsSound last
  last_sound = record {
    coherent = coherent;
    parts = record {
      joined = sound_then.joined;
      table = sound_then.table ∙ sym (table_stored w e.entered.whole.coherent (map (cleared b.t.stack) w.regions) stored);
      base = sound_then.base;
      soft = sound_then.soft;
      sections = sound_then.sections;
      seals = sound_then.seals;
      patches = sound_then.patches;
      maps = sound_then.maps;
    };
    undo = refl;
  }

  -- what the change comes to
  sequel : with_sequel change q.is.plan ≡ Ok (world_of last)
  sequel =
      ap (λ (x : Outcome World). x >>= (λ second. let y : Outcome World = Ok (restart_by q.is.plan.restarted second) in y)) e.is
      ∙ ap (λ (o : Option Task). let y : Outcome World = Ok (restart_by o w) in y) b.is

  lenient : change.strict ≡ false
  lenient = restarts_lenient asked.options.ending b.named

  not_held : first_held_old change (world_of last) ≡ None
  not_held = unheld change.strict lenient
    where
      unheld : (strict : Bool) → strict ≡ false → first_held_old (record change { strict = strict }) (world_of last) ≡ None
      unheld true s = absurd cc
      unheld false s = refl

  ends : ended change q.is.plan ≡ Ok (world_of last)
  ends =
      ap (λ (x : Outcome World). x >>= (λ last. refused_by (first_held_old change last) >> Ok last)) sequel
      ∙ ap (λ (x : Option Refusal). refused_by x >> (let y : Outcome World = Ok (world_of last) in y)) not_held

  -- where holding begins then
  looked : (o : Option Outlook) → Renews begun outlook o → LooksBy last asked.replaced.items o
  looked o renews = subst (λ (old : Option Outlook). Renews begun old o → LooksBy last asked.replaced.items o) (sym e.outlook_is) (go q.is.roots q.is.rooted q.plan_before.outlook q.is.looks o) renews
    where
      go : (roots : Option (List Root)) → AreRoots q.is.begun.before asked.replaced.items roots → (old : Option Outlook) → Looks q.before q.plan_before.staged.cells.items roots old → (o : Option Outlook) → Renews begun old o → LooksBy last asked.replaced.items o
      go None none None looks None x = none
      go None none None looks (Some o) x = absurd x
      go None none (Some old) looks o x = absurd looks
      go (Some roots) some None looks o x = absurd looks
      go (Some roots) some (Some old) looks None x = absurd x
      go (Some roots) some (Some old) looks (Some o) x = (
        some.0,
        outlook_after q.is.begun.before asked.replaced.items q.before last q.is.begun.sound q.is.begun.aside last_sound (new q.before q.plan_before q.is q.room r q.ready)
            (e.entered.cells ∙ ap (λ (cs : List Cell). (world_of q.before).cells ++ cs) (fresh_is q.before q.plan_before q.is q.room r q.ready))
            (stand q.before q.plan_before q.is q.room r q.ready) q.plan_before.staged.cells.items q.is.ready.staged.cells e.entered.placed o
            (x.0 ∙ looks.places)
            (x.1
            ∙ (ap (map (renewed_root (view_as begun))) (looks.rooted ∙ ap (λ (rs : List Root). rs ++ map new_root q.plan_before.staged.cells.items) some.1)
            ∙ (renewed_roots begun asked.replaced.items (world_of q.is.begun.before).cells q.is.begun.before.tasks.tasks q.plan_before.staged.cells.items
            ∙ ap (λ (ts : TasksState). (flat_map (root_of asked.replaced.items) (world_of q.is.begun.before).cells ++ map root_of_task (with_task begun ts.tasks)) ++ map new_root q.plan_before.staged.cells.items) (sym (e.tasks ∙ q.is.begun.aside.tasks))))),
      )

  module _ (l : Machine) (o : Option Outlook) (has : HasRestarted can_restart outlook l o) where
    pub whole_then : IsWhole l
    whole_then = subst IsWhole (sym has.begun) (record { coherent = last_sound.coherent; parts = last_sound.parts })

    pub looks_then : LooksBy l asked.replaced.items o
    looks_then = subst (λ (x : Machine). LooksBy x asked.replaced.items o) (sym has.begun) (looked o has.renews)

    pub entered_then : HasEntered q l
    entered_then = subst (HasEntered q) (sym has.begun) (record {
      whole = record { coherent = last_sound.coherent; parts = last_sound.parts };
      cells = e.entered.cells;
      placed = e.entered.placed;
      counted = record { patches = e.entered.patches; maps = e.entered.maps };
    })

    pub renewed : (survey : Option Survey) → Reads l asked.replaced.items survey → HasTried q survey l
    renewed survey read = record {
      entered = entered_then;
      undo = subst (λ (x : Machine). x.memory.undo ≡ None) (sym has.begun) refl;
      read = read;
      is = ends ∙ ap (λ (x : Machine). let y : Outcome World = Ok (world_of x) in y) (sym has.begun);
    }
