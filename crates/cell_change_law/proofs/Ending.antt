-- The machine after a change: its routines change bytes that they may write, and what nobody keeps goes.
use Rattle.std.proofs.Common.{◌≡◌, refl, sym, ◌∙◌, ◌<◌, arith, length, ap, subst, ℕ, Bool, false, not, ◌||◌, List, [], ◌∷◌, Result, Option, Some, None, Ok, Err}
use Rattle.std.specs.Prelude.{filter, flat_map, option_and_then}
use Rattle.cell_num.specs.Lists.{holds, In}
use Rattle.cell_world.specs.declared.reply.Reply.TheVariants.{Purge as PurgeDone}
use Rattle.cell_world.specs.declared.state.LinkRow.{LinkRow}
use Rattle.cell_world.specs.World.{World, Cell, Region, Task, task_of}
use Rattle.cell_world.specs.Placed.Place.{start_of_run}
use Rattle.cell_world.specs.Gather.{Source}
use Rattle.cell_world.specs.Outcome.{Outcome}
use Rattle.cell_world.specs.declared.transfer.Failure.{Failure}
use Rattle.cell_world.specs.Running.Transfer.{after_turns, transfer}
use Rattle.cell_world.specs.Commands.SwapTransfer.{stack_for, transferred_by}
use Rattle.cell_world.specs.Commands.UnloadCommand.{garbage_of, purged, starts_of, without_cells}
use Rattle.cell_world.specs.Answer.{Done, ids}
use Rattle.cell_world.specs.Coherent.{AreSound, IsCoherent}
use Rattle.cell_num.proofs.Elements.{In-All, filter_all, filter_none}
use Rattle.cell_lemmas.proofs.Naming.Appended.{ok_same}
use Rattle.cell_lemmas.proofs.Outcomes.{bind_ok}
use Rattle.cell_lemmas.proofs.Holding.Removals.{removed_coherent, purge_removed}
use Rattle.cell_lemmas.proofs.Placement.FreeRuns.{run_relinked}
use Rattle.cell_world.specs.Running.Execute.{seen_in}
use Rattle.cell_lemmas.specs.Kept.{KeepsFields, KeepsReadOnly, KeepsSealed, KeepsShapes}
use Rattle.cell_lemmas.proofs.Tasks.Kept.{kept_same}
use Rattle.cell_lemmas.proofs.Tasks.TurnKept.{kept_fields}
use Rattle.cell_lemmas.proofs.Tasks.Turns.{transfer_end, turns_coherent, turns_shapes, turns_read_only, turns_sealed, turns_fields}
use Rattle.cell_world.specs.Running.Restart.{restart_by, restarted_in}
use Rattle.cell_world.specs.Change.{Change, Plan, Made, old_of, addresses_of, plan_of, with_routines, with_sequel, garbage_after, make_change}
use Rattle.cell_change_law.specs.Sound.{IsSound}
use Rattle.cell_change_law.proofs.Again.{begun_coherent}
use Rattle.cell_change_law.proofs.Steps.{Planned, planned, plan_ready, plan_coherent, Followed, followed, follows, Changed, changed}

stack_ok : (w : World) (words : List (List ℕ)) (stack : ℕ) → stack_for w words ≡ Ok (Some stack) → start_of_run w 4 ≡ Ok stack
stack_ok w [] stack e = cc
stack_ok w (word ∷ words) stack e = let a = bind_ok (start_of_run w 4) _ (Some stack) e in let same : a.0 ≡ stack = cc in subst (λ n. start_of_run w 4 ≡ Ok n) same a.1

transferred_ok : (words : List (List ℕ)) (r : Result World Failure) (w : World) → transferred_by words r ≡ Ok w → r ≡ Ok w
transferred_ok words (Ok v) w e = ap Ok (ok_same v w e)
transferred_ok words (Err failure) w e = cc

-- it is the one with all linked, or the one after the turns of the routines
pub second_is : (asked : Change) (plan : Plan) (second : World) → with_routines asked plan ≡ Ok second → (P : World → Type 0) → P plan.linked
    → ((stack : ℕ) → plan.stack ≡ Some stack → P (after_turns asked.budget plan.linked stack (addresses_of asked plan) plan.routines)) → P second
second_is asked plan second e P none some = go plan.stack refl e
  where
    go : (o : Option ℕ) → plan.stack ≡ o → (elim o as (λ _. Outcome World) [ None ↦ Ok plan.linked | Some stack ↦ transferred_by asked.routines (transfer plan.linked stack (addresses_of asked plan) plan.routines asked.budget) ]) ≡ Ok second → P second
    go None f k = subst P (ok_same plan.linked second k) none
    go (Some stack) f k =
        subst P (sym (transfer_end asked.budget plan.linked second stack (addresses_of asked plan) plan.routines
        (transferred_ok asked.routines (transfer plan.linked stack (addresses_of asked plan) plan.routines asked.budget) second k))) (some stack f)

-- the parts that no routine changes
pub second_parts : (asked : Change) (plan : Plan) (second : World) → with_routines asked plan ≡ Ok second → record second { regions = plan.linked.regions } ≡ plan.linked
second_parts asked plan second e = second_is asked plan second e (λ (w : World). record w { regions = plan.linked.regions } ≡ plan.linked) refl (λ stack f. refl)

-- a task that begins again changes tasks and bytes alone
begun_parts : (o : Option Task) (w p : World) → record (restart_by o w) { regions = p.regions; tasks = p.tasks } ≡ record w { regions = p.regions; tasks = p.tasks }
begun_parts None w p = refl
begun_parts (Some t) w p = refl

pub last_parts : (asked : Change) (plan : Plan) (last : World) → with_sequel asked plan ≡ Ok last → record last { regions = plan.linked.regions; tasks = plan.linked.tasks } ≡ plan.linked
last_parts asked plan last e =
    let f : Followed asked plan last = followed asked plan last e in
    subst (λ (u : World). record u { regions = plan.linked.regions; tasks = plan.linked.tasks } ≡ plan.linked) f.begun
    (begun_parts plan.restarted f.second plan.linked ∙ ap (λ (u : World). record u { tasks = plan.linked.tasks }) (second_parts asked plan f.second f.run))

-- where no cell goes, the machine is as it was
pub without_none : (w : World) → without_cells w [] ≡ w
without_none w =
    ap (λ (cs : List Cell). record w { cells = cs; links = filter stays w.links; regions = filter (outside (flat_map starts_of (filter (λ (c : Cell). holds [] c.id.0) w.cells))) w.regions }) cells
    ∙ (ap (λ (ls : List LinkRow). record w { links = ls; regions = filter (outside (flat_map starts_of (filter (λ (c : Cell). holds [] c.id.0) w.cells))) w.regions }) links
    ∙ (ap (λ (cs : List Cell). record w { regions = filter (outside (flat_map starts_of cs)) w.regions }) none
    ∙ ap (λ (rs : List Region). record w { regions = rs }) regions))
  where
    stays : LinkRow → Bool
    stays link = not (holds [] link.user.cell.0 || holds [] link.target.cell.0)

    outside : List ℕ → Region → Bool
    outside starts r = not (holds starts r.start)

    cells : filter (λ (c : Cell). not (holds [] c.id.0)) w.cells ≡ w.cells
    cells = filter_all (λ (c : Cell). not (holds [] c.id.0)) w.cells (λ c i. refl)

    links : filter stays w.links ≡ w.links
    links = filter_all stays w.links (λ link i. refl)

    none : filter (λ (c : Cell). holds [] c.id.0) w.cells ≡ []
    none = filter_none (λ (c : Cell). holds [] c.id.0) w.cells (λ c i. refl)

    regions : filter (outside []) w.regions ≡ w.regions
    regions = filter_all (outside []) w.regions (λ r i. refl)

-- where a cell was replaced, the last step is a purge
pub swept_is : (w : World) (old : List ℕ) → 0 < length old → (garbage_after old w ≡ garbage_of w) × (without_cells w (garbage_after old w) ≡ purged w)
swept_is w [] some = absurd (omega (arith, some))
swept_is w (n ∷ old) some = (refl, refl)

swept_coherent : (w : World) → IsCoherent w → (old : List ℕ) → IsCoherent (without_cells w (garbage_after old w))
swept_coherent w h [] = subst IsCoherent (sym (without_none w)) h
swept_coherent w h (n ∷ old) =
    let d : Done = record { reply = PurgeDone (ids (garbage_of w)); world = purged w } in
    removed_coherent w (purged w) h (purge_removed w d h refl)

module _ (sources : List Source) (sound : AreSound sources) (v : World) (h : IsCoherent v) (asked : Change) (good : IsSound sources v asked) where
  module _ (plan : Plan) (e : plan_of sources v asked ≡ Ok plan) where
    x : Planned sources v asked plan
    x = planned sources v asked plan e

    pub linked : IsCoherent plan.linked
    linked = plan_coherent sources sound v h asked good plan e

    -- the stack is in the lowest run that is free by then
    pub stack_lowest : (stack : ℕ) → plan.stack ≡ Some stack → start_of_run plan.linked 4 ≡ Ok stack
    stack_lowest stack f =
        let g : x.stack ≡ Some stack = ap (λ (y : Plan). y.stack) x.is ∙ f in
        subst (λ (y : Plan). start_of_run y.linked 4 ≡ Ok stack) x.is
        (run_relinked x.world (plan_ready sources sound v h asked good plan x) 4 ∙ stack_ok x.world asked.routines stack (subst (λ (o : Option ℕ). stack_for x.world asked.routines ≡ Ok o) g x.stack_free))

    pub second_turns : (n stack : ℕ) → plan.stack ≡ Some stack → IsCoherent (after_turns n plan.linked stack (addresses_of asked plan) plan.routines)
    second_turns n stack f = turns_coherent plan.linked linked stack (stack_lowest stack f) n (addresses_of asked plan) plan.routines

    module _ (second : World) (t : with_routines asked plan ≡ Ok second) where
      pub second_shapes : KeepsShapes plan.linked.regions second.regions
      second_shapes = second_is asked plan second t (λ (w : World). KeepsShapes plan.linked.regions w.regions) refl
          (λ stack f. turns_shapes plan.linked linked stack (stack_lowest stack f) asked.budget (addresses_of asked plan) plan.routines)

      pub second_read_only : KeepsReadOnly plan.linked.regions second.regions
      second_read_only = second_is asked plan second t (λ (w : World). KeepsReadOnly plan.linked.regions w.regions)
          (In-All (λ (r : Region). r.permission.write ≡ false → In r plan.linked.regions) plan.linked.regions (λ r i p. i))
          (λ stack f. turns_read_only plan.linked linked stack (stack_lowest stack f) asked.budget (addresses_of asked plan) plan.routines)

      pub second_sealed : KeepsSealed (seen_in plan.linked) second.regions
      second_sealed = second_is asked plan second t (λ (w : World). KeepsSealed (seen_in plan.linked) w.regions) (λ p k. refl)
          (λ stack f. turns_sealed plan.linked linked stack (stack_lowest stack f) asked.budget (addresses_of asked plan) plan.routines)

      pub second_fields : KeepsFields plan.linked second
      second_fields = second_is asked plan second t (KeepsFields plan.linked) (kept_fields plan.linked plan.linked (kept_same plan.linked))
          (λ stack f. turns_fields plan.linked linked stack (stack_lowest stack f) asked.budget (addresses_of asked plan) plan.routines)

    pub second_coherent : (second : World) → with_routines asked plan ≡ Ok second → IsCoherent second
    second_coherent second t =
        second_is asked plan second t IsCoherent linked
        (λ stack f. turns_coherent plan.linked linked stack (stack_lowest stack f) asked.budget (addresses_of asked plan) plan.routines)

    -- and after all of the sequel
    pub last_coherent : (last : World) → with_sequel asked plan ≡ Ok last → IsCoherent last
    last_coherent last t =
        let f : Followed asked plan last = followed asked plan last t in
        let parts = second_parts asked plan f.second f.run in
        subst IsCoherent f.begun
        (begun_coherent sources sound v h asked good plan e f.second (second_coherent f.second f.run) (ap (λ (w : World). w.cells) parts) (ap (λ (w : World). w.tasks) parts) plan.restarted refl)

  pub made_coherent : (made : Made) → make_change sources v asked ≡ Ok made → IsCoherent made.world
  made_coherent made e =
      let x : Changed sources v asked made = changed sources v asked made e in
      subst (λ (m : Made). IsCoherent m.world) x.is (swept_coherent x.last (last_coherent x.plan x.planned x.last x.run) (old_of asked))

-- without routines there is no stack
pub no_routines : (sources : List Source) (v : World) (asked : Change) (plan : Plan) → asked.routines ≡ [] → plan_of sources v asked ≡ Ok plan → with_routines asked plan ≡ Ok plan.linked
no_routines sources v asked plan none e = go plan.stack empty
  where
    x : Planned sources v asked plan
    x = planned sources v asked plan e

    empty : plan.stack ≡ None
    empty =
        ap (λ (y : Plan). y.stack) (sym x.is)
        ∙ sym (ok_same None x.stack (ap (λ (words : List (List ℕ)). stack_for x.world words) (sym none) ∙ x.stack_free))

    go : (o : Option ℕ) → o ≡ None → (elim o as (λ _. Outcome World) [ None ↦ Ok plan.linked | Some stack ↦ transferred_by asked.routines (transfer plan.linked stack (addresses_of asked plan) plan.routines asked.budget) ]) ≡ Ok plan.linked
    go None f = refl
    go (Some stack) f = absurd cc

-- where no task begins again, nothing is done after the routines
pub no_restart : (sources : List Source) (v : World) (asked : Change) (plan : Plan) (second : World) → asked.restarts ≡ None → plan_of sources v asked ≡ Ok plan → with_routines asked plan ≡ Ok second → with_sequel asked plan ≡ Ok second
no_restart sources v asked plan second none e t =
    follows asked plan second t ∙ ap (λ (o : Option Task). let y : Outcome World = Ok (restart_by o second) in y) (nobody (planned sources v asked plan e))
  where
    nobody : Planned sources v asked plan → plan.restarted ≡ None
    nobody x = ap (λ (y : Plan). y.restarted) (sym x.is) ∙ ap (λ (o : Option ℕ). option_and_then (restarted_in x.world) (option_and_then (task_of v) o)) none
