-- The task that a change names, among the live ones.
use Rattle.std.proofs.Common.{◌≡◌, sym, ◌∙◌, ap, ℕ, Bool, true, false, ◌++◌, Option, None, Some, Ok, Err}
use Rattle.std.specs.Prelude.{◌==◌, option_and_then, option_map}
use Rattle.std.proofs.lemmas.Bool.{eqb-true}
use Rattle.cell_num.proofs.Elements.{found-In}
use Rattle.cell_world.specs.declared.fail.Fail.TheVariants.{Refused}
use Rattle.cell_world.specs.declared.refusal.Refusal.{Refusal}
use Rattle.cell_world.specs.declared.refusal.Refusal.TheVariants.{NoEntry}
use Rattle.cell_world.specs.declared.state.Standing.TheVariants.{Attached}
use Rattle.cell_world.specs.Names.{chain}
use Rattle.cell_world.specs.Running.Restart.{no_entry_again}
use Rattle.cell_world.specs.World.{Task, World}
use Rattle.cell_gather.specs.declared.gathering.Gathered.{Gathered}
use Rattle.cell_machine.specs.declared.machine.Machine.{Machine}
use Rattle.cell_space.specs.Named.{provider_for}
use Rattle.cell_task.specs.State.{TasksState, live_in}
use Rattle.cell_change.specs.Restarting.{AreAhead, Begins, CanBegin, KnowOrigins, has_begin, live_named}
use Rattle.cell_change.proofs.Decision.HasEntry.{has_ahead, none_refused, some_refused}

-- none is named, or the named one isn't live
none_begins : (w : World) (tasks : TasksState) (restarts : Option ℕ) → live_named tasks restarts ≡ None → Begins w tasks restarts (Ok None)
none_begins w tasks restarts e = (ap (option_and_then (no_entry_again w)) e, sym (ap (option_map (λ (t : Task). t.number)) e))

pub none_named : (w : World) (tasks : TasksState) (restarts : Option ℕ) → restarts ≡ None → Begins w tasks restarts (Ok None)
none_named w tasks restarts e = none_begins w tasks restarts (ap (live_named tasks) e)

pub none_live : (w : World) (tasks : TasksState) (restarts : Option ℕ) (task : ℕ) → restarts ≡ Some task → None ≡ live_in tasks task → Begins w tasks restarts (Ok None)
none_live w tasks restarts task e none = none_begins w tasks restarts (ap (live_named tasks) e ∙ sym none)

pub known_there : (m : Machine) (g : Gathered) → KnowOrigins m g → (task : ℕ) (t : Task) → Some t ≡ live_in m.tasks task → CanBegin m g t.origin
known_there m g know task t live = know t (found-In (λ (u : Task). u.number == task) m.tasks.tasks t (sym live)).0

module _ (w : World) (m : Machine) (g : Gathered) (is : AreAhead w m g) (restarts : Option ℕ) (task : ℕ) (named : restarts ≡ Some task) (t : Task) (live : Some t ≡ live_in m.tasks task)
    (has : Bool) (said : has ≡ has_begin (m.cells.items ++ g.cells.items) (provider_for (chain g.ahead.namespaces t.origin.ns) Attached t.origin.name g.ahead.cells)) where
  by_name : live_named m.tasks restarts ≡ Some t
  by_name = ap (live_named m.tasks) named ∙ sym live

  number : t.number ≡ task
  number = eqb-true t.number task (found-In (λ (u : Task). u.number == task) m.tasks.tasks t (sym live)).1

  pub begins_then : has ≡ true → Begins w m.tasks restarts (Ok (Some task))
  begins_then can = (
    ap (option_and_then (no_entry_again w)) by_name ∙ none_refused w t (sym (has_ahead w m g is t.origin.ns t.origin.name) ∙ (sym said ∙ can)),
    sym (ap (option_map (λ (u : Task). u.number)) by_name ∙ ap (λ (n : ℕ). let o : Option ℕ = Some n in o) number),
  )

  pub refused_then : has ≡ false → (refusal : Refusal) → refusal ≡ NoEntry t.origin.name → Begins w m.tasks restarts (Err (Refused refusal))
  refused_then cannot refusal e =
      ap (option_and_then (no_entry_again w)) by_name
      ∙ (some_refused w t (sym (has_ahead w m g is t.origin.ns t.origin.name) ∙ (sym said ∙ cannot))
      ∙ ap (λ (r : Refusal). let o : Option Refusal = Some r in o) (sym e))
