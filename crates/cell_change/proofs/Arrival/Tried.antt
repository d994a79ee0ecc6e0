-- The machine after the routines, and the way back.
use Rattle.std.proofs.Common.{◌≡◌, refl, sym, ap, subst, ◌∙◌, arith, ℕ, ◌+◌, ◌≤◌, ◌<◌, List, [], ◌∷◌, Option, None, Some, length}
use Rattle.std.specs.Prelude.{Ok, vec_capacity}
use Rattle.std.proofs.lemmas.List.{length-append}
use Rattle.cell_num.specs.declared.ids.CellId.{CellId}
use Rattle.cell_mem.specs.State.{MemoryState}
use Rattle.cell_world.specs.Change.{with_sequel}
use Rattle.cell_world.specs.Outcome.{Outcome, ◌>>=◌}
use Rattle.cell_world.specs.Running.Restart.{restart_by}
use Rattle.cell_world.specs.World.{Task, World}
use Rattle.cell_machine.specs.declared.machine.Machine.{Machine}
use Rattle.cell_unload.specs.declared.outlook.Outlook.{Outlook}
use Rattle.cell_unload.specs.declared.survey.Survey.{Survey}
use Rattle.cell_machine.specs.Machine.{IsSound, world_of}
use Rattle.cell_machine.specs.Same.{IsSame, without_counts}
use Rattle.cell_commit.specs.declared.wiring.Rewiring.{Rewiring}
use Rattle.cell_load.specs.declared.prepared.Prepared.{Prepared}
use Rattle.cell_xfer.specs.declared.carrying.Transfer.{Transfer}
use Rattle.cell_change.specs.declared.ready.Ready.{Ready}
use Rattle.cell_change.specs.Back.{CanUndo}
use Rattle.cell_change.specs.declared.request.Change.{Change}
use Rattle.cell_change.specs.declared.planning.Plan.{Plan}
use Rattle.cell_change.specs.Entering.{CanRenew, CanSettle, CanTry, HasEntered, HasTried, IsEntered, IsOpen, Reads}
use Rattle.cell_change.specs.Exchanged.{CanFinish, HasUndone, ended, room_for}
use Rattle.cell_change.specs.Planning.{BeginsBy, wish}
use Rattle.cell_change.specs.Sweeping.{CanSweep}
use Rattle.cell_change.proofs.Arrival.Suspended.{survey_suspended, suspended, whole_suspended}

module _ {first : Machine} {asked : Change} {r : Ready} {q : CanFinish first asked r} {outlook : Option Outlook} {n : Machine} (e : IsEntered q outlook n) where
  -- no task begins again
  pub plain_sequel : q.is.plan.restarted ≡ None → with_sequel (wish q.is.begun) q.is.plan ≡ Ok (world_of n)
  plain_sequel none =
      ap (λ (x : Outcome World). x >>= (λ second. let y : Outcome World = Ok (restart_by q.is.plan.restarted second) in y)) e.is
      ∙ ap (λ (o : Option Task). let y : Outcome World = Ok (restart_by o (world_of n)) in y) none

-- the machine after the routines, once the undo is forgotten
module _ {first : Machine} {asked : Change} {r : Ready} {q : CanFinish first asked r} {outlook : Option Outlook} {n : Machine} (e : IsEntered q outlook n) (s : MemoryState) (out : s ≡ record n.memory { undo = None }) where
  out_is : (record n { memory = s }) ≡ suspended n
  out_is = ap (λ (memory : MemoryState). let y : Machine = record n { memory = memory } in y) out

  entered_suspended : HasEntered q (suspended n)
  entered_suspended = record {
    whole = whole_suspended n e.entered.whole;
    cells = e.entered.cells;
    placed = e.entered.placed;
    counted = record { patches = e.entered.patches; maps = e.entered.maps };
  }

  still_reads : (old : List CellId) (survey : Option Survey) → Reads n old survey → Reads (suspended n) old survey
  still_reads old None read = read
  still_reads old (Some survey) read = (read.0, survey_suspended n survey read.1)

  pub tried : (survey : Option Survey) → Reads n asked.replaced.items survey → ended (wish q.is.begun) q.is.plan ≡ Ok (world_of n) → HasTried q survey (record n { memory = s })
  tried survey read is =
      subst (HasTried q survey) (sym out_is) (record { entered = entered_suspended; undo = refl; read = still_reads asked.replaced.items survey read; is = is })

pub needed : (old : List CellId) (cells room : ℕ) → room_for old cells ≤ room → 0 < length old → cells ≤ room
needed [] cells room le some = absurd (omega (arith, some))
needed (c ∷ old) cells room le some = le

pub needed_or_none : (old : List CellId) (cells more room : ℕ) → room_for old cells ≤ room → more ≤ cells → room_for old more ≤ room
needed_or_none [] cells more room le few = le
needed_or_none (c ∷ old) cells more room le few = omega (arith, le, few)

-- so lists with room for these have room then
pub all_there : {first : Machine} {asked : Change} {r : Ready} {q : CanFinish first asked r} {n : Machine} → HasEntered q n → (room : ℕ)
    → room_for asked.replaced.items (length q.before.cells.items + length q.plan_before.staged.cells.items) ≤ room → room_for asked.replaced.items (length n.cells.items) ≤ room
all_there {asked = asked} {q = q} {n = n} e room fits =
    needed_or_none asked.replaced.items (length q.before.cells.items + length q.plan_before.staged.cells.items) (length n.cells.items) room fits
    (let all = ap length e.placed ∙ length-append q.before.cells.items q.plan_before.staged.cells.items in omega (arith, all))

-- what is ready, as its parts
abbrev pub parts : {first : Machine} {asked : Change} {r : Ready} → CanFinish first asked r → CanTry first asked r.plan r.prepared r.transfer (vec_capacity r.lists.kept)
parts {first} {asked} {r} q = record { rest = r; can = q; fits = q.ready.lists.kept_room }

pub record IsBack {first : Machine} {asked : Change} {r : Ready} (q : CanFinish first asked r) (n : Machine) (back : Rewiring) (fresh : List CellId) : Type 0 where
  pub undo : CanUndo n back fresh
  pub leads : undo.can.room ≡ q.room

-- the way back, by an equal list
pub way_back : {first : Machine} {asked : Change} {r : Ready} {q : CanFinish first asked r} {n : Machine} {fresh : List CellId}
    → IsOpen q n → fresh ≡ r.fresh → IsBack q n r.back fresh
way_back {r = r} {q = q} {n = n} {fresh = fresh} o b = subst (λ (ids : List CellId). IsBack q n r.back ids) (sym b) (record { undo = o.undo; leads = o.leads })

-- what going back leaves, by the counts that there were
pub was_undone : {first : Machine} {asked : Change} {r : Ready} {q : CanFinish first asked r} {n : Machine} {back : Rewiring} {fresh : List CellId}
    → IsOpen q n → (u : CanUndo n back fresh) → u.can.room ≡ q.room → (l : Machine) → IsSame u.can.room (without_counts u.can.room l)
    → l.memory.patches ≡ n.memory.patches → l.memory.maps ≡ n.memory.maps → HasUndone q l
was_undone o u leads l same patches maps = record {
  same = subst (λ (k : Machine). IsSame k (without_counts k l)) leads same;
  counted = record { patches = patches ∙ o.counted.patches; maps = maps ∙ o.counted.maps };
}

-- no undo goes on
pub whole_sound : {first : Machine} {asked : Change} {r : Ready} {q : CanFinish first asked r} {survey : Option Survey} {n : Machine} → HasTried q survey n → IsSound n
whole_sound t = record { coherent = t.entered.whole.coherent; parts = t.entered.whole.parts; undo = t.undo }

-- the sweep has what it takes
pub can_sweep : {first : Machine} {asked : Change} {r : Ready} {q : CanFinish first asked r} {survey : Option Survey} {n : Machine} → HasTried q survey n → CanSweep n survey (vec_capacity r.lists.removed) (vec_capacity r.lists.aside)
can_sweep {asked = asked} {r = r} {q = q} {survey = survey} {n = n} t = go survey t.read
  where
    fits : (room : ℕ) → room_for asked.replaced.items (length q.before.cells.items + length q.plan_before.staged.cells.items) ≤ room → 0 < length asked.replaced.items → length n.cells.items ≤ room
    fits room le some = needed asked.replaced.items (length n.cells.items) room (all_there t.entered room le) some

    go : (survey : Option Survey) → Reads n asked.replaced.items survey → CanSweep n survey (vec_capacity r.lists.removed) (vec_capacity r.lists.aside)
    go None read = tt
    go (Some survey) read = record {
      sound = whole_sound t;
      read = read.1;
      removed_room = fits (vec_capacity r.lists.removed) q.ready.lists.removed_room read.0;
      aside_room = fits (vec_capacity r.lists.aside) q.ready.lists.aside_room read.0;
    }

-- the plan's task that begins again, or none
module _ {first : Machine} {asked : Change} {plan : Plan} {prepared : Prepared} {transfer : Option Transfer} {room : ℕ} (t : CanTry first asked plan prepared transfer room)
    (outlook : Option Outlook) (n : Machine) (e : IsEntered t.can outlook n) where
  pub by_plan : BeginsBy t.can.before asked t.can.is.plan plan.again
  by_plan = subst (BeginsBy t.can.before asked t.can.is.plan) (sym (ap (λ (p : Plan). p.again) t.can.ready.plan)) t.can.is.again

  abbrev pub can_renew : (task : ℕ) → plan.again ≡ Some task → CanRenew n asked task outlook room
  can_renew task is = record {
    first = first;
    ready = record t.rest { plan = plan; prepared = prepared; transfer = transfer };
    can = t.can;
    entered = e;
    fits = t.fits;
    begun = subst (BeginsBy t.can.before asked t.can.is.plan) is by_plan;
  }

  abbrev pub can_settle : plan.again ≡ None → CanSettle n asked outlook room
  can_settle is = record {
    first = first;
    ready = record t.rest { plan = plan; prepared = prepared; transfer = transfer };
    can = t.can;
    entered = e;
    fits = t.fits;
    none = subst (BeginsBy t.can.before asked t.can.is.plan) is by_plan;
  }
