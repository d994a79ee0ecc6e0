-- What an accepted change went through.
use Rattle.std.proofs.Common.{◌≡◌, ap, subst, ℕ, List, Option, None, Ok}
use Rattle.std.specs.Prelude.{filter, option_map}
use Rattle.cell_world.specs.World.{World, is_ready}
use Rattle.cell_world.specs.Linked.Relink.{relink}
use Rattle.cell_world.specs.Placed.Place.{place_all}
use Rattle.cell_world.specs.Gather.{Source, missing, fresh_cells}
use Rattle.cell_world.specs.Linked.Fit.{first_misfit}
use Rattle.cell_world.specs.Changed.{changed_fields, first_changed_misfit}
use Rattle.cell_world.specs.Torn.{first_torn}
use Rattle.cell_world.specs.Linked.Linking.{link_refusal}
use Rattle.cell_num.proofs.Elements.{or_else_parts}
use Rattle.cell_world.specs.Commands.SwapTransfer.{Begin, begins_of, stack_for, routines_in}
use Rattle.cell_world.specs.Running.Restart.{restart_by}
use Rattle.cell_world.specs.Outcome.{Outcome, ◌>>=◌, refused_by}
use Rattle.cell_world.specs.Coherent.{AreSound, IsReady, IsCoherent}
use Rattle.cell_lemmas.proofs.Outcomes.{bind_ok, then_ok, refused_ok}
use Rattle.cell_lemmas.proofs.Naming.Appended.{ok_same, unmapped}
use Rattle.cell_lemmas.proofs.Fields.Relinks.{coherent_relinked}
use Rattle.cell_lemmas.specs.Grown.{IsRegrown}
use Rattle.cell_world.specs.Change.{Change, Plan, Made, gather, first_uncovered, restart_refusal, restarted_task, plan_of, with_routines, with_sequel, first_held_old, made_by, make_change}
use Rattle.cell_change_law.specs.Sound.{IsSound}
use Rattle.cell_change_law.proofs.Placing.{change_ready, change_regrown}

pub record Planned (sources : List Source) (v : World) (asked : Change) (plan : Plan) : Type 0 where
  pub gathered : World
  pub world : World
  pub begins : List Begin
  pub stack : Option ℕ
  pub gathering : gather sources v asked ≡ Ok gathered
  pub covered : first_uncovered v asked gathered ≡ None
  pub begin_all : begins_of (fresh_cells v.next_cell gathered) asked.routines ≡ Ok begins
  pub begins_again : restart_refusal v asked gathered ≡ None
  pub placing : place_all gathered (fresh_cells v.next_cell gathered) ≡ Ok world
  pub stack_free : stack_for world asked.routines ≡ Ok stack
  pub new_fit : first_misfit world (fresh_cells v.next_cell world) ≡ None
  pub changed_fit : first_changed_misfit v world v.cells ≡ None
  pub untorn : first_torn (changed_fields v world) (filter is_ready v.tasks) ≡ None
  pub is : record {
    fresh = fresh_cells v.next_cell world;
    changed = changed_fields v world;
    linked = relink world;
    stack = stack;
    routines = routines_in world begins;
    restarted = restarted_task v asked world;
  } ≡ plan

pub planned : (sources : List Source) (v : World) (asked : Change) (plan : Plan) → plan_of sources v asked ≡ Ok plan → Planned sources v asked plan
planned sources v asked plan e =
    let b = bind_ok (gather sources v asked) _ plan e in
    let c = then_ok (refused_by (option_map missing (first_uncovered v asked b.0))) _ plan b.2 in
    let m = bind_ok (begins_of (fresh_cells v.next_cell b.0) asked.routines) _ plan c.2 in
    let n = then_ok (refused_by (restart_refusal v asked b.0)) _ plan m.2 in
    let d = bind_ok (place_all b.0 (fresh_cells v.next_cell b.0)) _ plan n.2 in
    let s = bind_ok (stack_for d.0 asked.routines) _ plan d.2 in
    let i = then_ok (refused_by (link_refusal v d.0)) _ plan s.2 in
    let f = or_else_parts (first_misfit d.0 (fresh_cells v.next_cell d.0)) _ (refused_ok _ i.0 i.1) in
    let g = or_else_parts (first_changed_misfit v d.0 v.cells) (first_torn (changed_fields v d.0) (filter is_ready v.tasks)) f.1 in
    record {
      gathered = b.0;
      world = d.0;
      begins = m.0;
      stack = s.0;
      gathering = b.1;
      covered = unmapped missing _ (refused_ok _ c.0 c.1);
      begin_all = m.1;
      begins_again = refused_ok _ n.0 n.1;
      placing = d.1;
      stack_free = s.1;
      new_fit = f.0;
      changed_fit = g.0;
      untorn = g.1;
      is = ok_same _ plan i.2;
    }

module _ (sources : List Source) (sound : AreSound sources) (v : World) (h : IsCoherent v) (asked : Change) (good : IsSound sources v asked) where
  module _ (plan : Plan) (x : Planned sources v asked plan) where
    pub plan_ready : IsReady x.world
    plan_ready = change_ready sources sound v h asked good x.gathered x.gathering x.world x.placing x.covered x.changed_fit x.new_fit

    pub plan_regrown : IsRegrown v x.world (fresh_cells v.next_cell x.world)
    plan_regrown = change_regrown sources sound v h asked good x.gathered x.gathering x.world x.placing x.covered

  -- the machine with the new cells linked
  pub plan_coherent : (plan : Plan) → plan_of sources v asked ≡ Ok plan → IsCoherent plan.linked
  plan_coherent plan e =
      let x : Planned sources v asked plan = planned sources v asked plan e in
      subst (λ (y : Plan). IsCoherent y.linked) x.is (coherent_relinked x.world (plan_ready plan x))

-- the machine after the sequel is the one after the routines, in which the task has begun again
pub record Followed (asked : Change) (plan : Plan) (last : World) : Type 0 where
  pub second : World
  pub run : with_routines asked plan ≡ Ok second
  pub begun : restart_by plan.restarted second ≡ last

pub followed : (asked : Change) (plan : Plan) (last : World) → with_sequel asked plan ≡ Ok last → Followed asked plan last
followed asked plan last e =
    let b = bind_ok (with_routines asked plan) _ last e in
    record { second = b.0; run = b.1; begun = ok_same _ last b.2 }

pub follows : (asked : Change) (plan : Plan) (second : World) → with_routines asked plan ≡ Ok second → with_sequel asked plan ≡ Ok (restart_by plan.restarted second)
follows asked plan second e = ap (λ (x : Outcome World). x >>= (λ w. let y : Outcome World = Ok (restart_by plan.restarted w) in y)) e

-- the plan of an accepted change, and the machine after its sequel
pub record Changed (sources : List Source) (v : World) (asked : Change) (made : Made) : Type 0 where
  pub plan : Plan
  pub last : World
  pub planned : plan_of sources v asked ≡ Ok plan
  pub run : with_sequel asked plan ≡ Ok last
  pub unheld : first_held_old asked last ≡ None
  pub is : made_by asked plan last ≡ made

pub changed : (sources : List Source) (v : World) (asked : Change) (made : Made) → make_change sources v asked ≡ Ok made → Changed sources v asked made
changed sources v asked made e =
    let a = bind_ok (plan_of sources v asked) _ made e in
    let b = bind_ok (with_sequel asked a.0) _ made a.2 in
    let c = then_ok (refused_by (first_held_old asked b.0)) _ made b.2 in
    record { plan = a.0; last = b.0; planned = a.1; run = b.1; unheld = refused_ok _ c.0 c.1; is = ok_same _ made c.2 }
