-- What decides on a change, step by step.
use Rattle.std.proofs.Common.{◌≡◌, ◌∙◌, ap, ℕ, List, Option, Some, None, Ok, Err}
use Rattle.std.specs.Prelude.{option_map}
use Rattle.cell_world.specs.World.{World}
use Rattle.cell_world.specs.Linked.Relink.{relink}
use Rattle.cell_world.specs.Placed.Place.{place_all}
use Rattle.cell_world.specs.Gather.{Need, Source, fresh_cells, missing}
use Rattle.cell_world.specs.Changed.{changed_fields}
use Rattle.cell_world.specs.Linked.Linking.{link_refusal}
use Rattle.cell_world.specs.Commands.SwapTransfer.{Begin, begins_of, routines_in, stack_for}
use Rattle.cell_world.specs.Outcome.{Outcome, ◌>>=◌, ◌>>◌, refused_by}
use Rattle.cell_world.specs.declared.refusal.Refusal.{Refusal}
use Rattle.cell_world.specs.Change.{Change, Plan, first_uncovered, gather, new_since, plan_of, restart_refusal, restarted_task}
use Rattle.cell_change_law.specs.Sound.{HasCome}

module _ (sources : List Source) (v : World) (asked : Change) where
  abbrev after_stack : World → List Begin → Option ℕ → Outcome Plan
  after_stack w begins stack =
      refused_by (link_refusal v w) >> Ok (record { fresh = new_since v w; changed = changed_fields v w; linked = relink w; stack = stack; routines = routines_in w begins; restarted = restarted_task v asked w })

  abbrev after_place : List Begin → World → Outcome Plan
  after_place begins w = stack_for w asked.routines >>= after_stack w begins

  abbrev after_restart : World → List Begin → Outcome Plan
  after_restart g begins = place_all g (fresh_cells v.next_cell g) >>= after_place begins

  abbrev after_begins : World → List Begin → Outcome Plan
  after_begins g begins = refused_by (restart_refusal v asked g) >> after_restart g begins

  abbrev after_cover : World → Outcome Plan
  after_cover g = begins_of (fresh_cells v.next_cell g) asked.routines >>= after_begins g

  abbrev after_gather : World → Outcome Plan
  after_gather g = refused_by (option_map missing (first_uncovered v asked g)) >> after_cover g

  pub plan_is : (w : World) (p : HasCome sources v asked w) (begins : List Begin) (stack : Option ℕ) → begins_of (new_since v p.gathered) asked.routines ≡ Ok begins → restart_refusal v asked p.gathered ≡ None
      → stack_for w asked.routines ≡ Ok stack
      → plan_of sources v asked
      ≡ (refused_by (link_refusal v w) >> Ok (record { fresh = new_since v w; changed = changed_fields v w; linked = relink w; stack = stack; routines = routines_in w begins; restarted = restarted_task v asked w }))
  plan_is w p begins stack b r s =
      ap (λ (o : Outcome World). o >>= after_gather) p.gathering
      ∙ (ap (λ (o : Option Need). refused_by (option_map missing o) >> after_cover p.gathered) p.covered
      ∙ (ap (λ (o : Outcome (List Begin)). o >>= after_begins p.gathered) b
      ∙ (ap (λ (o : Option Refusal). refused_by o >> after_restart p.gathered begins) r
      ∙ (ap (λ (o : Outcome World). o >>= after_place begins) p.placing
      ∙ ap (λ (o : Outcome (Option ℕ)). o >>= after_stack w begins) s))))

  -- a task that has no place to begin again refuses the change, once the routines have theirs
  pub restart_refused : (g : World) → gather sources v asked ≡ Ok g → first_uncovered v asked g ≡ None → (begins : List Begin) → begins_of (new_since v g) asked.routines ≡ Ok begins
      → (refusal : Refusal) → restart_refusal v asked g ≡ Some refusal → plan_of sources v asked ≡ Err refusal
  restart_refused g gathering covered begins b refusal r =
      ap (λ (o : Outcome World). o >>= after_gather) gathering
      ∙ (ap (λ (o : Option Need). refused_by (option_map missing o) >> after_cover g) covered
      ∙ (ap (λ (o : Outcome (List Begin)). o >>= after_begins g) b
      ∙ ap (λ (o : Option Refusal). refused_by o >> after_restart g begins) r))

  pub uncovered_refused : (g : World) → gather sources v asked ≡ Ok g → (need : Need) → first_uncovered v asked g ≡ Some need → plan_of sources v asked ≡ Err (missing need)
  uncovered_refused g gathering need e =
      ap (λ (o : Outcome World). o >>= after_gather) gathering
      ∙ ap (λ (o : Option Need). refused_by (option_map missing o) >> after_cover g) e
