-- What a transfer leaves as it was, after each turn.
use Rattle.std.proofs.Common.{◌≡◌, refl, sym, ◌∙◌, ap, subst, arith, ℕ, inl, inr, Bool, true, false, cond, not, List, [], ◌∷◌, Result, Option, Some, None, Ok, Err}
use Rattle.std.specs.Prelude.{filter, nat_lt, ◌==◌}
use Rattle.std.proofs.lemmas.Bool.{eqb-true, eq-eqb}
use Rattle.cell_world.specs.World.{World, Region}
use Rattle.cell_world.specs.Coherent.{IsCoherent}
use Rattle.cell_world.specs.Placed.Place.{start_of_run, with_region}
use Rattle.cell_world.specs.Commands.SpawnCommand.{with_stack}
use Rattle.cell_world.specs.Running.Execute.{seen_in}
use Rattle.cell_world.specs.Running.Memory.{read_in}
use Rattle.cell_world.specs.Running.Move.{Hart, move}
use Rattle.cell_world.specs.declared.transfer.Routine.{Routine}
use Rattle.cell_world.specs.declared.transfer.Failure.{Failure}
use Rattle.cell_world.specs.Running.Transfer.{Addresses, routine_column, transferred, transfer, after_turns}
use Rattle.cell_world.specs.Running.Turn.{without_region}
use Rattle.cell_num.specs.Lists.{In}
use Rattle.cell_num.proofs.Elements.{In-All, filter_all}
use Rattle.cell_lemmas.proofs.Placement.Places.{Disjoint}
use Rattle.cell_lemmas.specs.Kept.{KeepsFields, KeepsReadOnly, KeepsSealed, KeepsShapes}
use Rattle.cell_lemmas.proofs.Tasks.Executed.{good_move}
use Rattle.cell_lemmas.proofs.Tasks.Kept.{Kept, kept_same}
use Rattle.cell_lemmas.proofs.Tasks.Spawned.{new_stack, some_bytes, spaced, apart}
use Rattle.cell_lemmas.proofs.Tasks.Stacks.{long}
use Rattle.cell_lemmas.proofs.Tasks.TurnKept.{kept_fields}
use Rattle.cell_lemmas.proofs.Tasks.Runs.{seen_with, routines_keep}
use Rattle.cell_lemmas.proofs.Tasks.Under.{Under, under_stored}

-- a region that doesn't pass is left out again
pub without_new : (p : Region → Bool) (r : Region) (regions : List Region) → p r ≡ false → filter p (with_region r regions) ≡ filter p regions
without_new p r [] e = ap (λ b. cond b (r ∷ []) []) e
without_new p r (s ∷ regions) e = go (nat_lt r.start s.start) (without_new p r regions e)
  where
    go : (b : Bool) → filter p (with_region r regions) ≡ filter p regions → filter p (cond b (r ∷ s ∷ regions) (s ∷ with_region r regions)) ≡ filter p (s ∷ regions)
    go true rest = ap (λ b. cond b (r ∷ filter p (s ∷ regions)) (filter p (s ∷ regions))) e
    go false rest = ap (λ rs. cond (p s) (s ∷ rs) rs) rest

module _ (w : World) (h : IsCoherent w) (stack : ℕ) (run : start_of_run w 4 ≡ Ok stack) where
  elsewhere : (r : Region) → In r w.regions → not (r.start == stack) ≡ true
  elsewhere r i = go (r.start == stack) refl
    where
      clash : r.start ≡ stack → Disjoint (new_stack stack) r → ⊥
      clash s (inl e) = omega (arith, e, some_bytes w h stack run, s)
      clash s (inr e) = omega (arith, e, long w h r i, s)

      go : (b : Bool) → (r.start == stack) ≡ b → not b ≡ true
      go false e = refl
      go true e = absurd (clash (eqb-true r.start stack e) (apart w h stack run r i))

  same : without_region stack (with_stack w stack).regions ≡ w.regions
  same =
      without_new (λ r. not (r.start == stack)) (new_stack stack) w.regions (ap not (eq-eqb stack stack refl))
      ∙ filter_all (λ r. not (r.start == stack)) w.regions elsewhere

  begun : Under w stack (with_stack w stack).regions
  begun = record {
    apart = (spaced w h stack run).apart;
    coherent = subst (λ rs. IsCoherent (record w { regions = rs })) (sym same) h;
    kept = subst (λ rs. Kept w (record w { regions = rs })) (sym same) (kept_same w);
    sealed = λ p k. ap (λ rs. read_in rs p 1) same;
  }

  module _ (n : ℕ) (addresses : Addresses) (routines : List Routine) where
    keeps : (regions : List Region) (k : Hart) → Under w stack regions → Under w stack (move (routine_column addresses) (seen_with w regions) k).regions
    keeps regions k u = under_stored w stack regions u _ (good_move (seen_with w regions) k (routine_column addresses)).stored

    under : Under w stack (transferred n addresses (seen_in (with_stack w stack)) stack routines).regions
    under = routines_keep w addresses (Under w stack) keeps n (with_stack w stack).regions stack routines begun

    pub turns_coherent : IsCoherent (after_turns n w stack addresses routines)
    turns_coherent = under.coherent

    pub turns_shapes : KeepsShapes w.regions (after_turns n w stack addresses routines).regions
    turns_shapes = under.coherent.ready.regions ∙ sym h.ready.regions

    pub turns_read_only : KeepsReadOnly w.regions (after_turns n w stack addresses routines).regions
    turns_read_only = In-All (λ (r : Region). r.permission.write ≡ false → In r (after_turns n w stack addresses routines).regions) w.regions under.kept.read_only

    pub turns_sealed : KeepsSealed (seen_in w) (after_turns n w stack addresses routines).regions
    turns_sealed = under.sealed

    pub turns_fields : KeepsFields w (after_turns n w stack addresses routines)
    turns_fields = kept_fields w (after_turns n w stack addresses routines) under.kept

pub transfer_end : (n : ℕ) (w v : World) (stack : ℕ) (addresses : Addresses) (routines : List Routine) → transfer w stack addresses routines n ≡ Ok v → v ≡ after_turns n w stack addresses routines
transfer_end n w v stack addresses routines e = go (transferred n addresses (seen_in (with_stack w stack)) stack routines).failure e
  where
    go : (o : Option Failure) → (elim o as (λ _. Result World Failure) [ None ↦ Ok (after_turns n w stack addresses routines) | Some failure ↦ Err failure ]) ≡ Ok v → v ≡ after_turns n w stack addresses routines
    go None f = cc
    go (Some failure) f = absurd cc
