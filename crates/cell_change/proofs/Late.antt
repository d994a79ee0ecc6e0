-- Where a change is refused once its new cells are there, it has counted what it comes to; where it is refused before, nothing.
use Rattle.std.proofs.Common.{◌≡◌, refl, sym, ap, ◌∙◌, arith, ℕ, ◌-◌, ◌^◌, ◌≤◌, Bool, true, false, List, [], ◌∷◌, Option, Some, None}
use Rattle.std.specs.Prelude.{Ok, Err, Result, if◌then◌else◌, option_map}
use Rattle.cell_num.specs.Lists.{holds, or_else}
use Rattle.cell_num.specs.declared.ids.Holder.{Holder}
use Rattle.cell_world.specs.declared.refusal.Refusal.{Refusal}
use Rattle.cell_world.specs.declared.refusal.Refusal.TheVariants.{Held}
use Rattle.cell_world.specs.declared.transfer.Failure.{Failure}
use Rattle.cell_world.specs.Kept.{Holding, holder_in, holding_of, kept_in}
use Rattle.cell_world.specs.Outcome.{Outcome, ◌>>=◌, ◌>>◌, refused_by}
use Rattle.cell_world.specs.Change.{Change as ChangeSaid, Plan as PlanSaid, addresses_of, first_held_old, old_of}
use Rattle.cell_world.specs.Commands.SwapTransfer.{transferred_by}
use Rattle.cell_world.specs.Running.Restart.{restart_by}
use Rattle.cell_world.specs.Running.Transfer.{transfer}
use Rattle.cell_world.specs.Commands.UnloadCommand.{first_held}
use Rattle.cell_world.specs.World.{World}
use Rattle.cell_machine.specs.Does.{HasRisen, Most, counted_before}
use Rattle.cell_machine.specs.Same.{raised}
use Rattle.cell_change.specs.Exchanged.{ended}

module _ (most : Most) where
  -- a refusal of routines
  failed_late : (words : List (List ℕ)) (end : Result World Failure) (r : Refusal) → transferred_by words end ≡ Err r → counted_before r most ≡ most
  failed_late words (Ok w) r e = absurd cc
  failed_late words (Err failure) r e = ap (λ (o : Outcome World). elim o as (λ _. Most) [ Ok w ↦ most | Err q ↦ counted_before q most ]) (sym e)

  held_late : (c : ℕ) (o : Option Holder) (r : Refusal) → option_map (λ holder. Held (record { 0 = c }) holder) o ≡ Some r → counted_before r most ≡ most
  held_late c None r e = absurd cc
  held_late c (Some holder) r e = ap (λ (o : Option Refusal). elim o as (λ _. Most) [ None ↦ most | Some q ↦ counted_before q most ]) (sym e)

  -- a refusal for an old cell that is kept
  first_late : (h : Holding) (cells : List ℕ) (r : Refusal) → first_held h cells ≡ Some r → counted_before r most ≡ most
  first_late h [] r e = absurd cc
  first_late h (c ∷ cells) r e = go (holds (kept_in h) c) (holder_in h c) refl (first_late h cells r) e
    where
      go : (b : Bool) (o : Option Holder) → holder_in h c ≡ o → (first_held h cells ≡ Some r → counted_before r most ≡ most)
          → or_else (if b then option_map (λ holder. Held (record { 0 = c }) holder) o else None) (first_held h cells) ≡ Some r → counted_before r most ≡ most
      go true None is rest e = rest e
      go true (Some holder) is rest e = held_late c (Some holder) r e
      go false o is rest e = rest e

  held_old_late : (c : ChangeSaid) (w : World) (r : Refusal) → first_held_old c w ≡ Some r → counted_before r most ≡ most
  held_old_late c w r e = go c.strict e
    where
      go : (strict : Bool) → (if strict then first_held (holding_of w) (old_of c) else None) ≡ Some r → counted_before r most ≡ most
      go true k = first_late (holding_of w) (old_of c) r k
      go false k = absurd cc

  module _ (c : ChangeSaid) (plan : PlanSaid) (r : Refusal) where
    -- what the plan comes to on a stack
    abbrev on : Option ℕ → Outcome World
    on stack =
        elim stack [
          | None ↦ Ok plan.linked
          | Some start ↦ transferred_by c.routines (transfer plan.linked start (addresses_of c plan) plan.routines c.budget)
        ]

    abbrev unless_held : World → Outcome World
    unless_held w = refused_by (first_held_old c w) >> Ok w

    held_after : (w : World) (x : Option Refusal) → first_held_old c w ≡ x → (refused_by x >> (let y : Outcome World = Ok w in y)) ≡ Err r → counted_before r most ≡ most
    held_after w None is k = absurd cc
    held_after w (Some q) is k = held_old_late c w r (is ∙ ap (λ (x : Outcome World). elim x as (λ _. Option Refusal) [ Ok v ↦ None | Err p ↦ Some p ]) k)

    after : (x : Outcome World) → (x ≡ Err r → counted_before r most ≡ most) → (x >>= unless_held) ≡ Err r → counted_before r most ≡ most
    after (Ok w) f k = held_after w (first_held_old c w) refl k
    after (Err q) f k = f (ap (λ (x : Outcome World). elim x as (λ _. Outcome World) [ Ok v ↦ Err q | Err p ↦ Err p ]) k)

    -- once the task has begun again
    abbrev begun : Outcome World → Outcome World
    begun x = x >>= (λ second. let y : Outcome World = Ok (restart_by plan.restarted second) in y)

    -- a restart refuses nothing
    begun_late : (x : Outcome World) → (x ≡ Err r → counted_before r most ≡ most) → begun x ≡ Err r → counted_before r most ≡ most
    begun_late (Ok second) f k = absurd cc
    begun_late (Err q) f k = f (ap (λ (x : Outcome World). elim x as (λ _. Outcome World) [ Ok v ↦ Err q | Err p ↦ Err p ]) k)

    ran : (stack : Option ℕ) → (begun (on stack) >>= unless_held) ≡ Err r → counted_before r most ≡ most
    ran None k = after (begun (Ok plan.linked)) (begun_late (Ok plan.linked) (λ f. absurd cc)) k
    ran (Some start) k = after (begun (on (Some start))) (begun_late (on (Some start)) (failed_late c.routines (transfer plan.linked start (addresses_of c plan) plan.routines c.budget) r)) k

    pub ended_late : ended c plan ≡ Err r → counted_before r most ≡ most
    ended_late e = ran plan.stack e

-- what is counted rises by that much
pub risen : (most old new : ℕ) → old ≤ 2 ^ 64 - 1 → new ≡ raised old most → HasRisen most old new
risen most old new few is = (omega (arith, few, is), omega (arith, is))

pub unrisen : (most count : ℕ) → count ≤ 2 ^ 64 - 1 → HasRisen most count count
unrisen most count few = (omega arith, omega (arith, few))
