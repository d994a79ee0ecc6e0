-- A machine from which the cells that nobody keeps have been removed is what `unload` and `purge` make of it.
use Rattle.std.proofs.Common.{◌≡◌, refl, sym, ◌∙◌, ap, subst, ℕ, suc, ◌-◌, ◌^◌, ◌≤◌, List, [], map, Option, Some, None, Ok, Err}
use Rattle.cell_num.specs.declared.ids.CellId.{CellId}
use Rattle.cell_world.specs.declared.command.CellName.{CellName}
use Rattle.cell_world.specs.declared.refusal.Refusal.{Refusal}
use Rattle.cell_world.specs.declared.reply.Reply.{Reply}
use Rattle.cell_world.specs.declared.reply.Reply.TheVariants.{Unload as UnloadDone, Purge as PurgeDone}
use Rattle.cell_world.specs.Answer.{Done, done, ids, numbers_of, fresh_by}
use Rattle.cell_world.specs.Coherent.{IsCoherent}
use Rattle.cell_world.specs.Kept.{holding_of}
use Rattle.cell_world.specs.Outcome.{Outcome, ◌>>=◌, ◌>>◌, refused_by}
use Rattle.cell_world.specs.Commands.UnloadCommand.{detach, first_held, garbage_of, named_cells, next_purge, next_unload, purged, put_aside, without_cells}
use Rattle.cell_world.specs.World.{World, Cell}
use Rattle.cell_lemmas.proofs.Naming.Appended.{ok_same}
use Rattle.cell_lemmas.proofs.Fields.Relinked.{map_twice}
use Rattle.cell_machine.proofs.Counts.{counts_stand}
use Rattle.cell_num.proofs.Sublists.{In-fixed}
use Rattle.cell_world.specs.Following.{FailsAs}
use Rattle.cell_world.specs.declared.fail.Fail.{Fail}
use Rattle.cell_world.specs.declared.fail.Fail.TheVariants.{Refused, OutOfMemory}
use Rattle.cell_lemmas.proofs.Naming.PutAside.{aside_left, closed_aside, roots_aside}
use Rattle.cell_lemmas.proofs.Holding.RemoveCoherent.{remove_coherent}
use Rattle.cell_machine.specs.declared.machine.Machine.{Machine}
use Rattle.cell_machine.specs.Does.{Does, HasDone, patched_by, no_stack}
use Rattle.cell_machine.specs.Machine.{IsSound, world_of}
use Rattle.cell_machine.proofs.Unchanged.{same_itself}
use Rattle.cell_unload.specs.Sweep.{IsSwept, IsUnswept, aside_in, cells_numbered, holding_in}

-- numbers made of cells and back
ids_back : (cells : List CellId) → ids (map (λ c. c.0) cells) ≡ cells
ids_back cells = map_twice (λ (n : ℕ). record { 0 = n }) (λ (c : CellId). c.0) cells ∙ In-fixed (λ (c : CellId). record { 0 = c.0 }) cells (λ c i. refl)

module _ (old : Machine) (sound : IsSound old) (cells removed : List CellId) (new : Machine) (swept : IsSwept old cells removed new) where
  abbrev w : World
  w = world_of old

  abbrev coherent : IsCoherent w
  coherent = sound.coherent

  abbrev numbers : List ℕ
  numbers = map (λ (c : CellId). c.0) cells

  abbrev aside : World
  aside = aside_in old cells

  -- what is left is w without the cells that nobody keeps
  left : without_cells w (garbage_of aside) ≡ world_of new
  left = ap (without_cells w) (sym swept.are) ∙ sym swept.left.world

  coherent_left : IsCoherent (world_of new)
  coherent_left = subst IsCoherent left (remove_coherent w coherent (garbage_of aside) (closed_aside w coherent (suc w.swaps) numbers) (roots_aside w coherent (suc w.swaps) numbers))

  sound_left : IsSound new
  sound_left = record {
    coherent = coherent_left;
    parts = record {
      joined = swept.left.joined;
      table = swept.left.table;
      base = swept.left.base;
      soft = swept.left.soft;
      sections = swept.left.sections;
      seals = swept.left.seals;
      patches = subst (λ (n : ℕ). n ≤ 2 ^ 64 - 1) (sym swept.left.patches) sound.patches;
      maps = subst (λ (n : ℕ). n ≤ 2 ^ 64 - 1) (sym swept.left.maps) sound.maps;
    };
    undo = swept.left.undo;
  }

  replied : ids (garbage_of aside) ≡ removed
  replied = ap ids (sym swept.are) ∙ ids_back removed

  swept_does : (said : Outcome Done) (reply : List CellId → Reply) → said ≡ done (reply (ids (garbage_of aside))) (without_cells w (garbage_of aside)) → fresh_by (reply removed) ≡ [] → patched_by (reply removed) ≡ 0 → HasDone said 0 old (reply removed) new
  swept_does said reply e none unpatched =
      counts_stand said old new (reply removed) sound sound_left
      (e ∙ (ap (λ (cs : List CellId). done (reply cs) (without_cells w (garbage_of aside))) replied ∙ ap (done (reply removed)) left))
      none unpatched swept.left.patches swept.left.maps

-- `unload`, once the names are read

-- what is left to do by the numbers
abbrev on_numbers : World → List ℕ → Outcome Done
on_numbers w ns =
    refused_by (first_held (holding_of (detach (suc w.swaps) ns w)) ns)
    >> done (UnloadDone (ids (garbage_of (detach (suc w.swaps) ns w)))) (purged (detach (suc w.swaps) ns w))

module _ (w : World) (names : List CellName) where
  bound_refused : (a : Outcome (List Cell)) (r : Refusal) → (a >>= (λ cells. Ok (numbers_of cells))) ≡ Err r → (a >>= (λ cells. on_numbers w (numbers_of cells))) ≡ Err r
  bound_refused (Ok cells) r e = cc
  bound_refused (Err s) r e = cc

  bound_accepted : (a : Outcome (List Cell)) (ns : List ℕ) → (a >>= (λ cells. Ok (numbers_of cells))) ≡ Ok ns → (a >>= (λ cells. on_numbers w (numbers_of cells))) ≡ on_numbers w ns
  bound_accepted (Ok cells) ns e = ap (on_numbers w) (ok_same (numbers_of cells) ns e)
  bound_accepted (Err s) ns e = cc

  unload_refused : (r : Refusal) → cells_numbered w names ≡ Err r → next_unload w names ≡ Err r
  unload_refused r e = bound_refused (named_cells w names) r e

  unload_goes_on : (ns : List ℕ) → cells_numbered w names ≡ Ok ns → next_unload w names ≡ on_numbers w ns
  unload_goes_on ns e = bound_accepted (named_cells w names) ns e

module _ (old : Machine) (sound : IsSound old) (names : List CellName) where
  -- a name that is no cell's
  pub unload_unnamed : (fail : Fail) → FailsAs fail (cells_numbered (world_of old) names) → Does (next_unload (world_of old) names) no_stack old (Err fail) old
  unload_unnamed (Refused refusal) e = (unload_refused (world_of old) names refusal e, same_itself old)
  unload_unnamed OutOfMemory e = same_itself old

  module _ (cells : List CellId) (named : cells_numbered (world_of old) names ≡ Ok (map (λ c. c.0) cells)) where
    -- a cell that is kept
    pub unload_failed : (fail : Fail) (new : Machine) → IsUnswept old cells fail new → Does (next_unload (world_of old) names) no_stack old (Err fail) new
    unload_failed (Refused refusal) new s = (
      unload_goes_on (world_of old) names (map (λ c. c.0) cells) named
          ∙ ap (λ (o : Option Refusal). refused_by o >> done (UnloadDone (ids (garbage_of (aside_in old cells)))) (purged (aside_in old cells))) s.0,
      s.1,
    )
    unload_failed OutOfMemory new s = s

    pub unload_done : (removed : List CellId) (new : Machine) → IsSwept old cells removed new → HasDone (next_unload (world_of old) names) 0 old (UnloadDone removed) new
    unload_done removed new swept =
        swept_does old sound cells removed new swept (next_unload (world_of old) names) UnloadDone
        (unload_goes_on (world_of old) names (map (λ c. c.0) cells) named
        ∙ (ap (λ (o : Option Refusal). refused_by o >> done (UnloadDone (ids (garbage_of (aside_in old cells)))) (purged (aside_in old cells))) swept.free
        ∙ ap (done (UnloadDone (ids (garbage_of (aside_in old cells))))) (aside_left (world_of old) sound.coherent (suc (world_of old).swaps) (map (λ c. c.0) cells) swept.free)))
        refl refl

-- `purge` puts nothing aside
module _ (old : Machine) (sound : IsSound old) where
  none_aside : aside_in old [] ≡ world_of old
  none_aside = ap (λ (cells : List Cell). record (world_of old) { cells = cells }) (In-fixed (put_aside (suc (world_of old).swaps) []) (world_of old).cells (λ c i. refl))

  pub purge_failed : (fail : Fail) (new : Machine) → IsUnswept old [] fail new → Does (next_purge (world_of old)) no_stack old (Err fail) new
  purge_failed (Refused refusal) new s = absurd (no_refusal (first_held (holding_in old []) []) refl s.0)
    where
      no_refusal : (o : Option Refusal) → o ≡ None → o ≡ Some refusal → ⊥
      no_refusal o n e = cc
  purge_failed OutOfMemory new s = s

  pub purge_done : (removed : List CellId) (new : Machine) → IsSwept old [] removed new → HasDone (next_purge (world_of old)) 0 old (PurgeDone removed) new
  purge_done removed new swept =
      swept_does old sound [] removed new swept (next_purge (world_of old)) PurgeDone
      (ap (λ (v : World). done (PurgeDone (ids (garbage_of v))) (without_cells (world_of old) (garbage_of v))) (sym none_aside))
      refl refl
