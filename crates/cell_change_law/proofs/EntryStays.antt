-- Where a task may begin again before the new cells have places, it may begin there once all is linked.
use Rattle.std.proofs.Common.{◌≡◌, refl, sym, ◌∙◌, ap, ℕ, ◌+◌, Bool, true, false, cond, List, [], ◌∷◌, map, Option, Some, None, Ok}
use Rattle.std.specs.Prelude.{find, option_map, option_and_then, is_some, ◌==◌}
use Rattle.cell_world.specs.declared.refusal.Refusal.TheVariants.{NoEntry}
use Rattle.cell_world.specs.declared.state.Standing.TheVariants.{Attached}
use Rattle.cell_world.specs.World.{World, Cell, Task, cell_of}
use Rattle.cell_world.specs.Names.{Provider, attached_provider}
use Rattle.cell_world.specs.Linked.Target.{start_of}
use Rattle.cell_world.specs.Commands.SpawnCommand.{entry_named, entry_address, entry_offset}
use Rattle.cell_world.specs.Running.Restart.{entry_again, no_entry_again, restarted, restarted_in}
use Rattle.cell_world.specs.Change.{Change, Plan, restarting, plan_of}
use Rattle.cell_world.specs.Gather.{Source}
use Rattle.cell_world.specs.Coherent.{AreSound, IsCoherent}
use Rattle.cell_lemmas.proofs.Placement.PlacedAll.{Placed}
use Rattle.cell_lemmas.proofs.Naming.Renamed.{bare, provider_bare}
use Rattle.cell_change_law.specs.Sound.{IsSound}
use Rattle.cell_change_law.proofs.Placing.{placed}
use Rattle.cell_change_law.proofs.Steps.{Planned, planned}

find_bare : (n : ℕ) (cells : List Cell) → find (λ c. c.id.0 == n) (map bare cells) ≡ option_map bare (find (λ c. c.id.0 == n) cells)
find_bare n [] = refl
find_bare n (c ∷ cells) = go (c.id.0 == n) (find_bare n cells)
  where
    go : (b : Bool) → find (λ c. c.id.0 == n) (map bare cells) ≡ option_map bare (find (λ c. c.id.0 == n) cells)
        → cond b (Some (bare c)) (find (λ c. c.id.0 == n) (map bare cells)) ≡ option_map bare (cond b (Some c) (find (λ c. c.id.0 == n) cells))
    go true e = refl
    go false e = e

-- whether there is an entry is no matter of places
abbrev has_entry : ℕ → Option Cell → Bool
has_entry symbol o = is_some (option_and_then (λ c. entry_offset c.object symbol) o)

abbrev has_entry_by : World → Option Provider → Bool
has_entry_by w None = false
has_entry_by w (Some p) = has_entry p.symbol (option_map bare (cell_of w p.cell))

entry_some : (w : World) (ns : ℕ) (name : List ℕ) → is_some (entry_named w ns name) ≡ has_entry_by w (attached_provider w ns name)
entry_some w ns name = go (attached_provider w ns name)
  where
    last : (c : Cell) (o : Option (ℕ × ℕ)) → is_some (option_map {T = ℕ} {U = ℕ × ℕ} (λ addr. (c.id.0, addr)) (option_map (λ place. start_of c.placed place.0 + place.1) o)) ≡ is_some o
    last c None = refl
    last c (Some place) = refl

    mid : (symbol : ℕ) (o : Option Cell) → is_some (option_and_then {T = Cell} {U = ℕ × ℕ} (λ c. option_map (λ addr. (c.id.0, addr)) (entry_address c symbol)) o) ≡ has_entry symbol (option_map bare o)
    mid symbol None = refl
    mid symbol (Some c) = last c (entry_offset c.object symbol)

    go : (o : Option Provider) → is_some (option_and_then {T = Provider} {U = ℕ × ℕ} (λ p. option_and_then (λ c. option_map (λ addr. (c.id.0, addr)) (entry_address c p.symbol)) (cell_of w p.cell)) o) ≡ has_entry_by w o
    go None = refl
    go (Some p) = mid p.symbol (cell_of w p.cell)

entry_bare : (g w : World) → w.namespaces ≡ g.namespaces → map bare w.cells ≡ map bare g.cells → (ns : ℕ) (name : List ℕ) → is_some (entry_named w ns name) ≡ is_some (entry_named g ns name)
entry_bare g w n e ns name =
    entry_some w ns name
    ∙ (ap (has_entry_by w) (provider_bare g w n e Attached ns name)
    ∙ (by (attached_provider g ns name) ∙ sym (entry_some g ns name)))
  where
    by : (o : Option Provider) → has_entry_by w o ≡ has_entry_by g o
    by None = refl
    by (Some p) = ap (has_entry p.symbol) (sym (find_bare p.cell w.cells) ∙ (ap (find (λ (c : Cell). c.id.0 == p.cell)) e ∙ find_bare p.cell g.cells))

module _ (sources : List Source) (sound : AreSound sources) (v : World) (h : IsCoherent v) (asked : Change) (good : IsSound sources v asked) (plan : Plan) (e : plan_of sources v asked ≡ Ok plan) where
  x : Planned sources v asked plan
  x = planned sources v asked plan e

  step : Placed x.gathered x.world
  step = placed sources sound v h asked good x.gathered x.gathering x.world x.placing

  has_place : (t : Task) → restarting v asked ≡ Some t → is_some (entry_again x.world t) ≡ true
  has_place t r =
      entry_bare x.gathered x.world (ap (λ (u : World). u.namespaces) step.rest) step.cells t.origin.ns t.origin.name
      ∙ early (is_some (entry_again x.gathered t)) (ap (λ (o : Option Task). option_and_then (no_entry_again x.gathered) o) (sym r) ∙ x.begins_again)
    where
      early : (b : Bool) → cond b None (Some (NoEntry t.origin.name)) ≡ None → b ≡ true
      early true k = refl
      early false k = absurd cc

  -- so the task of an accepted change begins again
  pub surely_begins : (t : Task) → restarting v asked ≡ Some t → (u : Task) × (plan.restarted ≡ Some u)
  surely_begins t r = go (entry_again x.world t) refl (has_place t r)
    where
      go : (o : Option (ℕ × ℕ)) → entry_again x.world t ≡ o → is_some o ≡ true → (u : Task) × (plan.restarted ≡ Some u)
      go None f s = absurd cc
      go (Some entry) f s = (
        restarted t entry,
        ap (λ (y : Plan). y.restarted) (sym x.is)
            ∙ (ap (λ (o : Option Task). option_and_then (restarted_in x.world) o) r ∙ ap (λ (o : Option (ℕ × ℕ)). option_map (restarted t) o) f),
      )
