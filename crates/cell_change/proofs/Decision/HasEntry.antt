-- Whether a task may begin at a name's provider, by what the spaces answer and by the cells without their names.
use Rattle.std.proofs.Common.{◌≡◌, refl, sym, ◌∙◌, ap, ap₂, ℕ, ◌+◌, Bool, true, false, cond, List, ◌++◌, map, Option, Some, None}
use Rattle.std.specs.Prelude.{is_some, option_and_then, option_map}
use Rattle.cell_world.specs.declared.refusal.Refusal.{Refusal}
use Rattle.cell_world.specs.declared.refusal.Refusal.TheVariants.{NoEntry}
use Rattle.cell_world.specs.declared.state.Namespace.{Namespace}
use Rattle.cell_world.specs.declared.state.NewCell.{NewCell}
use Rattle.cell_world.specs.declared.state.Standing.TheVariants.{Attached}
use Rattle.cell_world.specs.Commands.SpawnCommand.{entry_address, entry_named, entry_offset}
use Rattle.cell_world.specs.Linked.Target.{start_of}
use Rattle.cell_world.specs.Names.{Provider, attached_provider, chain}
use Rattle.cell_world.specs.Running.Restart.{entry_again, no_entry_again}
use Rattle.cell_world.specs.World.{Cell, Task, World, cell_of}
use Rattle.cell_gather.specs.declared.gathering.Gathered.{Gathered}
use Rattle.cell_machine.specs.declared.machine.Machine.{Machine}
use Rattle.cell_space.specs.declared.cell.SpaceCell.{SpaceCell}
use Rattle.cell_space.specs.Joined.{placed_of}
use Rattle.cell_space.specs.Named.{provider_for}
use Rattle.cell_space.proofs.Joined.{found_placed}
use Rattle.cell_space.proofs.Machines.{provider_for-called}
use Rattle.cell_change.specs.Restarting.{AreAhead, has_begin}

module _ (w : World) where
  last : (c : Cell) (o : Option (ℕ × ℕ)) → is_some (option_map {T = ℕ} {U = ℕ × ℕ} (λ addr. (c.id.0, addr)) (option_map (λ place. start_of c.placed place.0 + place.1) o)) ≡ is_some o
  last c None = refl
  last c (Some place) = refl

  mid : (symbol : ℕ) (o : Option Cell)
      → is_some (option_and_then {T = Cell} {U = ℕ × ℕ} (λ c. option_map (λ addr. (c.id.0, addr)) (entry_address c symbol)) o) ≡ is_some (option_and_then {T = NewCell} {U = ℕ × ℕ} (λ c. entry_offset c.object symbol) (option_map placed_of o))
  mid symbol None = refl
  mid symbol (Some c) = last c (entry_offset c.object symbol)

  has_place : (ns : ℕ) (name : List ℕ) → is_some (entry_named w ns name) ≡ has_begin (map placed_of w.cells) (attached_provider w ns name)
  has_place ns name = go (attached_provider w ns name)
    where
      go : (o : Option Provider) → is_some (option_and_then {T = Provider} {U = ℕ × ℕ} (λ p. option_and_then (λ c. option_map (λ addr. (c.id.0, addr)) (entry_address c p.symbol)) (cell_of w p.cell)) o) ≡ has_begin (map placed_of w.cells) o
      go None = refl
      go (Some p) =
          mid p.symbol (cell_of w p.cell)
          ∙ ap (λ (o : Option NewCell). is_some (option_and_then {T = NewCell} {U = ℕ × ℕ} (λ c. entry_offset c.object p.symbol) o)) (found_placed p.cell w.cells)

  module _ (m : Machine) (g : Gathered) (is : AreAhead w m g) (ns : ℕ) (name : List ℕ) where
    abbrev provider : Option Provider
    provider = provider_for (chain g.ahead.namespaces ns) Attached name g.ahead.cells

    pub has_ahead : has_begin (m.cells.items ++ g.cells.items) provider ≡ is_some (entry_named w ns name)
    has_ahead =
        sym (has_place ns name
        ∙ ap₂ has_begin is.placed
        (provider_for-called w ns name Attached ∙ ap₂ (λ (spaces : List Namespace) (cells : List SpaceCell). provider_for (chain spaces ns) Attached name cells) is.named.namespaces is.named.cells))

-- what a task that is to begin again is refused for
pub none_refused : (w : World) (t : Task) → is_some (entry_again w t) ≡ true → no_entry_again w t ≡ None
none_refused w t e = ap (λ (b : Bool). cond b (let o : Option Refusal = None in o) (Some (NoEntry t.origin.name))) e

pub some_refused : (w : World) (t : Task) → is_some (entry_again w t) ≡ false → no_entry_again w t ≡ Some (NoEntry t.origin.name)
some_refused w t e = ap (λ (b : Bool). cond b (let o : Option Refusal = None in o) (Some (NoEntry t.origin.name))) e
