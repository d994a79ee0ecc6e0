-- What is found in a machine.
use Rattle.std.proofs.Common.{◌≡◌, sym, ◌∙◌, ap, subst, arith, ℕ, ◌+◌, ◌*◌, ◌<◌, ◌^◌, true, List}
use Rattle.std.specs.Prelude.{Option, Some, None, nat_lt, find, option_and_then, option_map}
use Rattle.cell_num.specs.Lists.{each_pair, In}
use Rattle.cell_world.specs.declared.state.NewCell.{NewCell}
use Rattle.cell_world.specs.declared.state.Target.{Target}
use Rattle.cell_world.specs.Names.{Provider, attached_provider, chain}
use Rattle.cell_world.specs.Linked.Target.{provided_target}
use Rattle.cell_world.specs.World.{World, cell_of}
use Rattle.cell_lemmas.specs.Linkable.{IsLinkable}
use Rattle.cell_num.proofs.Elements.{found-In}
use Rattle.cell_lemmas.proofs.Placement.Inside.{ready_linkable}
use Rattle.cell_placed.specs.Low.{IsLow}
use Rattle.cell_space.specs.Joined.{placed_of}
use Rattle.cell_space.specs.Named.{provider_for}
use Rattle.cell_world.specs.declared.state.Standing.TheVariants.{Attached}
use Rattle.cell_placed.proofs.Symbols.{at_place, provided_by_places}
use Rattle.cell_space.proofs.Joined.{found_placed, is_numbered}
use Rattle.cell_space.proofs.Machines.{provider_for-called}
use Rattle.cell_machine.specs.declared.machine.Machine.{Machine}
use Rattle.cell_machine.specs.Machine.{IsSound, world_of}
use Rattle.cell_machine.proofs.Joined.{cell_in}
use Rattle.cell_machine.proofs.Lists.{pairs-map}
use Rattle.cell_machine.proofs.Low.{is_low}

module _ (m : Machine) (sound : IsSound m) where
  abbrev w : World
  w = world_of m

  pub linkable : IsLinkable w
  linkable = ready_linkable w sound.coherent.ready

  -- the space ends far below the numbers of 64 bits
  pub ends_low : w.base + 4096 * w.pages < 2 ^ 63
  ends_low = let space = sound.coherent.ready.space in omega arith

  pub in_order : each_pair (λ (a b : NewCell). nat_lt a.id.0 b.id.0) m.cells.items ≡ true
  in_order =
      ap (each_pair (λ (a b : NewCell). nat_lt a.id.0 b.id.0)) (sym sound.joined.placed)
      ∙ (pairs-map (λ (a b : NewCell). nat_lt a.id.0 b.id.0) placed_of w.cells ∙ sound.coherent.ready.cell_order)

  -- cells are found among the places
  pub found_is : (n : ℕ) → find (is_numbered n) m.cells.items ≡ option_map placed_of (cell_of w n)
  found_is n = sym (found_placed n w.cells ∙ ap (find (is_numbered n)) sound.joined.placed)

  pub cell_low : (c : NewCell) → In c m.cells.items → IsLow c
  cell_low c i = let d = cell_in m sound c i in subst IsLow (sym d.2) (is_low w linkable ends_low d.0 d.1)

  pub found_low : (n : ℕ) (c : NewCell) → Some c ≡ option_map placed_of (cell_of w n) → IsLow c
  found_low n c e = cell_low c (found-In (is_numbered n) m.cells.items c (found_is n ∙ sym e)).0

  told : (ns : ℕ) (name : List ℕ) → provider_for (chain w.namespaces ns) Attached name m.spaces.cells ≡ attached_provider w ns name
  told ns name = sym (provider_for-called w ns name Attached ∙ ap (provider_for (chain w.namespaces ns) Attached name) sound.joined.called)

  module _ (ns : ℕ) (name : List ℕ) (t : Option Target) where
    pub nobody : t ≡ None → None ≡ provider_for (chain w.namespaces ns) Attached name m.spaces.cells → t ≡ option_and_then (provided_target w) (attached_provider w ns name)
    nobody e none = e ∙ ap (option_and_then (provided_target w)) (none ∙ told ns name)

    pub somebody : (p : Provider) → Some p ≡ provider_for (chain w.namespaces ns) Attached name m.spaces.cells
        → (c : Option NewCell) → c ≡ option_map placed_of (cell_of w p.cell) → t ≡ option_and_then (at_place p) c → t ≡ option_and_then (provided_target w) (attached_provider w ns name)
    somebody p some c here e =
        e
        ∙ (ap (option_and_then (at_place p)) here
        ∙ (sym (provided_by_places w p) ∙ ap (option_and_then (provided_target w)) (some ∙ told ns name)))
