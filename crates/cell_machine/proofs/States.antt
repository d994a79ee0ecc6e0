-- The spaces know each cell, with its standing.
use Rattle.std.proofs.Common.{◌≡◌, ◌⊎◌, ◌∙◌, ap, refl, sym, arith, inl, inr, ℕ, Bool, true, false, cond, List, [], ◌∷◌, map}
use Rattle.std.specs.Prelude.{Option, Some, None, IsSome, ◌==◌, find, nat_lt, option_map}
use Rattle.std.proofs.lemmas.Bool.{ltb-true, eqb-true, eq-eqb}
use Rattle.cell_num.specs.Lists.{each_pair, In}
use Rattle.cell_world.specs.declared.state.NewCell.{NewCell}
use Rattle.cell_world.specs.Commands.MapCommand.{group_of}
use Rattle.cell_world.specs.World.{Cell, Standing}
use Rattle.cell_world.specs.declared.state.Standing.TheVariants.{Attached, Detached}
use Rattle.cell_num.proofs.Elements.{find_there, found-In, pairs-In}
use Rattle.cell_space.specs.declared.cell.SpaceCell.{SpaceCell}
use Rattle.cell_space.specs.Machine.{called}
use Rattle.cell_space.specs.Named.{cell_numbered}
use Rattle.cell_space.specs.Spaces.{HasCell}
use Rattle.cell_machine.specs.declared.machine.Machine.{Machine}
use Rattle.cell_machine.specs.Machine.{IsSound, world_of}
use Rattle.cell_machine.proofs.Joined.{cell_in}

one_called : (b : Bool) (c : Cell) (found : Option SpaceCell) (rest : Option Cell) → found ≡ option_map called rest → cond b (Some (called c)) found ≡ option_map called (cond b (Some c) rest)
one_called true c found rest e = refl
one_called false c found rest e = e

numbered_called : (n : ℕ) (cells : List Cell) → cell_numbered (map called cells) n ≡ option_map called (find (λ c. c.id.0 == n) cells)
numbered_called n [] = refl
numbered_called n (c ∷ cells) = one_called (c.id.0 == n) c (cell_numbered (map called cells) n) (find (λ c. c.id.0 == n) cells) (numbered_called n cells)

-- each cell is found by its number
pub found_one : (cells : List Cell) → each_pair (λ (a b : Cell). nat_lt a.id.0 b.id.0) cells ≡ true → (c : Cell) → In c cells → find (λ d. d.id.0 == c.id.0) cells ≡ Some c
found_one cells order c i =
    let y = find_there (λ d. d.id.0 == c.id.0) cells c i (eq-eqb c.id.0 c.id.0 refl) in
    let k = found-In (λ d. d.id.0 == c.id.0) cells y.0 y.1 in
    y.1 ∙ ap (λ (d : Cell). Some d) (go y.0 (pairs-In (λ (a b : Cell). nat_lt a.id.0 b.id.0) cells order y.0 c k.0 i) (eqb-true y.0.id.0 c.id.0 k.1))
  where
    go : (d : Cell) → (d ≡ c) ⊎ ((nat_lt d.id.0 c.id.0 ≡ true) ⊎ (nat_lt c.id.0 d.id.0 ≡ true)) → d.id.0 ≡ c.id.0 → d ≡ c
    go d (inl e) s = e
    go d (inr (inl l)) s = absurd (omega (arith, ltb-true d.id.0 c.id.0 l, s))
    go d (inr (inr l)) s = absurd (omega (arith, ltb-true c.id.0 d.id.0 l, s))

module _ (m : Machine) (sound : IsSound m) where
  pub known_at : (d : Cell) → In d (world_of m).cells → cell_numbered m.spaces.cells d.id.0 ≡ Some (called d)
  known_at d i =
      ap (λ (cs : List SpaceCell). cell_numbered cs d.id.0) (sym sound.joined.called)
      ∙ (numbered_called d.id.0 (world_of m).cells ∙ ap (option_map called) (found_one (world_of m).cells sound.coherent.ready.cell_order d i))

  pub has_cell : (c : NewCell) → In c m.cells.items → HasCell m.spaces c.id.0
  has_cell c i = let d = cell_in m sound c i in is_there (cell_numbered m.spaces.cells c.id.0) (called d.0) (ap (λ (x : NewCell). cell_numbered m.spaces.cells x.id.0) d.2 ∙ known_at d.0 d.1)
    where
      is_there : (o : Option SpaceCell) (c : SpaceCell) → o ≡ Some c → IsSome o
      is_there None c e = absurd (cc e)
      is_there (Some x) c e = refl

  -- the state that they tell is the cell's standing
  pub state_told : (d : Cell) → In d (world_of m).cells → (p : NewCell) → d.placed ≡ p → (s : Standing) → option_map (λ (c : SpaceCell). c.state) (cell_numbered m.spaces.cells p.id.0) ≡ Some s → s ≡ d.standing
  state_told d i p same s told =
      let here : option_map (λ (c : SpaceCell). c.state) (cell_numbered m.spaces.cells d.id.0) ≡ Some d.standing = ap (option_map (λ (c : SpaceCell). c.state)) (known_at d i) in
      some_same s d.standing (sym told ∙ (ap (λ (x : NewCell). option_map (λ (c : SpaceCell). c.state) (cell_numbered m.spaces.cells x.id.0)) (sym same) ∙ here))
    where
      some_same : (a b : Standing) → Some a ≡ (let o : Option Standing = Some b in o) → a ≡ b
      some_same a b h = cc

-- by its group
pub attached_group : (standing : Standing) → Attached ≡ standing → None ≡ group_of standing
attached_group Attached e = refl
attached_group (Detached k) e = cc

pub detached_group : (standing : Standing) (k : ℕ) → Detached k ≡ standing → Some k ≡ group_of standing
detached_group Attached k e = cc
detached_group (Detached l) k e = cc
