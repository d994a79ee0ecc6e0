-- A machine's cells and their places.
use Rattle.std.proofs.Common.{◌≡◌, ◌∙◌, ap, sym, subst, arith, ℕ, ◌+◌, ◌<◌, List, [], ◌∷◌, ◌++◌, get_or, length, take}
use Rattle.std.proofs.lemmas.List.{get_or-map, length-map, take_more}
use Rattle.cell_world.specs.declared.state.NewCell.{NewCell}
use Rattle.cell_world.specs.World.{Cell}
use Rattle.cell_world.specs.declared.state.Standing.TheVariants.{Attached}
use Rattle.cell_num.specs.Lists.{In}
use Rattle.cell_num.proofs.Elements.{In-map, map-In}
use Rattle.cell_space.specs.Joined.{placed_of}
use Rattle.cell_machine.specs.declared.machine.Machine.{Machine}
use Rattle.cell_machine.specs.Machine.{IsSound, world_of}
use Rattle.cell_machine.proofs.Lists.{in_get}

module _ (m : Machine) (sound : IsSound m) where
  -- the place of each cell of the machine is among the machine's places
  pub placed_in : (c : Cell) → In c (world_of m).cells → In c.placed m.cells.items
  placed_in c i = subst (λ (cs : List NewCell). In c.placed cs) sound.joined.placed (map-In placed_of (world_of m).cells c i)

  -- and each of these is that of a cell
  pub cell_in : (c : NewCell) → In c m.cells.items → (d : Cell) × In d (world_of m).cells × (c ≡ d.placed)
  cell_in c i = In-map placed_of (world_of m).cells c (subst (λ (cs : List NewCell). In c cs) (sym sound.joined.placed) i)

  abbrev cells : List Cell
  cells = (world_of m).cells

  -- the cell at a place, in the order of the cells
  pub record CellAt (place : ℕ) (c : NewCell) : Type 0 where
    pub cell : Cell
    pub there : In cell cells
    pub placed : cell.placed ≡ c
    pub next : take (place + 1) cells ≡ take place cells ++ cell ∷ []

  pub cell_at : (place : ℕ) (c : NewCell) → place < length m.cells.items → c ≡ get_or m.cells.items place c → CellAt place c
  cell_at place c lt is =
      let d : Cell = record { placed = c; aliases = []; standing = Attached } in
      let below : place < length cells = omega (arith, lt, length-map cells placed_of, ap length sound.joined.placed) in
      record {
        cell = get_or cells place d;
        there = in_get cells place d below;
        placed = sym (get_or-map placed_of cells place d c below) ∙ (ap (λ (cs : List NewCell). get_or cs place c) sound.joined.placed ∙ sym is);
        next = take_more cells place d below;
      }
