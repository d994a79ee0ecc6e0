-- The sections of a machine's cells as they are collected.
use Rattle.std.proofs.Common.{◌≡◌, refl, sym, ◌∙◌, ap, true, List, [], ◌∷◌, ◌++◌, map}
use Rattle.std.specs.Prelude.{flat_map, nat_lt}
use Rattle.cell_num.specs.Lists.{each_pair, In}
use Rattle.cell_world.specs.declared.state.NewCell.{NewCell}
use Rattle.cell_world.specs.declared.state.Placed.{Placed}
use Rattle.cell_world.specs.Kept.{placed_in}
use Rattle.cell_world.specs.World.{Cell, attached}
use Rattle.cell_machine.specs.declared.machine.Machine.{Machine}
use Rattle.cell_machine.specs.Machine.{IsSound, world_of}
use Rattle.cell_space.specs.Joined.{placed_of}
use Rattle.cell_machine.proofs.Looked.{cell_low}

pub flat-map : (cells : List Cell) → flat_map (λ c. placed_in (attached c)) (map placed_of cells) ≡ flat_map placed_in cells
flat-map [] = refl
flat-map (c ∷ cells) = ap (λ (ps : List Placed). placed_in c ++ ps) (flat-map cells)

module _ (m : Machine) (sound : IsSound m) where
  -- the places of a cell are in the order of its sections
  pub ordered : (c : NewCell) → In c m.cells.items → each_pair (λ a b. nat_lt a.section b.section) c.places ≡ true
  ordered c i = (cell_low m sound c i).ordered

  -- the sections are those of the machine's cells
  pub all_there : flat_map (λ c. placed_in (attached c)) m.cells.items ≡ flat_map placed_in (world_of m).cells
  all_there = ap (flat_map (λ (c : NewCell). placed_in (attached c))) (sym sound.joined.placed) ∙ flat-map (world_of m).cells
