-- The originals of a change's copies.
--     IsPresent m copy            the cell of that number is there, and the spaces know it
--     IsOriginal m copy o         o is that cell, with the names that the spaces have of it
--     AreOriginals m copies all   the same of all copies, in their order
use Rattle.std.specs.Prelude.{◌≡◌, ◌<◌, IsSome, IsTrue, List, [], ◌∷◌, Some, find, length, nat_lt, option_map, ◌==◌}
use Rattle.cell_num.specs.Lists.{each_pair}
use Rattle.cell_gather.specs.declared.copies.Original.{Original}
use Rattle.cell_machine.specs.declared.machine.Machine.{Machine}
use Rattle.cell_space.specs.Named.{cell_numbered}
use Rattle.cell_space.specs.Spaces.{HasCell}
use Rattle.cell_change.specs.declared.request.CellCopy.{CellCopy}

pub record IsPresent (m : Machine) (copy : CellCopy) : Type 0 where
  pub order : IsTrue (each_pair (λ a b. nat_lt a.id.0 b.id.0) m.cells.items)
  pub cell : IsSome (find (λ c. c.id.0 == copy.original.0) m.cells.items)
  pub known : HasCell m.spaces copy.original.0
  pub space : copy.ns < length m.spaces.namespaces

pub record IsOriginal (m : Machine) (copy : CellCopy) (o : Original) : Type 0 where
  pub cell : find (λ c. c.id.0 == copy.original.0) m.cells.items ≡ Some o.cell.now
  pub names : option_map (λ c. c.names) (cell_numbered m.spaces.cells copy.original.0) ≡ Some o.names.now
  pub space : o.ns ≡ copy.ns

abbrev pub AreOriginals : Machine → List CellCopy → List Original → Type 0
AreOriginals m [] [] = Unit {0}
AreOriginals m [] (o ∷ all) = ⊥
AreOriginals m (copy ∷ copies) [] = ⊥
AreOriginals m (copy ∷ copies) (o ∷ all) = IsOriginal m copy o × AreOriginals m copies all
