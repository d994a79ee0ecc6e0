-- Addresses far below the numbers of 64 bits, so that sums of them are numbers of 64 bits.
use Rattle.std.specs.Prelude.{◌≡◌, ◌<◌, ◌^◌, ℕ, nat_lt, IsTrue, true}
use Rattle.cell_num.specs.Lists.{each_pair, In}
use Rattle.cell_object.specs.declared.object.Object.{Object}
use Rattle.cell_object.specs.declared.object.Symbol.{Symbol}
use Rattle.cell_object.specs.Parts.{is_defined}
use Rattle.cell_world.specs.declared.state.NewCell.{NewCell}
use Rattle.cell_world.specs.Linked.Target.{start_of}

-- the values of the symbols that the object defines are far below the numbers of 64 bits
abbrev pub AreLow : Object → Type 0
AreLow object = (s : Symbol) → In s object.symbols → is_defined s.home ≡ true → s.value < 2 ^ 63

-- the cell's places are in the order of its sections, and the addresses of its symbols are numbers of 64 bits
pub record IsLow (c : NewCell) : Type 0 where
  pub ordered : IsTrue (each_pair (λ a b. nat_lt a.section b.section) c.places)
  pub starts : (section : ℕ) → start_of c section < 2 ^ 63
  pub values : AreLow c.object
