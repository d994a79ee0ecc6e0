-- Which cells have objects.
--     is_lacking sources c            no file has the name of the cell's, or its file breaks a rule
--     AreFound sources cells objects found    these are the cells, each with the place of its object
use Rattle.std.specs.Prelude.{◌≡◌, ◌<◌, ℕ, Bool, List, Option, Some, None, Result, Ok, Err, All, find, is_none, length, map, option_map}
use Rattle.cell_num.specs.Lists.{In}
use Rattle.cell_object.specs.declared.object.Object.{Object}
use Rattle.cell_world.specs.Coherent.{IsLoadable}
use Rattle.cell_world.specs.Gather.{Source}
use Rattle.cell_audit.specs.Described.{object_of}
use Rattle.cell_audit.specs.declared.written.WrittenCell.{WrittenCell}
use Rattle.cell_described.specs.declared.fail.DescribeFail.{DescribeFail}
use Rattle.cell_described.specs.declared.fail.DescribeFail.TheVariants.{NoObject, Misplaced, OutOfMemory}
use Rattle.cell_described.specs.declared.finding.Found.{Found}
use Rattle.cell_described.specs.declared.finding.FoundCell.{FoundCell}
use Rattle.cell_described.specs.declared.objects.Objects.{Objects}
use Rattle.cell_described.specs.Objects.{HasObject, IsSought}

abbrev pub is_lacking : List Source → WrittenCell → Bool
is_lacking sources c = is_none (object_of sources c.file)

abbrev pub lacking_line : List Source → List WrittenCell → Option ℕ
lacking_line sources cells = option_map (λ c. c.line) (find (is_lacking sources) cells)

-- the cell has its object
pub record IsFound (sources : List Source) (cell : WrittenCell) (old new : Objects) (f : FoundCell) : Type 0 where
  pub cell_is : f.cell ≡ cell
  pub sought : IsSought sources cell.file old new (Some f.object)

abbrev pub FindsOne : List Source → WrittenCell → Objects → Objects → Result FoundCell DescribeFail → Type 0
FindsOne sources cell old new (Ok f) = IsFound sources cell old new f
FindsOne sources cell old new (Err (NoObject line)) = (object_of sources cell.file ≡ None) × (line ≡ cell.line)
FindsOne sources cell old new (Err (Misplaced line)) = ⊥
FindsOne sources cell old new (Err OutOfMemory) = Unit {0}

pub record AreFound (sources : List Source) (cells : List WrittenCell) (objects : List Object) (found : List FoundCell) : Type 0 where
  pub cells_are : map (λ f. f.cell) found ≡ cells
  pub held : All (λ f. HasObject sources f.cell.file objects f.object) found
  pub loadable : All IsLoadable objects
  -- one for each file
  pub shared : (f g : FoundCell) → In f found → In g found → f.cell.file ≡ g.cell.file → f.object ≡ g.object
  pub used : (place : ℕ) → place < length objects → (f : FoundCell) × In f found × (f.object ≡ place)

abbrev pub Finds : List Source → List WrittenCell → Result Found DescribeFail → Type 0
Finds sources cells (Ok found) = AreFound sources cells found.objects.items found.cells.items
Finds sources cells (Err (NoObject line)) = lacking_line sources cells ≡ Some line
Finds sources cells (Err (Misplaced line)) = ⊥
Finds sources cells (Err OutOfMemory) = Unit {0}
