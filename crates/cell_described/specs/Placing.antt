-- Which cells stand where they may.
--     described_of f                  the cell with the places of its sections
--     PlacesOne objects t f r after   the cell with these places, or the line of its first fault
--     Places objects t found r        the cells, or the line of the first fault of all
use Rattle.std.specs.Prelude.{◌≡◌, List, Some, None, Result, Ok, Err, Vec, map}
use Rattle.cell_object.specs.declared.object.Object.{Object}
use Rattle.cell_described.specs.declared.cell.DescribedCell.{DescribedCell}
use Rattle.cell_described.specs.declared.fail.DescribeFail.{DescribeFail}
use Rattle.cell_described.specs.declared.fail.DescribeFail.TheVariants.{NoObject, Misplaced, OutOfMemory}
use Rattle.cell_described.specs.declared.finding.FoundCell.{FoundCell}
use Rattle.cell_described.specs.Faults.{cell_fault, cells_fault, object_at, place_seen, taken_with}
use Rattle.cell_described.specs.Taken.{TakenState}

abbrev pub described_of : FoundCell → DescribedCell
described_of f =
    record {
      line = f.cell.line;
      id = record { 0 = f.cell.cell };
      ns = f.cell.ns;
      stem = f.cell.stem;
      file = f.cell.file;
      group = f.cell.group;
      object = f.object;
      places = map place_seen f.cell.places.items;
      aliases = f.cell.aliases;
    }

pub record IsPlaced (objects : List Object) (t : TakenState) (f : FoundCell) (cell : DescribedCell) (after : TakenState) : Type 0 where
  pub fault : cell_fault t (object_at objects f.object) f.cell ≡ None
  pub is : cell ≡ described_of f
  pub taken : after ≡ taken_with t objects f

abbrev pub PlacesOne : List Object → TakenState → FoundCell → Result DescribedCell DescribeFail → TakenState → Type 0
PlacesOne objects t f (Ok cell) after = IsPlaced objects t f cell after
PlacesOne objects t f (Err (Misplaced line)) after = cell_fault t (object_at objects f.object) f.cell ≡ Some line
PlacesOne objects t f (Err (NoObject line)) after = ⊥
PlacesOne objects t f (Err OutOfMemory) after = Unit {0}

abbrev pub FailsToPlace : List Object → TakenState → List FoundCell → DescribeFail → Type 0
FailsToPlace objects t found (Misplaced line) = cells_fault t objects found ≡ Some line
FailsToPlace objects t found (NoObject line) = ⊥
FailsToPlace objects t found OutOfMemory = Unit {0}

abbrev pub Places : {Z : Type 0} → List Object → TakenState → List FoundCell → Result (Vec DescribedCell Z) DescribeFail → Type 0
Places objects t found (Ok cells) = (cells_fault t objects found ≡ None) × (cells.items ≡ map described_of found)
Places objects t found (Err fail) = FailsToPlace objects t found fail
