-- What looking for the file of a namespace and a stem comes to.
use Rattle.std.specs.Prelude.{◌≡◌, ℕ, List, [], ◌∷◌, Result, Ok, Err, Some, map, slice_get}
use Rattle.std.specs.Borrow.{Bor}
use Rattle.cell_world.specs.declared.file.File.{File}
use Rattle.cell_world.specs.Gather.{Source, source_of, depot_files}
use Rattle.cell_depot.specs.declared.depot.DepotFault.{DepotFault}
use Rattle.cell_depot.specs.declared.depot.DepotFault.TheVariants.{NoObject, Ambiguous}

-- the file stands in the list, and is the only one that was looked for
pub record IsOnly (files : List File) (chosen : List Source) (file : File) : Type 0 where
  pub place : ℕ
  pub at : slice_get files place ≡ Some file
  pub only : chosen ≡ source_of file ∷ []

-- the first two of those that were looked for stand at these places of the list
pub record AreFirst (files : List File) (chosen : List Source) (one two : ℕ) : Type 0 where
  pub first : File
  pub second : File
  pub rest : List Source
  pub first_at : slice_get files one ≡ Some first
  pub second_at : slice_get files two ≡ Some second
  pub are : chosen ≡ source_of first ∷ source_of second ∷ rest

-- the only file, or that there is none, or the places of the two whose names come first
abbrev pub Finds : List ℕ → List ℕ → List File → Result (Bor File) DepotFault → Type 0
Finds ns stem files (Ok file) = IsOnly files (depot_files (map source_of files) ns stem) file.now
Finds ns stem files (Err NoObject) = depot_files (map source_of files) ns stem ≡ []
Finds ns stem files (Err (Ambiguous one two)) = AreFirst files (depot_files (map source_of files) ns stem) one two
