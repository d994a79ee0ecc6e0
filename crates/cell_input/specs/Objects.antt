-- The object files among the names of a folder.
use Rattle.std.specs.Prelude.{ℕ, ◌≡◌, ◌≤◌, true, All, List, [], filter, fold, length}
use Rattle.std.specs.List.{list_all}
use Rattle.cell_num.specs.Limits.{max_files, max_file_bytes}
use Rattle.cell_num.specs.Lists.{each_pair, is_before}
use Rattle.std.specs.Ordering.{nat_cmp}
use Rattle.std.specs.Cmp.Lexicographic.{slice_cmp}
use Rattle.std.specs.BTreeSet.{insert_key}
use Rattle.cell_world.specs.declared.file.File.{File}
use Rattle.cell_depot.specs.Files.{are_in_order}
use Rattle.cell_depot.specs.ObjectName.{is_object_name}

-- the names of object files in byte order, each once
abbrev pub objects_of : List (List ℕ) → List (List ℕ)
objects_of names = fold (insert_key (slice_cmp nat_cmp)) [] (filter is_object_name names)

-- not too many names of object files, in byte order
pub record AreObjects (names : List (List ℕ)) : Type 0 where
  pub few : length names ≤ max_files
  pub named : list_all is_object_name names ≡ true
  pub ordered : each_pair is_before names ≡ true

-- not too many files of at most a mebibyte, with names of object files, in byte order
pub record AreObjectFiles (files : List File) : Type 0 where
  pub few : length files ≤ max_files
  pub small : All (λ f. length f.bytes ≤ max_file_bytes) files
  pub named : list_all (λ f. is_object_name f.name) files ≡ true
  pub ordered : are_in_order files ≡ true
