-- Object files, and what a list of them must be.
--     is_named_for ns stem f     the file is of that namespace and stem
--     shelf ns stem files        these files with their places in the list, in byte order of their names
--     has_name name f            the file has that name
--     are_apart files            no two files have one name
--     are_in_order files         each name is before those after it
use Rattle.std.specs.Prelude.{ℕ, Bool, not, ◌&&◌, List, [], ◌∷◌, map, filter, fold, if◌then◌else◌}
use Rattle.cell_num.specs.Lists.{equals, is_before, numbered, each_pair}
use Rattle.cell_world.specs.declared.file.File.{File}
use Rattle.cell_world.specs.Gather.{ns_of_file, stem_of_file}

abbrev pub is_named_for : List ℕ → List ℕ → File → Bool
is_named_for ns stem f = equals (ns_of_file f.name) ns && equals (stem_of_file f.name) stem

-- a file with its place
abbrev pub with_numbered : ℕ × File → List (ℕ × File) → List (ℕ × File)
with_numbered p [] = p ∷ []
with_numbered p (q ∷ ps) = if is_before p.1.name q.1.name then p ∷ q ∷ ps else q ∷ with_numbered p ps

abbrev pub shelf : List ℕ → List ℕ → List File → List (ℕ × File)
shelf ns stem files = fold (λ sorted p. with_numbered p sorted) [] (filter (λ p. is_named_for ns stem p.1) (numbered files))

-- where the elements that pass a test stand
abbrev pub places_where : {X : Type 0} → (X → Bool) → List X → List ℕ
places_where test xs = map (λ p. p.0) (filter (λ p. test p.1) (numbered xs))

abbrev pub has_name : List ℕ → File → Bool
has_name name f = equals f.name name

abbrev pub are_apart : List File → Bool
are_apart files = each_pair (λ f g. not (equals f.name g.name)) files

-- in byte order of their names, of which no two are the same
abbrev pub are_in_order : List File → Bool
are_in_order files = each_pair (λ f g. is_before f.name g.name) files
