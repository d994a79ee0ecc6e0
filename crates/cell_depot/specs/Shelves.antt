-- The tables of a depot.
--     places_at shelves ns stem      the places that are noted for the namespace and the stem
--     first_places sorted            what is noted of files with their places
--     name_at files place            the name of the file at a place
--     with_place files places place  what is noted after one more file
use Rattle.std.specs.Prelude.{◌≡◌, ◌<◌, ℕ, List, [], ◌∷◌, Option, Some, None, option_and_then, slice_get, length, if◌then◌else◌}
use Rattle.cell_num.specs.Lists.{first, is_before}
use Rattle.cell_world.specs.declared.file.File.{File}
use Rattle.cell_depot.specs.declared.names.NameMap.{NameMap}
use Rattle.cell_depot.specs.declared.shelves.Places.{Places}
use Rattle.cell_depot.specs.declared.shelves.Places.TheVariants.{One, Several}
use Rattle.cell_depot.specs.declared.shelves.Shelves.{Shelves}
use Rattle.cell_depot.specs.Values.{value_of}
use Rattle.cell_depot.specs.Files.{shelf, places_where, has_name}

abbrev pub places_at : Shelves → List ℕ → List ℕ → Option Places
places_at shelves ns stem = option_and_then (λ stems. value_of stems stem) (value_of shelves.namespaces ns)

-- the only place, or the first two
abbrev pub first_places : List (ℕ × File) → Option Places
first_places [] = None
first_places (p ∷ []) = Some (One p.0)
first_places (p ∷ q ∷ rest) = Some (Several p.0 q.0)

abbrev pub name_at : List File → ℕ → List ℕ
name_at files place = elim (slice_get files place) [ None ↦ [] | Some f ↦ f.name ]

-- the two whose names come first
abbrev pub with_place : List File → Option Places → ℕ → Places
with_place files None place = One place
with_place files (Some (One p)) place = if is_before (name_at files place) (name_at files p) then Several place p else Several p place
with_place files (Some (Several p q)) place =
    if is_before (name_at files place) (name_at files p) then Several place p
    else (if is_before (name_at files place) (name_at files q) then Several p place else Several p q)

-- each file stands at its place
abbrev pub AreKnown : List File → List (ℕ × File) → Type 0
AreKnown files [] = Unit {0}
AreKnown files (p ∷ ps) = (slice_get files p.0 ≡ Some p.1) × AreKnown files ps

abbrev pub AreInside : List File → Option Places → Type 0
AreInside files None = Unit {0}
AreInside files (Some (One p)) = p < length files
AreInside files (Some (Several p q)) = (p < length files) × (q < length files)

-- the tables are those of the first files of the list
pub record AreTables (all files : List File) (shelves : Shelves) (names : NameMap ℕ) : Type 0 where
  pub shelved : (ns stem : List ℕ) → places_at shelves ns stem ≡ first_places (shelf ns stem files)
  pub known : (ns stem : List ℕ) → AreKnown all (shelf ns stem files)
  pub named : (name : List ℕ) → value_of names name ≡ first (places_where (has_name name) files)
