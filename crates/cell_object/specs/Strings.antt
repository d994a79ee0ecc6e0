-- String tables. gABI, "String Table"
use Rattle.std.specs.Prelude.{ℕ, List, [], ◌∷◌, ◌++◌, length}
use Rattle.std.specs.List.{flat_map}

-- a name and the zero byte that ends it; an empty name adds nothing
abbrev pub string : List ℕ → List ℕ
string [] = []
string (b ∷ bs) = (b ∷ bs) ++ (0 ∷ [])

-- a zero byte, and then each name in order, without sharing
unfoldable pub string_table : List (List ℕ) → List ℕ
string_table names = 0 ∷ flat_map string names

-- where a name stands that is put at the end of a table of so many bytes: an empty name is at the
-- table's first byte
abbrev pub place_in : ℕ → List ℕ → ℕ
place_in end [] = 0
place_in end (b ∷ bs) = end

-- where a name stands in a table of names, after these ones
abbrev pub name_place : List (List ℕ) → List ℕ → ℕ
name_place before name = place_in (length (string_table before)) name
