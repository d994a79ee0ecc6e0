-- What is kept of items that come, and how they stand to a list that they are compared with.
use Rattle.std.specs.Prelude.{◌≡◌, ℕ, ◌≤◌, ◌==◌, Bool, false, List, ◌++◌, length, take, Option, Some, None}

-- These items came: whatever was aimed at and had come before, they stand behind it.
abbrev pub Adds : {T : Type 0} → (List T → List T → Type 0) → (List T → List T → Type 0) → List T → Type 0
Adds {T = T} old new items = (aim before : List T) → old aim before → new aim (before ++ items)

-- So many came, each as in the list; or what came doesn't begin the list.
abbrev pub IsLike : {T : Type 0} → List T → Option ℕ → List T → Type 0
IsLike list (Some count) given = (count ≤ length list) × (given ≡ take count list)
IsLike {T = T} list None given = (rest : List T) → given ++ rest ≡ list → ⊥

-- as many came as the list has
abbrev pub is_full : {T : Type 0} → List T → Option ℕ → Bool
is_full list None = false
is_full list (Some count) = count == length list
