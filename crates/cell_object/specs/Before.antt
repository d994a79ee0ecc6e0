-- Each element of a list, with those before it.
use Rattle.std.specs.Prelude.{List, [], ◌∷◌, ◌++◌}

-- the same, where some stand before the whole list
abbrev pub with_before_from : {X : Type 0} → List X → List X → List (List X × X)
with_before_from before [] = []
with_before_from before (x ∷ xs) = (before, x) ∷ with_before_from (before ++ (x ∷ [])) xs

unfoldable pub with_before : {X : Type 0} → List X → List (List X × X)
with_before xs = with_before_from [] xs
