-- The order of sections and links, and lists in that order.
--     below_section a b                by the cell, then the section
--     below_row user entry other n     by the user's cell, then the entry, then the user's section
--     below_link a b                   the same of two links
--     Rises lt xs                      each element is below all later ones
--     IsCut p xs n                     the first n elements pass, and no later one does
--     with_link row rows               the links with one more in its place
--     without_link user entry rows     the links without that one
use Rattle.std.specs.Prelude.{◌≡◌, ℕ, zero, suc, true, false, Bool, ◌==◌, nat_lt, ◌&&◌, ◌||◌, List, [], ◌∷◌, filter, not, if◌then◌else◌}
use Rattle.std.specs.List.{AllByRecursion}
use Rattle.cell_num.specs.declared.ids.SecKey.{SecKey}
use Rattle.cell_world.specs.declared.state.LinkRow.{LinkRow}
use Rattle.cell_graph.specs.Moves.{is_link_of}

abbrev pub below_section : SecKey → SecKey → Bool
below_section a b = nat_lt a.cell.0 b.cell.0 || a.cell.0 == b.cell.0 && nat_lt a.section b.section

abbrev pub below_row : SecKey → ℕ → SecKey → ℕ → Bool
below_row user entry other n =
    nat_lt user.cell.0 other.cell.0
    || user.cell.0 == other.cell.0 && (nat_lt entry n || entry == n && nat_lt user.section other.section)

abbrev pub below_link : LinkRow → LinkRow → Bool
below_link a b = below_row a.user a.entry b.user b.entry

abbrev pub Rises : {X : Type 0} → (X → X → Bool) → List X → Type 0
Rises lt [] = Unit {0}
Rises lt (x ∷ xs) = AllByRecursion (λ y. lt x y ≡ true) xs × Rises lt xs

abbrev pub IsCut : {X : Type 0} → (X → Bool) → List X → ℕ → Type 0
IsCut p [] n = n ≡ 0
IsCut p (x ∷ xs) zero = (p x ≡ false) × AllByRecursion (λ y. p y ≡ false) xs
IsCut p (x ∷ xs) (suc n) = (p x ≡ true) × IsCut p xs n

-- links in order, and one more in its place
abbrev pub with_link : LinkRow → List LinkRow → List LinkRow
with_link row [] = row ∷ []
with_link row (r ∷ rows) = if below_link r row then r ∷ with_link row rows else row ∷ r ∷ rows

-- the links without that of a user and entry
abbrev pub without_link : SecKey → ℕ → List LinkRow → List LinkRow
without_link user entry rows = filter (λ r. not (is_link_of user entry r)) rows
