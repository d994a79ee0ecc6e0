-- Which cells are seen, and where the first of each object stands.
--     sees asked spaces c           the cell stands in the namespaces and is of that swap, or else attached
--     stands_at asked ns c          the cell stands in the namespace itself and is of that swap, or else attached
--     seen_at test cells place      the cell at that place passes
--     first_from test object i cells     the place of the first cell of the object that passes, where cells are counted from i on
--     first_at firsts object        what is kept for the object
--     IsUpTo place c                the place is the cell's or one before
--     AreSoonest firsts soonest     from each object on no first cell is before what is kept for it there
use Rattle.std.specs.Prelude.{◌≡◌, ◌≤◌, ◌==◌, ◌&&◌, ℕ, suc, Bool, false, List, [], ◌∷◌, Option, Some, None, option_map, slice_get, slice_index_or, unwrap_or, if◌then◌else◌}
use Rattle.cell_num.specs.Lists.{holds}
use Rattle.cell_audit.specs.Described.{standing_of}
use Rattle.cell_described.specs.declared.cell.DescribedCell.{DescribedCell}
use Rattle.cell_bearers.specs.Asked.{stands_as}

abbrev pub sees : Option ℕ → List ℕ → DescribedCell → Bool
sees asked spaces c = stands_as asked (standing_of c.group) && holds spaces c.ns

abbrev pub stands_at : Option ℕ → ℕ → DescribedCell → Bool
stands_at asked ns c = stands_as asked (standing_of c.group) && c.ns == ns

abbrev pub seen_at : (DescribedCell → Bool) → List DescribedCell → ℕ → Bool
seen_at test cells place = unwrap_or (option_map test (slice_get cells place)) false

abbrev pub first_from : (DescribedCell → Bool) → ℕ → ℕ → List DescribedCell → Option ℕ
first_from test object i [] = None
first_from test object i (c ∷ cells) = if test c && c.object == object then Some i else first_from test object (suc i) cells

abbrev pub first_at : List (Option ℕ) → ℕ → Option ℕ
first_at firsts object = slice_index_or firsts object None

abbrev pub IsUpTo : Option ℕ → ℕ → Type 0
IsUpTo None c = ⊥
IsUpTo (Some place) c = place ≤ c

abbrev pub AreSoonest : List (Option ℕ) → List (Option ℕ) → Type 0
AreSoonest firsts soonest = (a b c : ℕ) → a ≤ b → first_at firsts b ≡ Some c → IsUpTo (first_at soonest a) c
