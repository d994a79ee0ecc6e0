-- A chain without one of its links.
--     skip o place other     the neighbour other where o names the place, and else o
--     less place places      the places without the first that is this one
use Rattle.std.specs.Prelude.{ℕ, ◌==◌, List, [], ◌∷◌, Option, Some, None, if◌then◌else◌}

abbrev pub skip : Option ℕ → ℕ → Option ℕ → Option ℕ
skip None place other = None
skip (Some q) place other = if q == place then other else Some q

abbrev pub less : ℕ → List ℕ → List ℕ
less place [] = []
less place (p ∷ places) = if p == place then places else p ∷ less place places
