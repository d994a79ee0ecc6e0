-- Who has a name, of all cells.
--     stands_as group s                  the standing is that of a cell that was put aside by that swap, or else of an attached one
--     first_in cells group spaces name   the first cell of that standing that stands in the namespaces and has the name strongly
--     nearest_in cells group spaces name    the one of the nearest namespace, and there the first, that has the name weakly
--     provider_at cells b                the provider, told by its place, whose symbol is counted from 0 there
use Rattle.std.specs.Prelude.{ℕ, suc, Bool, List, Option, Some, None, filter, option_map, slice_get, unwrap_or}
use Rattle.cell_world.specs.Names.{Provider, first_provider, nearest_provider}
use Rattle.cell_world.specs.World.{Cell, Standing, is_attached, is_of_group}
use Rattle.cell_described.specs.declared.cell.DescribedCell.{DescribedCell}
use Rattle.cell_bearers.specs.declared.first.FirstBearer.{FirstBearer}

abbrev pub stands_as : Option ℕ → Standing → Bool
stands_as None s = is_attached s
stands_as (Some k) s = is_of_group k s

abbrev pub first_in : List Cell → Option ℕ → List ℕ → List ℕ → Option Provider
first_in cells group spaces name = first_provider spaces name (filter (λ c. stands_as group c.standing) cells)

abbrev pub nearest_in : List Cell → Option ℕ → List ℕ → List ℕ → Option Provider
nearest_in cells group spaces name = nearest_provider spaces name (filter (λ c. stands_as group c.standing) cells)

abbrev pub number_at : List DescribedCell → ℕ → ℕ
number_at cells place = unwrap_or (option_map (λ c. c.id.0) (slice_get cells place)) 0

abbrev pub provider_by : (ℕ → ℕ) → FirstBearer → Provider
provider_by number b = record { cell = number b.cell; symbol = suc b.symbol }

abbrev pub provider_at : List DescribedCell → FirstBearer → Provider
provider_at cells b = provider_by (number_at cells) b
