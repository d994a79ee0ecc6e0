-- The memory and the space where regions go.
--     IsTabled m s               the pages of the space are those of the memory: taken where a region covers them
--     without_regions m starts   the memory without the regions that start there, and without their seals
--     CanLeave m starts          a region starts at each of them, and no start stands twice
--     class_starts c class       where the region of the class starts: none or one
--     lost_starts cells numbers  where the regions of the cells of these numbers start
use Rattle.std.specs.Prelude.{ℕ, ◌≡◌, ◌≤◌, ◌+◌, ◌*◌, ◌%◌, ◌==◌, not, Bool, true, List, [], filter, flat_map, fold, is_some, map}
use Rattle.std.specs.List.{cons_option, list_any}
use Rattle.cell_num.specs.Limits.{max_pages, page_size}
use Rattle.cell_num.specs.Lists.{each_pair, holds, upto, In}
use Rattle.cell_mem.specs.State.{MemoryState, region_from, unmapped}
use Rattle.cell_place.specs.Space.{SpaceState}
use Rattle.cell_world.specs.Running.Memory.{covers}
use Rattle.cell_world.specs.Linked.Relink.{class_start}
use Rattle.cell_world.specs.declared.layout.Class.{Class}
use Rattle.cell_world.specs.Commands.UnloadCommand.{starts_of}
use Rattle.cell_world.specs.World.{Cell}

abbrev pub table_of : MemoryState → List Bool
table_of m = map (λ page. list_any (λ r. covers r (m.base + page_size * page)) m.regions) (upto m.pages)

pub record IsTabled (m : MemoryState) (s : SpaceState) : Type 0 where
  pub base : s.base ≡ m.base
  pub table : s.taken ≡ table_of m
  pub aligned : m.base % page_size ≡ 0
  pub most : m.pages ≤ max_pages

abbrev pub without_regions : MemoryState → List ℕ → MemoryState
without_regions m starts = fold unmapped m starts

abbrev pub differs : ℕ → ℕ → Bool
differs a b = not (a == b)

pub record CanLeave (m : MemoryState) (starts : List ℕ) : Type 0 where
  pub there : (start : ℕ) → In start starts → is_some (region_from m start) ≡ true
  pub apart : each_pair differs starts ≡ true

abbrev pub class_starts : Cell → Class → List ℕ
class_starts c class = cons_option (class_start c class) []

abbrev pub lost_starts : List Cell → List ℕ → List ℕ
lost_starts cells numbers = flat_map starts_of (filter (λ c. holds numbers c.id.0) cells)
