-- What the fields of a memory mean, and what always holds of them.
use Rattle.std.specs.Prelude.{◌≡◌, ◌<◌, ◌≤◌, ℕ, ◌+◌, ◌*◌, ◌^◌, ◌==◌, Bool, not, List, length, map, option_map}
use Rattle.cell_num.specs.Limits.{page_size}
use Rattle.cell_world.specs.Placed.Pages.{IsSpace}
use Rattle.cell_world.specs.Running.Undo.{AreBytes, undone}
use Rattle.cell_world.specs.World.{Region}
use Rattle.cell_mem.specs.declared.memory.Memory.TheInside.{Inside}
use Rattle.cell_mem.specs.Index.{IsLaid, IsIndex, AreInPlace, held}
use Rattle.cell_mem.specs.State.{MemoryState}
use Rattle.cell_mem.specs.Undo.{Noted, UndoState}

-- going back by the records leads to what was there before
abbrev pub undo_over : List Region → Noted → UndoState
undo_over regions u = record { left = u.left; journal = u.journal; before = undone regions u.journal }

-- a byte with this mark is sealed
abbrev pub is_mark : ℕ → Bool
is_mark mark = not (mark == 0)

abbrev pub state_of : Inside → MemoryState
state_of m =
    record {
      base = m.base;
      pages = m.pages;
      regions = held m.regions.items;
      sealed = map is_mark m.sealed.items;
      spare = m.spare;
      undo = option_map (undo_over (held m.regions.items)) m.undo;
      patches = m.patches;
      maps = m.maps;
    }

pub record IsSound (m : Inside) : Type 0 where
  pub space : IsSpace m.base m.pages
  pub regions : length m.regions.items ≡ m.pages
  pub in_place : AreInPlace m.base m.regions.items
  pub laid : IsLaid m.base (held m.regions.items) (m.base + page_size * m.pages)
  pub firsts : length m.firsts.items ≡ m.pages
  pub index : IsIndex m.base (held m.regions.items) m.firsts.items
  pub bytes : AreBytes (held m.regions.items)
  pub sealed : length m.sealed.items ≡ page_size * m.pages
  pub near : m.near < m.pages
  -- far below the numbers of 64 bits
  pub few : m.spare + length (held m.regions.items) ≤ 2 ^ 32 + m.pages
