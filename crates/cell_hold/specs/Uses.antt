-- Cells that others have links into.
--     is_used_by rows cells section     a link of one of the cells leads into the section
--     Uses rows others room old new       new is old and then, while there is room, the cells of others' sections that links of old ones lead into
use Rattle.std.specs.Prelude.{◌≡◌, ℕ, ◌==◌, Bool, true, ◌&&◌, List, ◌++◌}
use Rattle.std.specs.List.{list_any}
use Rattle.cell_num.specs.Lists.{In}
use Rattle.cell_num.specs.declared.ids.CellId.{CellId}
use Rattle.cell_num.specs.declared.ids.SecKey.{SecKey}
use Rattle.cell_graph.specs.Links.{is_same}
use Rattle.cell_world.specs.declared.state.LinkRow.{LinkRow}
use Rattle.cell_world.specs.declared.state.Placed.{Placed}
use Rattle.cell_hold.specs.Adds.{IsOnceEach, has_cell, has_or_full}

abbrev pub is_used_by : List LinkRow → List CellId → SecKey → Bool
is_used_by rows cells section = list_any (λ r. is_same r.target section && has_cell cells r.user.cell.0) rows

pub record Uses (rows : List LinkRow) (others : List Placed) (room : ℕ) (old new : List CellId) : Type 0 where
  pub more : List CellId
  pub is : new ≡ old ++ more
  pub once : IsOnceEach old → IsOnceEach new
  -- what goes on along the links and holds of the old cells holds of the new ones
  pub only : (p : ℕ → Bool) → ((r : LinkRow) → In r rows → p r.user.cell.0 ≡ true → p r.target.cell.0 ≡ true) → ((c : ℕ) → has_cell old c ≡ true → p c ≡ true) → (c : ℕ) → has_cell new c ≡ true → p c ≡ true
  pub has : (c : ℕ) → list_any (λ s. s.key.cell.0 == c && is_used_by rows old s.key) others ≡ true → has_or_full new room c ≡ true
