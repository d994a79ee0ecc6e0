-- The cells that have links into some cells.
--     leads_among old rows n         a link of cell n leads into one of these cells
--     uses old rows c                the same of a cell
--     may_change old soft rows c     it has a link into a cell that is put aside or has a WEAK symbol, or has one itself
use Rattle.std.specs.Prelude.{ℕ, ◌==◌, ◌||◌, Bool, List, filter}
use Rattle.std.specs.List.{list_any}
use Rattle.cell_num.specs.Lists.{holds}
use Rattle.cell_world.specs.declared.state.LinkRow.{LinkRow}
use Rattle.cell_world.specs.declared.state.NewCell.{NewCell}

abbrev pub leads_among : List ℕ → List LinkRow → ℕ → Bool
leads_among old rows n = list_any (λ l. holds old l.target.cell.0) (filter (λ l. l.user.cell.0 == n) rows)

abbrev pub uses : List ℕ → List LinkRow → NewCell → Bool
uses old rows c = leads_among old rows c.id.0

-- by its number
abbrev pub may_change_at : List ℕ → List ℕ → List LinkRow → ℕ → Bool
may_change_at old soft rows n = leads_among old rows n || (leads_among soft rows n || holds soft n)

abbrev pub may_change : List ℕ → List ℕ → List LinkRow → NewCell → Bool
may_change old soft rows c = may_change_at old soft rows c.id.0
