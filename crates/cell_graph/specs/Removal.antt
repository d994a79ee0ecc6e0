-- What is left when cells go, and which link stands against it.
--     is_listed cells sec                 the section is one of a listed cell
--     is_used_outside cells rows          another cell has a link into a listed one
--     uses_from_outside user cells rows   the section is of another cell and has a link into a listed one
--     links_without cells rows            the links whose users stay
--     sections_without cells keys         the sections that stay
use Rattle.std.specs.Prelude.{◌≡◌, ℕ, ◌==◌, Bool, false, not, ◌&&◌, List, Contains, filter}
use Rattle.std.specs.List.{list_any}
use Rattle.cell_num.specs.declared.ids.CellId.{CellId}
use Rattle.cell_num.specs.declared.ids.SecKey.{SecKey}
use Rattle.cell_world.specs.declared.state.LinkRow.{LinkRow}
use Rattle.cell_graph.specs.Links.{is_same}

abbrev pub is_listed : List CellId → SecKey → Bool
is_listed cells sec = list_any (λ c. c.0 == sec.cell.0) cells

-- a cell outside the list uses one of the list
abbrev pub is_outside_use : List CellId → LinkRow → Bool
is_outside_use cells row = is_listed cells row.target && not (is_listed cells row.user)

abbrev pub is_used_outside : List CellId → List LinkRow → Bool
is_used_outside cells rows = list_any (is_outside_use cells) rows

abbrev pub uses_from_outside : SecKey → List CellId → List LinkRow → Bool
uses_from_outside user cells rows = list_any (λ row. is_same row.user user && is_outside_use cells row) rows

abbrev pub links_without : List CellId → List LinkRow → List LinkRow
links_without cells rows = filter (λ r. not (is_listed cells r.user)) rows

abbrev pub sections_without : List CellId → List SecKey → List SecKey
sections_without cells keys = filter (λ k. not (is_listed cells k)) keys

-- a section of a cell that isn't listed has this link to the section
pub record IsUsedBy (cells : List CellId) (sec user : SecKey) (rows : List LinkRow) : Type 0 where
  pub row : LinkRow
  pub has : Contains rows row
  pub user_is : row.user ≡ user
  pub target_is : row.target ≡ sec
  pub outside : is_listed cells row.user ≡ false

-- and into one of the cell
pub record IsCellUsedBy (cells : List CellId) (cell : ℕ) (user : SecKey) (rows : List LinkRow) : Type 0 where
  pub sec : SecKey
  pub of : sec.cell.0 ≡ cell
  pub used : IsUsedBy cells sec user rows
