-- The links between sections, and what there is room for.
--     is_same a b               the two are one section
--     links_from sec rows       the links whose user is the section
--     links_to sec rows         the links whose target is the section
--     is_bound rows user entry  there is a link of that user and entry
use Rattle.std.specs.Prelude.{ℕ, ◌==◌, Bool, ◌&&◌, List, filter}
use Rattle.std.specs.List.{list_any}
use Rattle.cell_num.specs.declared.ids.SecKey.{SecKey}
use Rattle.cell_world.specs.declared.state.LinkRow.{LinkRow}

-- the present sections, by cell and number, the links by the cell of the user and the entry, and how many more of each
-- there is room for
pub record Links : Type 0 where
  pub sections : List SecKey
  pub rows : List LinkRow
  pub spare_sections : ℕ
  pub spare_rows : ℕ

abbrev pub is_same : SecKey → SecKey → Bool
is_same a b = a.cell.0 == b.cell.0 && a.section == b.section

abbrev pub links_from : SecKey → List LinkRow → List LinkRow
links_from sec rows = filter (λ r. is_same r.user sec) rows

abbrev pub links_to : SecKey → List LinkRow → List LinkRow
links_to sec rows = filter (λ r. is_same r.target sec) rows

abbrev pub is_bound : List LinkRow → SecKey → ℕ → Bool
is_bound rows user entry = list_any (λ r. is_same r.user user && r.entry == entry) rows
