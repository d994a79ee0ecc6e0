-- What the lists of places say of the arenas.
--     SectionsListed at list       each place of the list has its section, and each section is listed
--     RowsListed at list           each place of the list has its link, and each link is listed
--     IsWhole rows sections section_list row_list     all that always holds of a graph
use Rattle.std.specs.Prelude.{◌≡◌, ℕ, List, Option, Some, Contains}
use Rattle.std.specs.List.{AllByRecursion}
use Rattle.cell_graph.specs.declared.rows.ChainRow.{ChainRow}
use Rattle.cell_graph.specs.declared.section.Section.{Section}
use Rattle.cell_graph.specs.declared.order.SectionPlace.{SectionPlace}
use Rattle.cell_graph.specs.declared.order.RowPlace.{RowPlace}
use Rattle.cell_graph.specs.Chains.{AreChained, IsHome}
use Rattle.cell_graph.specs.Lists.{SectionsRise, RowsRise}

pub record SectionsListed (at : ℕ → Option Section) (list : List SectionPlace) : Type 0 where
  pub rise : SectionsRise list
  pub stand : AllByRecursion (λ s. IsHome at s.place s.key) list
  pub listed : (place : ℕ) (section : Section) → at place ≡ Some section → Contains list (record { key = section.key; place = place })

-- the link that the list names stands at its place
pub record IsListed (at : ℕ → Option ChainRow) (r : RowPlace) : Type 0 where
  pub row : ChainRow
  pub is : at r.place ≡ Some row
  pub user : row.row.user ≡ r.user
  pub entry : row.row.entry ≡ r.entry

pub record RowsListed (at : ℕ → Option ChainRow) (list : List RowPlace) : Type 0 where
  pub rise : RowsRise list
  pub stand : AllByRecursion (λ r. IsListed at r) list
  pub listed : (place : ℕ) (row : ChainRow) → at place ≡ Some row
      → Contains list (record { user = row.row.user; entry = row.row.entry; place = place })

pub record IsWhole (rows : ℕ → Option ChainRow) (sections : ℕ → Option Section) (section_list : List SectionPlace) (row_list : List RowPlace) : Type 0 where
  pub sections_listed : SectionsListed sections section_list
  pub rows_listed : RowsListed rows row_list
  pub chained : AreChained rows sections
