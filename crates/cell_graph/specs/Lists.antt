-- The lists of places in order.
--     SectionsRise list, RowsRise list   the lists are in order
--     has_row list user entry            the list names a link of this user and entry
--     IsRowAt list index user entry      at this index
use Rattle.std.specs.Prelude.{◌≡◌, ℕ, ◌<◌, ◌==◌, ◌&&◌, Bool, List, length, nat_le, nat_lt, take, drop, slice_index_or}
use Rattle.std.specs.List.{list_any}
use Rattle.cell_num.specs.declared.ids.SecKey.{SecKey}
use Rattle.cell_graph.specs.declared.order.SectionPlace.{SectionPlace}
use Rattle.cell_graph.specs.declared.order.RowPlace.{RowPlace}
use Rattle.cell_graph.specs.Order.{IsCut, Rises, below_section, below_row}
use Rattle.cell_graph.specs.Links.{is_same}

abbrev pub below_section_place : SectionPlace → SectionPlace → Bool
below_section_place a b = below_section a.key b.key

abbrev pub below_row_place : RowPlace → RowPlace → Bool
below_row_place a b = below_row a.user a.entry b.user b.entry

abbrev pub SectionsRise : List SectionPlace → Type 0
SectionsRise list = Rises below_section_place list

abbrev pub RowsRise : List RowPlace → Type 0
RowsRise list = Rises below_row_place list

-- the list names a link of this user and entry
abbrev pub has_row : List RowPlace → SecKey → ℕ → Bool
has_row list user entry = list_any (λ r. is_same r.user user && r.entry == entry) list

-- the link of this user and entry is named at the index
pub record IsRowAt (list : List RowPlace) (index : ℕ) (user : SecKey) (entry : ℕ) : Type 0 where
  pub within : index < length list
  pub user_is : (d : RowPlace) → (slice_index_or list index d).user ≡ user
  pub entry_is : (d : RowPlace) → (slice_index_or list index d).entry ≡ entry

-- the section is named at the index
pub record IsSectionAt (list : List SectionPlace) (index : ℕ) (key : SecKey) : Type 0 where
  pub within : index < length list
  pub key_is : (d : SectionPlace) → (slice_index_or list index d).key ≡ key

-- these are the links that the list names with users of the cell
pub record IsCellRange (list : List RowPlace) (cell : ℕ) (part : List RowPlace) : Type 0 where
  pub start : ℕ
  pub end : ℕ
  pub end_cut : IsCut (λ r. nat_le r.user.cell.0 cell) list end
  pub start_cut : IsCut (λ r. nat_lt r.user.cell.0 cell) (take end list) start
  pub is : part ≡ drop start (take end list)

-- these are the sections of the cell that the list names
pub record IsSectionRange (list : List SectionPlace) (cell : ℕ) (part : List SectionPlace) : Type 0 where
  pub start : ℕ
  pub end : ℕ
  pub end_cut : IsCut (λ s. nat_le s.key.cell.0 cell) list end
  pub start_cut : IsCut (λ s. nat_lt s.key.cell.0 cell) (take end list) start
  pub is : part ≡ drop start (take end list)
