-- Links with new targets.
--     is_link_of user entry row  the link is that of the user and entry
--     AreApart rows              no user and entry has two links
--     moved rows moves           the links, with the targets that the moves name
use Rattle.std.specs.Prelude.{◌≡◌, ℕ, false, ◌==◌, Bool, ◌&&◌, List, [], ◌∷◌, find, map}
use Rattle.std.specs.Option.{option_map_or}
use Rattle.cell_num.specs.declared.ids.SecKey.{SecKey}
use Rattle.cell_world.specs.declared.state.LinkRow.{LinkRow}
use Rattle.cell_graph.specs.Links.{is_same, is_bound}

abbrev pub is_link_of : SecKey → ℕ → LinkRow → Bool
is_link_of user entry row = is_same row.user user && row.entry == entry

abbrev pub AreApart : List LinkRow → Type 0
AreApart [] = Unit {0}
AreApart (r ∷ rows) = (is_bound rows r.user r.entry ≡ false) × AreApart rows

-- the target that the moves name for the link's user and entry, or else its own
abbrev pub target_after : List LinkRow → LinkRow → SecKey
target_after moves row = option_map_or (λ m. m.target) (find (is_link_of row.user row.entry) moves) row.target

-- the link with that target
abbrev pub moved_row : List LinkRow → LinkRow → LinkRow
moved_row moves row = record row { target = target_after moves row }

abbrev pub moved : List LinkRow → List LinkRow → List LinkRow
moved rows moves = map (moved_row moves) rows
