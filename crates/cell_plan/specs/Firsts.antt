-- The places of entries.
--     is_entry_at q e        the entry is at that section and offset
--     AreSeen entries seen   the set has the places of the entries
use Rattle.std.specs.Prelude.{◌≡◌, ℕ, ◌==◌, ◌&&◌, Bool, List}
use Rattle.std.specs.List.{list_any}
use Rattle.std.specs.BTreeSet.{BTreeSet, contains}
use Rattle.cell_object.specs.declared.object.Entry.{Entry}
use Rattle.cell_link.specs.Tables.{spot_cmp}

abbrev pub is_entry_at : ℕ × ℕ → Entry → Bool
is_entry_at q e = e.section == q.0 && e.offset == q.1

abbrev pub AreSeen : List Entry → BTreeSet (ℕ × ℕ) → Type 0
AreSeen entries seen = (q : ℕ × ℕ) → contains spot_cmp seen q ≡ list_any (is_entry_at q) entries
