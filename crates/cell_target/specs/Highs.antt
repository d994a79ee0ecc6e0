-- The PCREL_HI20 entries by section and offset.
use Rattle.std.specs.Prelude.{◌≡◌, ℕ, ◌==◌, ◌&&◌, Bool, List, find}
use Rattle.std.specs.BTreeMap.{BTreeMap, get}
use Rattle.cell_num.specs.Kinds.{is_pcrel_hi20}
use Rattle.cell_object.specs.declared.object.Entry.{Entry}
use Rattle.cell_link.specs.Tables.{spot_cmp}

abbrev pub is_high_at : ℕ × ℕ → Entry → Bool
is_high_at q h = is_pcrel_hi20 h.kind && h.section == q.0 && h.offset == q.1

-- the first entry of each place
abbrev pub IsHighs : List Entry → BTreeMap (ℕ × ℕ) Entry → Type 0
IsHighs entries highs = (q : ℕ × ℕ) → get spot_cmp highs q ≡ find (is_high_at q) entries
