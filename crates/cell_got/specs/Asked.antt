-- The slots of some entries, and what is kept of them while they are found.
--     with_entry slots e          the symbols that have a slot, after one entry more
--     AreSlots slots places       the places say which slot each symbol has
use Rattle.std.specs.Prelude.{◌≡◌, ℕ, cond, List, [], ◌∷◌, ◌++◌}
use Rattle.std.specs.Ordering.{nat_cmp}
use Rattle.std.specs.BTreeMap.{BTreeMap, get}
use Rattle.cell_num.specs.Lists.{holds, where_true}
use Rattle.cell_object.specs.declared.object.Entry.{Entry}
use Rattle.cell_object.specs.Readable.{is_got}
use Rattle.cell_got.specs.Lower.{slot_of}

abbrev pub with_slot : List ℕ → ℕ → List ℕ
with_slot slots symbol = cond (holds slots symbol) slots (slots ++ symbol ∷ [])

abbrev pub with_entry : List ℕ → Entry → List ℕ
with_entry slots e = cond (is_got e) (with_slot slots e.symbol) slots

abbrev pub AreSlots : List ℕ → BTreeMap ℕ ℕ → Type 0
AreSlots slots places = (q : ℕ) → get nat_cmp places q ≡ where_true (holds slots q) (slot_of slots q)
