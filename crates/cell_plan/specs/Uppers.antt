-- The HI20 entries of an object by section, symbol, addend and offset.
--     row_at e offset          a row with the entry's section, symbol and addend
--     is_row q e               the entry is one, and has these
--     IsUppers entries rows    the set has those of the entries
use Rattle.std.specs.Prelude.{◌≡◌, ℕ, ◌==◌, ◌&&◌, Bool, ℤ, List}
use Rattle.std.specs.List.{list_any}
use Rattle.std.specs.BTreeSet.{BTreeSet, contains}
use Rattle.std.specs.declared.cmp.Ordering.{Ordering}
use Rattle.std.specs.Ordering.{nat_cmp, int_cmp, int_eq, ordering_then}
use Rattle.cell_object.specs.declared.object.Entry.{Entry}
use Rattle.cell_world.specs.Torn.{is_high}

-- section, symbol, addend and offset
abbrev pub Row : Type 0
Row = ℕ × ℕ × ℤ × ℕ

abbrev pub row_at : Entry → ℕ → Row
row_at e offset = (e.section, e.symbol, e.addend, offset)

abbrev pub row_cmp : Row → Row → Ordering
row_cmp p q =
    ordering_then (ordering_then (ordering_then (nat_cmp p.0 q.0) (nat_cmp p.1 q.1)) (int_cmp p.2 q.2)) (nat_cmp p.3 q.3)

abbrev pub is_row : Row → Entry → Bool
is_row q e = is_high e.kind && e.section == q.0 && e.symbol == q.1 && int_eq e.addend q.2 && e.offset == q.3

abbrev pub IsUppers : List Entry → BTreeSet Row → Type 0
IsUppers entries rows = (q : Row) → contains row_cmp rows q ≡ list_any (is_row q) entries
