-- The seals as a table with one Bool a byte of the space.
--     is_in_span addr s              the address is one of the span's bytes
--     seal_table base size spans     true where one of the spans has the address
--     spans_of fields                the fields' bytes
use Rattle.std.specs.Prelude.{ℕ, ◌+◌, ◌*◌, ◌≤◌, nat_le, nat_lt, Bool, ◌&&◌, List, map}
use Rattle.std.specs.List.{list_any}
use Rattle.cell_num.specs.Limits.{page_size}
use Rattle.cell_num.specs.Lists.{upto}
use Rattle.cell_link.specs.declared.value.FieldValue.{FieldValue}

-- a span is an address, and how many bytes there are from it on
abbrev pub is_in_span : ℕ → ℕ × ℕ → Bool
is_in_span addr s = nat_le s.0 addr && nat_lt addr (s.0 + s.1)

abbrev pub seal_table : ℕ → ℕ → List (ℕ × ℕ) → List Bool
seal_table base size spans = map (λ i. list_any (is_in_span (base + i)) spans) (upto size)

abbrev pub span_of : FieldValue → ℕ × ℕ
span_of f = (f.addr, f.width)

abbrev pub spans_of : List FieldValue → List (ℕ × ℕ)
spans_of fields = map span_of fields

-- all bytes of the field are in the space
abbrev pub IsInSpace : ℕ → ℕ → FieldValue → Type 0
IsInSpace base pages f = (base ≤ f.addr) × (f.addr + f.width ≤ base + page_size * pages)
