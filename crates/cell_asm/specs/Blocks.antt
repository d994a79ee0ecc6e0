-- The bytes of pieces, one behind the other, and where in them their entries stand.
--     appended b p      one piece more
use Rattle.std.specs.Prelude.{◌∷◌, ◌++◌}
use Rattle.cell_asm.specs.Types.{ℕ, List, [], length, Option, Some, None, bytes_of, Fix, Piece, Mark, Block, Draft}

-- an entry at a place
abbrev pub marks_at : ℕ → Option Fix → List Mark
marks_at at None = []
marks_at at (Some f) = record { at = at; fix = f } ∷ []

abbrev pub marks_of : ℕ → Piece → List Mark
marks_of at p = marks_at at p.fix ++ marks_at at p.second

abbrev pub appended : Block → Piece → Block
appended b p = record { bytes = b.bytes ++ bytes_of p.width p.value; marks = b.marks ++ marks_of (length b.bytes) p }

abbrev pub empty : Block
empty = record { bytes = []; marks = [] }

abbrev pub drafted : Draft → Block
drafted d = record { bytes = d.bytes.items; marks = d.marks.items }
