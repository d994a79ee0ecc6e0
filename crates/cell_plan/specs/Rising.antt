-- Tables whose entries rise by section and offset, so that each entry is a field of its own.
--     key_of e               the section and the offset of the entry as one number
--     rises least entries    these numbers rise, and none is below that one
use Rattle.std.specs.Prelude.{ℕ, ◌+◌, ◌*◌, nat_le, Bool, true, ◌&&◌, List, [], ◌∷◌}
use Rattle.cell_object.specs.declared.object.Entry.{Entry}

abbrev pub key_of : Entry → ℕ
key_of e = e.section * 4294967296 + e.offset

abbrev pub rises : ℕ → List Entry → Bool
rises least [] = true
rises least (e ∷ entries) = nat_le least (key_of e) && rises (key_of e + 1) entries
