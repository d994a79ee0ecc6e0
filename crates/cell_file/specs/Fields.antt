-- The fields of entries, and the marks that keep them.
use Rattle.std.specs.Prelude.{◌≡◌, ℕ, ◌==◌, ◌&&◌, Bool, List, map, get_or, if◌then◌else◌, Option, Some, None}
use Rattle.std.specs.List.{list_any}
use Rattle.cell_object.specs.declared.object.Entry.{Entry}
use Rattle.cell_num.specs.Kinds.{width_of, is_stacking, is_upper_pcrel}
use Rattle.cell_file.specs.declared.cover.Field.{Field}
use Rattle.cell_file.specs.declared.cover.Fields.{Fields}
use Rattle.cell_file.specs.declared.cover.Mark.{Mark}
use Rattle.cell_file.specs.Cover.{no_mark, field_of_mark}

abbrev pub field_of : Entry → Field
field_of e = record { from = e.offset; width = width_of e.kind; stacking = is_stacking e.kind }

abbrev pub fields_of : List Entry → List Field
fields_of entries = map field_of entries

abbrev pub mark_at : Fields → ℕ → Mark
mark_at fields q = get_or fields.marks.items q no_mark

-- the field of the table that is kept for a place
abbrev pub field_at : Fields → ℕ → Option Field
field_at fields q = if (mark_at fields q).table == fields.table then Some (field_of_mark q (mark_at fields q)) else None

-- an upper part of the table, a PCREL_HI20 or GOT_HI20, begins there
abbrev pub high_at : Fields → ℕ → Bool
high_at fields q = (mark_at fields q).table == fields.table && (mark_at fields q).high

-- the marks say where the upper parts among the entries are
abbrev pub HoldsHighs : Fields → List Entry → Type 0
HoldsHighs fields entries = (q : ℕ) → high_at fields q ≡ list_any (λ e. is_upper_pcrel e.kind && e.offset == q) entries
