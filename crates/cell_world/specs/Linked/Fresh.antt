-- The bytes of one section of a present cell as linking makes them, wherever the section stands.
--     fields_in object s       the fields of the section
--     value_bytes w c f        the value of the field, as bytes
--     with_value w c bytes f   the bytes with the field's value at the field's offset
--     fresh_bytes w c s        the section's own bytes, with each of its fields' values at the field's offset
use Rattle.std.specs.Prelude.{ℕ, ◌==◌, List, filter, fold}
use Rattle.cell_num.specs.Bits.{bytes_of}
use Rattle.cell_num.specs.Kinds.{width_of}
use Rattle.cell_object.specs.declared.object.Object.{Object}
use Rattle.cell_object.specs.declared.object.Section.{Section as ObjectSection}
use Rattle.cell_object.specs.declared.object.Entry.{Entry}
use Rattle.cell_world.specs.World.{World, Cell}
use Rattle.cell_world.specs.Linked.Field.{fields_of, field_value_of}
use Rattle.cell_world.specs.Placed.Layout.{own_bytes}
use Rattle.cell_world.specs.Running.Memory.{pasted}
use Rattle.cell_world.specs.Linked.Relink.{bound_entries}

abbrev pub fields_in : Object → ObjectSection → List Entry
fields_in object s = filter (λ f. f.section == s.number) (fields_of object)

abbrev pub value_bytes : World → Cell → Entry → List ℕ
value_bytes w c f = bytes_of (width_of f.kind) (field_value_of c.placed (bound_entries w c) f)

abbrev pub with_value : World → Cell → List ℕ → Entry → List ℕ
with_value w c bytes f = pasted bytes f.offset (value_bytes w c f)

-- zeros stand for what isn't in the file
abbrev pub fresh_bytes : World → Cell → ObjectSection → List ℕ
fresh_bytes w c s = fold (with_value w c) (own_bytes s s.fill) (fields_in c.object s)
