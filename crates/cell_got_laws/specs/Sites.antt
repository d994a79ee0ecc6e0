-- Where slots are, and what the sites of GOT_HI20 entries hold.
--     slot_at c o k           the address of the k-th slot, from 0, of a cell whose object o was before it was lowered
--     HoldsRow w c o e        the site of the entry holds the value of its kind for its symbol's slot
use Rattle.std.specs.Prelude.{◌≡◌, ℕ, ◌+◌, ◌*◌, ℤ, Some, IsTrue}
use Rattle.cell_num.specs.Bits.{bytes_of}
use Rattle.cell_num.specs.Kinds.{width_of}
use Rattle.cell_num.specs.declared.kinds.RelKind.TheVariants.{GotHi20}
use Rattle.cell_object.specs.declared.object.Entry.{Entry}
use Rattle.cell_object.specs.declared.object.Object.{Object}
use Rattle.cell_reloc.specs.Relocation.{does_fit, inserted, value_of}
use Rattle.cell_world.specs.Linked.Field.{own_number, place_of}
use Rattle.cell_world.specs.Running.Memory.{read}
use Rattle.cell_world.specs.Linked.Target.{start_of}
use Rattle.cell_world.specs.World.{World}
use Rattle.cell_world.specs.declared.state.NewCell.{NewCell}
use Rattle.cell_got.specs.Lower.{got_number, slot_of, slots_of}

abbrev pub slot_at : NewCell → Object → ℕ → ℕ
slot_at c o k = start_of c (got_number o) + 8 * k

abbrev pub slot_for : NewCell → Object → Entry → ℕ
slot_for c o e = slot_at c o (slot_of (slots_of o) e.symbol)

-- the slot's address, the addend and the site's own address
abbrev pub row_value : NewCell → Object → Entry → ℤ
row_value c o e = value_of GotHi20 (slot_for c o e) e.addend (place_of c e) (own_number o e)

pub record HoldsRow (w : World) (c : NewCell) (o : Object) (e : Entry) : Type 0 where
  pub fits : IsTrue (does_fit GotHi20 (row_value c o e))
  pub holds : read w (place_of c e) (width_of GotHi20) ≡ Some (bytes_of (width_of GotHi20) (inserted GotHi20 (own_number o e) (row_value c o e)))
