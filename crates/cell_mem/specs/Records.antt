-- What the fields of an undo mean, and what always holds of them.
use Rattle.std.specs.Prelude.{◌≤◌, ◌+◌, vec_capacity, vec_len}
use Rattle.cell_mem.specs.declared.undo.Undo.TheInside.{Inside}
use Rattle.cell_mem.specs.Undo.{Noted}

abbrev pub noted_of : Inside → Noted
noted_of u = record { left = u.left; journal = u.records.items }

abbrev pub HasRoom : Inside → Type 0
HasRoom u = vec_len u.records + u.left ≤ vec_capacity u.records
