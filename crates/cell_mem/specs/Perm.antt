-- What a region may be used for, as a set of bits.
use Rattle.std.specs.Prelude.{◌==◌, bit_and}
use Rattle.cell_world.specs.World.{Permission}
use Rattle.cell_mem.specs.declared.perm.Perm.{Perm}

-- bit 0 is read, bit 1 write, bit 2 execute
abbrev pub permission_of : Perm → Permission
permission_of p =
    record { read = bit_and p.0 1 == 1; write = bit_and p.0 2 == 2; exec = bit_and p.0 4 == 4 }
