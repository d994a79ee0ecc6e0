-- What holds of each row: its numbers are in range, and leave the places of the fields free.
use Rattle.std.specs.Prelude.{ℕ, ◌%◌, ◌==◌, nat_lt, Bool, true, ◌&&◌}
use Rattle.cell_isa.specs.declared.format.Format.{Format}
use Rattle.cell_isa.specs.declared.format.Format.TheVariants.{Upper, Jump, Immediate, Branch, Store, Register, Shift, ShiftWord}
use Rattle.cell_isa.specs.declared.table.Row.{Row}
use Rattle.cell_isa.specs.declared.table.Row.TheVariants.{Word, Fields}

-- a number without a place is 0, and a shift's funct7 leaves its lowest bit to the immediate
abbrev pub is_clean : Format → ℕ → ℕ → Bool
is_clean Upper n3 n7 = n3 == 0 && n7 == 0
is_clean Jump n3 n7 = n3 == 0 && n7 == 0
is_clean Immediate n3 n7 = n7 == 0
is_clean Branch n3 n7 = n7 == 0
is_clean Store n3 n7 = n7 == 0
is_clean Register n3 n7 = true
is_clean Shift n3 n7 = n7 % 2 == 0
is_clean ShiftWord n3 n7 = true

abbrev pub is_sound : Row → Bool
is_sound (Word own) = true
is_sound (Fields format o n3 n7) = nat_lt o 128 && nat_lt n3 8 && nat_lt n7 128 && is_clean format n3 n7
