use Rattle.std.proofs.Common.{◌≡◌, ◌-◌, ◌++◌}
use Rattle.cell_num.specs.Bits.{bytes_of}
use Rattle.cell_image.proofs.number.put_number.Given as goal

-- the bytes so far, and those that are left, are all of them
abbrev pub invariant-loop : goal.invariant-loop
invariant-loop l = l.into.items ++ bytes_of (l.count - l.counter) l.rest ≡ l.fn.into.items ++ bytes_of l.count l.number
