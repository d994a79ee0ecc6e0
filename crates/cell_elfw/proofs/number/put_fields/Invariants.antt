use Rattle.std.proofs.Common.{◌≡◌, ◌++◌, take}
use Rattle.std.specs.List.{flat_map}
use Rattle.cell_object.specs.Rows.{stored}
use Rattle.cell_elfw.proofs.number.put_fields.Given as goal

-- the numbers so far
abbrev pub invariant-loop-number : goal.invariant-loop-number
invariant-loop-number l = l.into.items ≡ l.fn.into.items ++ flat_map (λ field. stored field.1 field.0) (take l.number-index l.numbers)
