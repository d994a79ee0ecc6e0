use Rattle.std.specs.Prelude.{◌≡◌, ◌<◌, ◌^◌, ◌+◌}
use Rattle.cell_asm.proofs.Facts.{take, digits_value, held}
use Rattle.cell_asm.proofs.number.value.Given as goal

-- what is held of the number of the digits so far
abbrev pub invariant-loop-digit : goal.invariant-loop-digit
invariant-loop-digit l = record {
  value : l.value ≡ held (digits_value l.radix (take l.digit-index l.digits));
  small : l.value < 2 ^ 64 + 4;
}
