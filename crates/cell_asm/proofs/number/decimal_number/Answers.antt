use Rattle.std.specs.Prelude.{◌≡◌}
use Rattle.cell_asm.proofs.Facts.{true, arith, list_all, is_ascii_digit}
use Rattle.cell_asm.proofs.ReadingLemmas.{digits_are_hex}
use Rattle.cell_asm.proofs.number.decimal_number.Goals as goal

pub value-requires-clause-digits : goal.value-requires-clause-digits
value-requires-clause-digits c =
    let e : list_all is_ascii_digit c.args.text.now ≡ true = grind arith in digits_are_hex c.args.text.now e
