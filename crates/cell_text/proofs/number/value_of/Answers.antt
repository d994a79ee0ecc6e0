use Rattle.cell_text.proofs.Hexadecimal.{digits_are_text}
use Rattle.cell_text.proofs.number.value_of.Goals as goal

pub returns-in-Err : goal.returns-in-Err
returns-in-Err c = absurd (c.in-Err.ensures.cases.0 (digits_are_text c.args.radix c.args.digits.now c.requires.high c.requires.digits))
