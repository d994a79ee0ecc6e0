use Rattle.std.proofs.Common.{◌≡◌, ◌∙◌, get_or, sym, arith}
use Rattle.cell_script.specs.declared.command.Reading.TheVariants.{Nothing, Does, Bad}
use Rattle.cell_script.proofs.Lines.{fits, filled, no_text}
use Rattle.cell_script.proofs.read.read_lines.Goals as goal

pub read_line-requires : goal.read_line-requires
read_line-requires c = omega (arith, fits c.args.texts.now c.loop-i.i no_text c.requires (omega arith))

pub line_number-number-requires : goal.line_number-number-requires
line_number-number-requires c =
    let some = filled (get_or c.args.texts.now c.loop-i.i no_text).now c.in-Ok-Does.field-0 c.in-Ok-Does.ensures (λ e. let both : Does c.in-Ok-Does.command ≡ Nothing = sym c.in-Ok-Does.field-0-is ∙ e in cc) in
    omega (arith, some, fits c.args.texts.now c.loop-i.i no_text c.requires (omega arith))

pub line_number-line-requires : goal.line_number-line-requires
line_number-line-requires c =
    let some = filled (get_or c.args.texts.now c.loop-i.i no_text).now c.in-Ok-Bad.field-0 c.in-Ok-Bad.ensures (λ e. let both : Bad ≡ Nothing = sym c.in-Ok-Bad.field-0-is ∙ e in cc) in
    omega (arith, some, fits c.args.texts.now c.loop-i.i no_text c.requires (omega arith))
