use Rattle.std.specs.Prelude.{◌≡◌, ◌+◌, ◌*◌, ◌<◌}
use Rattle.cell_asm.proofs.Facts.{take, length, get_or, ap, sym, ◌∙◌, arith, digit_value, digits_value, held}
use Rattle.std.proofs.lemmas.Int.Digits.{digits_value_more}
use Rattle.cell_asm.proofs.ReadingLemmas.{held_step}
use Rattle.cell_asm.proofs.number.value.Goals as goal

pub loop-digit-preserved : goal.loop-digit-preserved
loop-digit-preserved c =
    let ds = c.args.digits.now in
    let i = c.loop-digit.digit-index in
    let r = c.args.radix in
    let d = digit_value (get_or ds i 0) in
    let within : i < length ds = omega arith in
    let step : held (c.loop-digit.value * r + d) ≡ held (digits_value r (take (i + 1) ds)) =
    ap (λ v. held (v * r + d)) c.loop-digit.invariant.value ∙ held_step (digits_value r (take i ds)) r d c.requires.radix ∙ ap held (sym (digits_value_more r ds i within)) in
    record {
      value = c.held-value.ensures.value ∙ rw (c.from.ensures, c.from-in-loop-digit.ensures, c.digit_of.ensures.value) step;
      small = c.held-value.ensures.small;
    }
