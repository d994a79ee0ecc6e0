use Rattle.std.proofs.Common.{◌≡◌, ◌^◌, true, false, sym, ap, ◌∙◌, arith}
use Rattle.std.proofs.lemmas.Bool.{cases_lt}
use Rattle.std.specs.Fmt.{decimal}
use Rattle.std.specs.Str.Parse.{digits_value}
use Rattle.cell_text.specs.Number.{is_canonical}
use Rattle.cell_text.proofs.Decimal.{is_canonical-decimal, digits_value-decimal, decimal_is_numeral, decimal-value, no_number, small_number, large_number, too_large}
use Rattle.cell_text.proofs.number.read_dec.Goals as goal

pub returns-then-not-is_canonical-clause-none : goal.returns-then-not-is_canonical-clause-none
returns-then-not-is_canonical-clause-none c = λ _ n small same.
    let spelled : is_canonical c.args.text.now ≡ true = ap is_canonical same ∙ is_canonical-decimal n (omega arith) in
    cc

pub value_of-requires-clause-digits : goal.value_of-requires-clause-digits
value_of-requires-clause-digits c =
    let spelled : is_canonical c.args.text.now ≡ true = cc in
    decimal_is_numeral c.args.text.now spelled

pub returns-in-Some-clause-value : goal.returns-in-Some-clause-value
returns-in-Some-clause-value c =
    let spelled : is_canonical c.args.text.now ≡ true = cc in
    let same : decimal (digits_value 10 c.args.text.now) ≡ c.args.text.now = decimal-value c.args.text.now spelled c.in-Some.ensures.0 in
    (sym same ∙ ap decimal (sym c.in-Some.ensures.1), c.if-value-most.true)

pub returns-in_default-clause-none : goal.returns-in_default-clause-none
returns-in_default-clause-none c = λ _ n small same.
    let number : digits_value 10 c.args.text.now ≡ n = digits_value-decimal n c.args.text.now (omega arith) same in
    omega (arith, number, c.in-Some.ensures.1)

pub returns-in_default-2-clause-none : goal.returns-in_default-2-clause-none
returns-in_default-2-clause-none c = λ _ n small same.
    let number : digits_value 10 c.args.text.now ≡ n = digits_value-decimal n c.args.text.now (omega arith) same in
    c.in_default.ensures (omega (arith, number))

pub returns-then-not-is_canonical-clause-reading : goal.returns-then-not-is_canonical-clause-reading
returns-then-not-is_canonical-clause-reading c =
    let other : is_canonical c.args.text.now ≡ false = cc in
    sym (no_number c.args.most c.args.text.now other)

pub returns-in-Some-clause-reading : goal.returns-in-Some-clause-reading
returns-in-Some-clause-reading c =
    let spelled : is_canonical c.args.text.now ≡ true = cc in
    sym (small_number c.args.most c.in-Some.value c.args.text.now spelled c.in-Some.ensures.1 c.if-value-most.true)

pub returns-in_default-clause-reading : goal.returns-in_default-clause-reading
returns-in_default-clause-reading c =
    let spelled : is_canonical c.args.text.now ≡ true = cc in
    sym (large_number c.args.most c.args.text.now spelled (omega (arith, c.in-Some.ensures.1)))

pub returns-in_default-2-clause-reading : goal.returns-in_default-2-clause-reading
returns-in_default-2-clause-reading c =
    let spelled : is_canonical c.args.text.now ≡ true = cc in
    sym (large_number c.args.most c.args.text.now spelled (too_large c.args.most (digits_value 10 c.args.text.now) (omega arith) (cases_lt (digits_value 10 c.args.text.now) (2 ^ 64)) c.in_default.ensures))
