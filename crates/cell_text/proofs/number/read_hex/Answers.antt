use Rattle.std.proofs.Common.{◌≡◌, true, ap, ◌∙◌}
use Rattle.cell_text.specs.Number.{is_canonical_hex}
use Rattle.cell_text.proofs.Hexadecimal.{is_canonical_hex-hex, hex_is_numeral, spells, spells_none}
use Rattle.cell_text.proofs.number.read_hex.Goals as goal

pub returns-then-not-is_canonical_hex-clause-none : goal.returns-then-not-is_canonical_hex-clause-none
returns-then-not-is_canonical_hex-clause-none c = λ _ n small same.
    let spelled : is_canonical_hex c.args.text.now ≡ true = ap is_canonical_hex same ∙ is_canonical_hex-hex n small in
    cc

pub value_of-requires-clause-digits : goal.value_of-requires-clause-digits
value_of-requires-clause-digits c =
    let spelled : is_canonical_hex c.args.text.now ≡ true = cc in
    hex_is_numeral c.args.text.now spelled

pub returns-clause-value : goal.returns-clause-value
returns-clause-value c =
    let spelled : is_canonical_hex c.args.text.now ≡ true = cc in
    spells c.value_of.result c.args.text.now spelled c.value_of.ensures

pub returns-clause-none : goal.returns-clause-none
returns-clause-none c = spells_none c.value_of.result c.args.text.now c.value_of.ensures
