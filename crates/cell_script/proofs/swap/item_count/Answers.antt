use Rattle.std.proofs.Common.{◌∙◌, ap, length, sym}
use Rattle.std.specs.Prelude.{unwrap_or}
use Rattle.cell_script.proofs.Items.{counted}
use Rattle.cell_script.proofs.swap.item_count.Goals as goal

pub returns-in-Some-clause-count : goal.returns-in-Some-clause-count
returns-in-Some-clause-count c =
    ap (λ o. unwrap_or o (length c.args.words.now)) (sym c.in-Some.is) ∙ counted c.args.words.now c.first_option.result c.first_option.ensures.place

pub returns-in-None-clause-count : goal.returns-in-None-clause-count
returns-in-None-clause-count c =
    ap (λ o. unwrap_or o (length c.args.words.now)) (sym c.in-None.is) ∙ counted c.args.words.now c.first_option.result c.first_option.ensures.place
