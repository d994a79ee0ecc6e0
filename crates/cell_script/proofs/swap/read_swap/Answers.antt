use Rattle.std.proofs.Common.{sym, ◌∙◌, None, Some}
use Rattle.cell_script.proofs.Items.{no_items, swap_is}
use Rattle.cell_script.proofs.swap.read_swap.Goals as goal

pub returns-in_default : goal.returns-in_default
returns-in_default c = no_items c.args.words.now c.item_count-count.result c.item_count-count.ensures.count (sym c.in_default.is ∙ c.in_ok-items.ensures {u = tt})

pub returns-in_default-2 : goal.returns-in_default-2
returns-in_default-2 c =
    swap_is c.args.words.now c.item_count-count.result c.item_count-count.ensures.count c.in-Some.items (sym c.in-Some.is ∙ c.in_ok-items.ensures {u = tt})
    c.as_slice.result.now c.as_slice-2.result.now c.take_option-reexport.result.0 c.take_option-strict.result.0 c.take_option-reexport.result.1.now c.take_option-strict.result.1.now
    (record {
      one_is = c.as_slice.ensures;
      reexports = c.take_option-reexport.ensures.given;
      behind = c.take_option-reexport.ensures.rest;
      two_is = c.as_slice-2.ensures;
      stricts = c.take_option-strict.ensures.given;
      end = c.take_option-strict.ensures.rest;
    })
    None (sym c.in_default-2.is ∙ c.in_ok-transfer.ensures {u = tt})

pub returns : goal.returns
returns c =
    swap_is c.args.words.now c.item_count-count.result c.item_count-count.ensures.count c.in-Some.items (sym c.in-Some.is ∙ c.in_ok-items.ensures {u = tt})
    c.as_slice.result.now c.as_slice-2.result.now c.take_option-reexport.result.0 c.take_option-strict.result.0 c.take_option-reexport.result.1.now c.take_option-strict.result.1.now
    (record {
      one_is = c.as_slice.ensures;
      reexports = c.take_option-reexport.ensures.given;
      behind = c.take_option-reexport.ensures.rest;
      two_is = c.as_slice-2.ensures;
      stricts = c.take_option-strict.ensures.given;
      end = c.take_option-strict.ensures.rest;
    })
    (Some c.in-Some-2.transfer) (sym c.in-Some-2.is ∙ c.in_ok-transfer.ensures {u = tt})
