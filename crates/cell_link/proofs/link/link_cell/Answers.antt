use Rattle.std.proofs.Common.{◌∙◌}
use Rattle.std.specs.BTreeMap.{get}
use Rattle.cell_link.specs.Tables.{spot_cmp}
use Rattle.cell_link.proofs.ValueLemmas.{linked}
use Rattle.cell_link.proofs.link.link_cell.Goals as goal

pub returns : goal.returns
returns c =
    linked c.args.cell.now c.in_ok-linker.linker.numbers.places.cell.now c.args.targets.now c.in_ok-linker.linker.numbers.targets.now (get spot_cmp c.in_ok-fields.fields.held) c.in_ok-fields.fields.firsts.items c.from_vec.result
    c.in_ok-linker.ensures.cell c.in_ok-linker.ensures.targets c.requires.each c.in_ok-fields.ensures.fits c.in_ok-fields.ensures.firsts c.in_ok-fields.ensures.held
    (c.from_vec.ensures ∙ c.in_ok-values.ensures.values)
