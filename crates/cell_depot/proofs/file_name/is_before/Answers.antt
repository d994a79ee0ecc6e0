use Rattle.std.proofs.Common.{◌∙◌, ap}
use Rattle.std.specs.Ordering.{is_lt}
use Rattle.cell_depot.proofs.NamesBefore.{lt_is_before}
use Rattle.cell_depot.proofs.file_name.is_before.Goals as goal

pub returns : goal.returns
returns c = c.is_lt.ensures ∙ ap is_lt c.cmp.ensures ∙ lt_is_before c.args.one.now c.args.other.now
