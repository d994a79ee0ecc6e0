use Rattle.std.proofs.Common.{◌∙◌, ap}
use Rattle.std.specs.Prelude.{option_map}
use Rattle.cell_schedule.specs.Starts.{entry_as}
use Rattle.cell_schedule.proofs.Entries.{named_by}
use Rattle.cell_schedule.proofs.entry.find_entry.Goals as goal

pub returns-in_err-target : goal.returns-in_err-target
returns-in_err-target c =
    ap (option_map entry_as) c.from_residual.ensures ∙ named_by c.args.machine.now c.requires.sound c.args.ns c.args.symbol.now _ (c.in_err-target.ensures {u = tt})

pub returns : goal.returns
returns c = c.entry_at.ensures ∙ named_by c.args.machine.now c.requires.sound c.args.ns c.args.symbol.now _ (c.in_ok-target.ensures {u = tt})
