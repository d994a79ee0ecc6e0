use Rattle.std.proofs.Common.{ap, subst}
use Rattle.cell_text.specs.Text.{lines_in}
use Rattle.cell_script.proofs.Said.{AreCommands, script_said}
use Rattle.cell_input.specs.Taking.{commands_of, readable}
use Rattle.cell_input.proofs.take.commands.Goals as goal

pub returns-in-Ok-clause-lines : goal.returns-in-Ok-clause-lines
unfolding commands_of
returns-in-Ok-clause-lines c = ap readable c.in-Ok.ensures

pub returns-in-Err-Bad-clause-lines : goal.returns-in-Err-Bad-clause-lines
unfolding commands_of
returns-in-Err-Bad-clause-lines c = let e = rw c.in-Err-Bad.field-0-is at c.in-Err-Bad.ensures in (ap readable e)

pub returns-in-Ok-clause-said : goal.returns-in-Ok-clause-said
returns-in-Ok-clause-said c = subst AreCommands c.in-Ok.ensures (script_said 1 (lines_in c.args.text.now))
