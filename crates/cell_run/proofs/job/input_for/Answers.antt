use Rattle.std.proofs.Common.{◌≡◌, Ok, sym, subst}
use Rattle.std.proofs.lemmas.Result.{IfOk-weaker}
use Rattle.cell_arguments.specs.Arguments.{task_said}
use Rattle.cell_arguments.specs.declared.arguments.Task.{Task}
use Rattle.cell_io.specs.Within.{Gives}
use Rattle.cell_run.specs.Run.{input_for}
use Rattle.cell_run.proofs.Inputs.{folder_input, made_input, objects_may_start}
use Rattle.cell_run.proofs.job.input_for.Goals as goal

pub returns-in-Script-clause-input : goal.returns-in-Script-clause-input
returns-in-Script-clause-input g c = λ files told.
    subst (λ (t : Task). Gives (λ input. input) c.take_from.result (input_for (task_said t) files)) (sym c.in-Script.is)
    (folder_input c.in-Script.dir.now c.in-Script.script.now files c.take_from.result (c.take_from.ensures.input files told))

pub returns-in-Script-clause-may_start : goal.returns-in-Script-clause-may_start
returns-in-Script-clause-may_start g c = IfOk-weaker c.take_from.result _ _ (λ input h. objects_may_start input.files h) c.take_from.ensures.files

pub returns-in_ok-made-in-Generated-clause-input : goal.returns-in_ok-made-in-Generated-clause-input
returns-in_ok-made-in-Generated-clause-input g c = λ files told.
    subst (λ (t : Task). input_for (task_said t) files ≡ Ok c.in_ok-made-in-Generated.field-0) (sym c.in-Generated.is)
    (made_input c.in-Generated.crates c.in-Generated.seed files c.in_ok-made-in-Generated.field-0 c.in_ok-made-in-Generated.ensures.files c.in_ok-made-in-Generated.ensures.script)
