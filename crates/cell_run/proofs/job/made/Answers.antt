use Rattle.std.proofs.Common.{◌∙◌, sym, ap}
use Rattle.cell_script.specs.Script.{script_of}
use Rattle.cell_input.specs.Taking.{commands_of, readable}
use Rattle.cell_run.proofs.job.made.Goals as goal

pub returns-in-Ok-clause-script : goal.returns-in-Ok-clause-script
unfolding commands_of
returns-in-Ok-clause-script c =
    ap (λ text. readable (script_of text)) (sym (c.as_slice.ensures.value ∙ c.in_ok-generated.ensures.script)) ∙ ap readable c.in-Ok.ensures
