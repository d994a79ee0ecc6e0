-- What a run works on.
use Rattle.std.proofs.Common.{◌≡◌, ◌∙◌, ℕ, List, Ok, ap, sym}
use Rattle.std.specs.Prelude.{Result}
use Rattle.cell_arguments.specs.Arguments.Task.{Script, Generated}
use Rattle.cell_io.specs.Files.{File as HostFile, folder}
use Rattle.cell_io.specs.Within.{Gives, ◌>>=◌}
use Rattle.cell_io.specs.declared.stop.Stop.{Stop}
use Rattle.cell_input.specs.declared.reason.Reason.{Reason}
use Rattle.cell_input.specs.declared.take.Input.{Input}
use Rattle.cell_input.specs.Objects.{AreObjectFiles}
use Rattle.cell_input.specs.Taking.{commands_of, input_from}
use Rattle.cell_gen.specs.Generated.{generated_files, generated_script}
use Rattle.cell_world.specs.declared.file.File.{File}
use Rattle.cell_run.specs.Machine.{MayStart}
use Rattle.cell_run.specs.Run.{input_for}
use Rattle.cell_input.proofs.DistinctFiles.{apart}

pub objects_may_start : (files : List File) → AreObjectFiles files → MayStart files
objects_may_start files h = record { few = h.few; small = h.small; named = h.named; apart = apart files h.ordered }

pub folder_input : (dir script : List ℕ) (files : List HostFile) (result : Result Input (Stop Reason)) → Gives (λ input. input) result (input_from script (folder dir files)) → Gives (λ input. input) result (input_for (Script dir script) files)
unfolding input_for
folder_input dir script files result h = h

pub made_input : (crates seed : ℕ) (files : List HostFile) (input : Input) → input.files ≡ generated_files crates seed → commands_of (generated_script crates) ≡ Ok input.script → input_for (Generated crates seed) files ≡ Ok input
unfolding input_for
made_input crates seed files input e f =
    ap (λ lines. lines >>= λ ls. Ok (record { files = generated_files crates seed; script = ls })) f ∙ ap (λ fs. Ok (record { files = fs; script = input.script })) (sym e)
