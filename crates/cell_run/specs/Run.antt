-- A whole run: its text and its status.
--     run_of words files              the run of a program that is given these words and meets these files
--     job_of words files              what the machine is to do then, if it comes to that
--     WritesRun run status old new    how an answer and what was written stand to a run
use Rattle.std.specs.Prelude.{◌≡◌, ◌⊎◌, ℕ, List, [], ◌∷◌, ◌++◌, length, map, Option, None, Some, option_and_then, Result, Ok, Err}
use Rattle.std.specs.Result.{result_ok}
use Rattle.std.specs.Io.KnownBytes.{Appends}
use Rattle.cell_io.specs.Files.{File as HostFile, folder}
use Rattle.cell_arguments.specs.Arguments.{Said, Task, arguments_of}
use Rattle.cell_arguments.specs.Arguments.Task.{Script, Generated}
use Rattle.cell_io.specs.Within.{◌>>=◌}
use Rattle.cell_io.specs.Written.{AppendsPartOf}
use Rattle.cell_world.specs.declared.command.Command.{Command}
use Rattle.cell_world.specs.declared.file.File.{File}
use Rattle.cell_world.specs.World.{World, empty_world}
use Rattle.cell_world.specs.Gather.{source_of}
use Rattle.cell_world.specs.Next.{Answered, next}
use Rattle.cell_script.specs.declared.line.Line.{Line}
use Rattle.cell_gen.specs.Generated.{generated_files, generated_script}
use Rattle.cell_system.specs.State.{State}
use Rattle.cell_run.specs.declared.job.Job.{Job}
use Rattle.cell_run.specs.declared.job.Shows.{Shows}
use Rattle.cell_run.specs.declared.job.Shows.TheVariants.{Transcript, Totals}
use Rattle.cell_run.specs.declared.status.Status.{Status}
use Rattle.cell_run.specs.declared.status.Status.TheVariants.{Usage as UsageStatus, NoScript as NoScriptStatus, BadScript as BadScriptStatus, TooLarge as TooLargeStatus, OutOfMemory}
use Rattle.cell_run.specs.declared.summary.Summary.{Summary}
use Rattle.cell_input.specs.declared.reason.Reason.{Reason}
use Rattle.cell_input.specs.declared.reason.Reason.TheVariants.{NoScript, BadScript, TooLarge}
use Rattle.cell_input.specs.declared.take.Input.{Input}
use Rattle.cell_input.specs.Taking.{commands_of, input_from}
use Rattle.cell_run.specs.Answered.{status_by, summary_by, summary_line, text_by}
use Rattle.cell_run.specs.Driven.{IsCut}
use Rattle.cell_run.specs.Machine.{Answer}
use Rattle.cell_run.specs.StatusLine.{usage_line, reason_line}

pub record Run : Type 0 where
  pub text : List ℕ
  pub status : Status

-- the plain machine between two commands: the object files, which no command changes, and its world
pub record Plain : Type 0 where
  pub files : List File
  pub world : World

abbrev pub plain_of : State → Plain
plain_of s = record { files = s.files; world = s.machine.world }

-- the plain machine's answer to a command, and the machine after it
unfoldable pub answered : Plain → Command → Answered
answered p command = next (map source_of p.files) p.world command

abbrev pub after : Plain → Command → Plain
after p command = record { files = p.files; world = (answered p command).world }

-- the answers to the commands of these lines, from a state on, and the state after them
abbrev pub answers_from : Plain → List Line → List Answer
answers_from p [] = []
answers_from p (line ∷ lines) = (answered p line.command).answer ∷ answers_from (after p line.command) lines

abbrev pub after_all : Plain → List Line → Plain
after_all p [] = p
after_all p (line ∷ lines) = after_all (after p line.command) lines

-- of its answers, and of the cells that are present at the end
abbrev pub plain_summary : Plain → List Line → Summary
plain_summary p lines = record (summary_by (answers_from p lines)) { cells = length (after_all p lines).world.cells }

abbrev pub plain_text : Shows → Plain → List Line → List ℕ
plain_text Transcript p lines = text_by lines (answers_from p lines)
plain_text Totals p lines = summary_line (plain_summary p lines)

abbrev pub run_from : Shows → Plain → List Line → Run
run_from shows p lines = record { text = plain_text shows p lines; status = status_by (answers_from p lines) }

-- the machine before the first command
abbrev pub first_plain : ℕ → ℕ → List File → Plain
first_plain base pages files = record { files = files; world = empty_world base pages }

abbrev pub run_for : Job → Run
run_for job = run_from job.shows (first_plain job.base job.pages job.files) job.script

-- a script of a folder is done with its transcript, and what the generator makes with its totals
abbrev pub shows_for : Task → Shows
shows_for (Script dir script) = Transcript
shows_for (Generated crates seed) = Totals

-- the files and commands of a folder, and those that the generator makes
unfoldable pub input_for : Task → List HostFile → Result Input Reason
input_for (Script dir script) files = input_from script (folder dir files)
input_for (Generated crates seed) files =
    commands_of (generated_script crates) >>= λ lines. Ok (record { files = generated_files crates seed; script = lines })

abbrev pub job_with : Said → Input → Job
job_with said input =
    record { shows = shows_for said.task; base = said.base; pages = said.pages; files = input.files; script = input.script }

abbrev pub job_in : Said → List HostFile → Result Job Reason
job_in said files = input_for said.task files >>= λ input. Ok (job_with said input)

abbrev pub status_of : Reason → Status
status_of NoScript = NoScriptStatus
status_of (BadScript n) = BadScriptStatus n
status_of (TooLarge what limit) = TooLargeStatus what limit

-- the name of a task's script
abbrev pub script_named : Task → List ℕ
script_named (Script dir script) = script
script_named (Generated crates seed) = []

-- a run that is refused before its first command
abbrev pub refused_run : List ℕ → Reason → Run
refused_run script reason = record { text = reason_line script reason; status = status_of reason }

abbrev pub run_after : Task → Result Job Reason → Run
run_after task (Ok job) = run_for job
run_after task (Err reason) = refused_run (script_named task) reason

-- words without a reading are refused
abbrev pub usage_run : Run
usage_run = record { text = usage_line; status = UsageStatus }

-- what the words say is done; words that say nothing are refused
abbrev pub run_in : Option Said → List HostFile → Run
run_in None files = usage_run
run_in (Some said) files = run_after said.task (job_in said files)

abbrev pub run_of : List (List ℕ) → List HostFile → Run
run_of words files = run_in (arguments_of words) files

abbrev pub job_by : Option Said → List HostFile → Option Job
job_by said files = option_and_then (λ s. result_ok (job_in s files)) said

abbrev pub job_of : List (List ℕ) → List HostFile → Option Job
job_of words files = job_by (arguments_of words) files

-- nothing is read for what the generator makes
abbrev pub IsMade : Task → Type 0
IsMade (Script dir script) = ⊥
IsMade (Generated crates seed) = Unit {0}

-- nor for words without a reading
abbrev pub ReadsNothing : Option Said → Type 0
ReadsNothing None = Unit {0}
ReadsNothing (Some said) = IsMade said.task

-- status and bytes are those of the run; or the run was cut off, and the bytes are a front of its text
abbrev pub WritesRun : Run → Status → Option (List ℕ) → Option (List ℕ) → Type 0
WritesRun run status old new = ((status ≡ run.status) × Appends old new run.text) ⊎ (IsCut status × AppendsPartOf old new run.text)

-- status and whole text are those of the run, or memory ran out
abbrev pub IsWhole : Run → Status → List ℕ → List ℕ → Type 0
IsWhole run status old new = ((status ≡ run.status) × (new ≡ old ++ run.text)) ⊎ (status ≡ OutOfMemory)
