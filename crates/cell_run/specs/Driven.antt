-- What a machine, whichever it is, was made to do, and what was written of it.
--     IsReady job                                          the job can be begun
--     Drives begun acts job old status new before after    the machine did the job whole, and what the job shows was written
--     Writes acts lines first status now before after      the commands of the lines were done and each answer written; or that was cut off
--     Sums acts lines first status now before after        the commands were done and the line that sums them up was written; or that was cut off
use Rattle.std.specs.Prelude.{◌≡◌, ◌⊎◌, ℕ, Bool, true, List, [], ◌++◌}
use Rattle.std.specs.declared.option.Option.{Option}
use Rattle.std.specs.Io.KnownBytes.{Appends}
use Rattle.cell_io.specs.Written.{AppendsPartOf}
use Rattle.cell_arguments.specs.Arguments.{IsInRange}
use Rattle.cell_print.specs.Lines.{lines_of}
use Rattle.cell_script.specs.Script.{are_said}
use Rattle.cell_script.specs.declared.line.Line.{Line}
use Rattle.cell_world.specs.declared.command.Command.{Command}
use Rattle.cell_world.specs.declared.file.File.{File}
use Rattle.cell_run.specs.declared.job.Job.{Job}
use Rattle.cell_run.specs.declared.status.Status.{Status}
use Rattle.cell_run.specs.declared.status.Status.TheVariants.{Done, SomeRefused, ReadFault, WriteFault, OutOfMemory}
use Rattle.cell_run.specs.declared.summary.Summary.{Summary}
use Rattle.cell_run.specs.Machine.{Answer, Goes, MayStart}
use Rattle.cell_run.specs.Answered.{is_refusal, status_by, summary_by, summary_line, text_by, text_for, with_answer}

-- a machine may be started with the job's memory and files, and each of its commands can be said
pub record IsReady (job : Job) : Type 0 where
  pub range : IsInRange job.base job.pages
  pub files : MayStart job.files
  pub said : are_said job.script ≡ true

-- the run was done to its end
abbrev pub IsFinished : Status → Type 0
IsFinished Done = Unit {0}
IsFinished SomeRefused = Unit {0}
IsFinished _ = ⊥

-- the run was cut off by a fault or by want of memory
abbrev pub IsCut : Status → Type 0
IsCut ReadFault = Unit {0}
IsCut WriteFault = Unit {0}
IsCut OutOfMemory = Unit {0}
IsCut _ = ⊥

-- it was started with the job's memory and files, did its commands in order, and what was written and how the run ended are
-- what these answers come to
pub record Drives {M : Type 0} (begun : M → ℕ → ℕ → List File → M → Type 0) (acts : M → Command → Answer → M → Type 0) (job : Job) (old : M) (status : Status) (new : M) (before after : Option (List ℕ)) : Type 0 where
  pub started : M
  pub start : begun old job.base job.pages job.files started
  pub answers : List Answer
  pub went : Goes acts started job.script answers new
  pub ended : status ≡ status_by answers
  pub written : Appends before after (text_for job.shows job.script answers)

-- all commands were done, and the text of their answers was written
pub record Did {M : Type 0} (acts : M → Command → Answer → M → Type 0) (lines : List Line) (text : List Answer → List ℕ) (first : M) (status : Status) (now : M) (before after : Option (List ℕ)) : Type 0 where
  pub answers : List Answer
  pub went : Goes acts first lines answers now
  pub ended : status ≡ status_by answers
  pub written : Appends before after (text answers)

-- the commands of a front of the lines were done, and a front of the text of their answers was written
pub record DidPart {M : Type 0} (acts : M → Command → Answer → M → Type 0) (lines : List Line) (first : M) (before after : Option (List ℕ)) : Type 0 where
  pub front : List Line
  pub rest : List Line
  pub is : lines ≡ front ++ rest
  pub answers : List Answer
  pub now : M
  pub went : Goes acts first front answers now
  pub part : AppendsPartOf before after (text_by front answers)

abbrev pub Writes : {M : Type 0} → (M → Command → Answer → M → Type 0) → List Line → M → Status → M → Option (List ℕ) → Option (List ℕ) → Type 0
Writes acts lines first status now before after =
    Did acts lines (text_by lines) first status now before after ⊎ (IsCut status × DidPart acts lines first before after)

-- all commands were done, and a front of the text of their answers was written
pub record DidAll {M : Type 0} (acts : M → Command → Answer → M → Type 0) (lines : List Line) (text : List Answer → List ℕ) (first : M) (now : M) (before after : Option (List ℕ)) : Type 0 where
  pub answers : List Answer
  pub went : Goes acts first lines answers now
  pub part : AppendsPartOf before after (text answers)

abbrev pub sums_up : List Answer → List ℕ
sums_up answers = summary_line (summary_by answers)

abbrev pub Sums : {M : Type 0} → (M → Command → Answer → M → Type 0) → List Line → M → Status → M → Option (List ℕ) → Option (List ℕ) → Type 0
Sums acts lines first status now before after =
    Did acts lines sums_up first status now before after
    ⊎ (IsCut status × (Appends before after [] ⊎ DidAll acts lines sums_up first now before after))

-- a command was answered, with that text, and refused or not
pub record DoesCommand {M : Type 0} (acts : M → Command → Answer → M → Type 0) (old : M) (line : Line) (text : List ℕ) (refused : Bool) (new : M) : Type 0 where
  pub answer : Answer
  pub acted : acts old line.command answer new
  pub text_is : text ≡ lines_of line.number answer
  pub verdict : refused ≡ is_refusal answer

-- its text was written
pub record DoesLine {M : Type 0} (acts : M → Command → Answer → M → Type 0) (old : M) (line : Line) (refused : Bool) (new : M) (before after : Option (List ℕ)) : Type 0 where
  pub answer : Answer
  pub acted : acts old line.command answer new
  pub verdict : refused ≡ is_refusal answer
  pub written : Appends before after (lines_of line.number answer)

-- or a front of it, if it was answered at all
pub record CutsLine {M : Type 0} (acts : M → Command → Answer → M → Type 0) (old : M) (line : Line) (new : M) (before after : Option (List ℕ)) : Type 0 where
  pub answer : Answer
  pub acted : acts old line.command answer new
  pub part : AppendsPartOf before after (lines_of line.number answer)

-- a command was answered, and its answer counted
pub record Counts {M : Type 0} (acts : M → Command → Answer → M → Type 0) (old : M) (command : Command) (before after : Summary) (new : M) : Type 0 where
  pub answer : Answer
  pub acted : acts old command answer new
  pub counted : after ≡ with_answer before answer

-- the commands were done, and their answers summed up
pub record Tallies {M : Type 0} (acts : M → Command → Answer → M → Type 0) (old : M) (lines : List Line) (summary : Summary) (new : M) : Type 0 where
  pub answers : List Answer
  pub went : Goes acts old lines answers new
  pub summed : summary ≡ summary_by answers
