-- What is asked of the machine that a run is done on, whichever it is.
--     Answer                              a reply or a refusal
--     first_state base pages files        what a machine tells that has just been started
--     MayStart files                      object files that a machine may be started with
--     HasAnswered P result new            where there is an answer, P holds of it and of the machine then
--     IsNext s command answer t           the answer is the plain machine's, and so is the state after it
--     Goes acts old lines answers new     the commands of these lines were done in order, each with its answer
use Rattle.std.specs.Prelude.{◌≡◌, ◌≤◌, ℕ, true, All, List, [], ◌∷◌, Result, Ok, Err, length}
use Rattle.std.specs.List.{list_all}
use Rattle.cell_world.specs.declared.command.Command.{Command}
use Rattle.cell_world.specs.declared.fail.Fail.{Fail}
use Rattle.cell_world.specs.declared.fail.Fail.TheVariants.{Refused, OutOfMemory}
use Rattle.cell_world.specs.declared.file.File.{File}
use Rattle.cell_world.specs.declared.refusal.Refusal.{Refusal}
use Rattle.cell_world.specs.declared.reply.Reply.{Reply}
use Rattle.cell_world.specs.Coherent.{IsCoherent}
use Rattle.cell_num.specs.Limits.{max_file_bytes, max_files}
use Rattle.cell_world.specs.World.{empty_world}
use Rattle.cell_depot.specs.Files.{are_apart}
use Rattle.cell_depot.specs.ObjectName.{is_object_name}
use Rattle.cell_script.specs.declared.line.Line.{Line}
use Rattle.cell_system.specs.State.{State}
use Rattle.cell_system.specs.Step.{IsStep}

abbrev pub Answer : Type 0
Answer = Result Reply Refusal

abbrev pub first_state : ℕ → ℕ → List File → State
first_state base pages files =
    record { files = files; machine = record { world = empty_world base pages; patches = 0; maps = 0 } }

-- not too many files, none too long, with different names of object files
pub record MayStart (files : List File) : Type 0 where
  pub few : length files ≤ max_files
  pub small : All (λ f. length f.bytes ≤ max_file_bytes) files
  pub named : list_all (λ f. is_object_name f.name) files ≡ true
  pub apart : are_apart files ≡ true

abbrev pub HasAnswered : {M : Type 0} → (Answer → M → Type 0) → Result Reply Fail → M → Type 0
HasAnswered P (Ok reply) new = P (Ok reply) new
HasAnswered P (Err (Refused refusal)) new = P (Err refusal) new
HasAnswered P (Err OutOfMemory) new = Unit {0}

abbrev pub as_result : Answer → Result Reply Fail
as_result (Ok reply) = Ok reply
as_result (Err refusal) = Err (Refused refusal)

-- with the counts that the command raises; each relocated field and dependency names a present section then
pub record IsNext (old : State) (command : Command) (answer : Answer) (new : State) : Type 0 where
  pub step : IsStep old command (as_result answer) new
  pub coherent : IsCoherent new.machine.world

-- a command done on the way, and what holds of the machine behind it
pub record Through {M : Type 0} (acts : M → Command → Answer → M → Type 0) (old : M) (command : Command) (answer : Answer) (Later : M → Type 0) : Type 0 where
  pub between : M
  pub acted : acts old command answer between
  pub later : Later between

abbrev pub Goes : {M : Type 0} → (M → Command → Answer → M → Type 0) → M → List Line → List Answer → M → Type 0
Goes acts old [] [] new = new ≡ old
Goes acts old [] (answer ∷ answers) new = ⊥
Goes acts old (line ∷ lines) [] new = ⊥
Goes acts old (line ∷ lines) (answer ∷ answers) new = Through acts old line.command answer (λ m. Goes acts m lines answers new)
