-- What the answers of a run come to, and what is written of them.
--     text_by lines answers           the lines of each answer, in order
--     summary_by answers              how many there are, and what they come to
--     text_for shows lines answers    what a run shows of its answers
--     status_by answers               how it ends
use Rattle.std.specs.Prelude.{ℕ, ◌-◌, Bool, true, false, List, [], ◌∷◌, ◌++◌, Ok, Err, codes, fold, if◌then◌else◌, length}
use Rattle.std.specs.Fmt.{decimal}
use Rattle.cell_world.specs.Answer.{fresh_by}
use Rattle.cell_machine.specs.Does.{patched_by}
use Rattle.cell_machine.specs.Same.{raised}
use Rattle.cell_laws.specs.Counts.{removed_by}
use Rattle.cell_print.specs.Lines.{line, lines_of}
use Rattle.cell_script.specs.declared.line.Line.{Line}
use Rattle.cell_run.specs.declared.job.Shows.{Shows}
use Rattle.cell_run.specs.declared.job.Shows.TheVariants.{Transcript, Totals}
use Rattle.cell_run.specs.declared.status.Status.{Status}
use Rattle.cell_run.specs.declared.status.Status.TheVariants.{Done, SomeRefused}
use Rattle.cell_run.specs.declared.summary.Summary.{Summary}
use Rattle.cell_run.specs.Machine.{Answer}

abbrev pub text_by : List Line → List Answer → List ℕ
text_by (l ∷ lines) (answer ∷ answers) = lines_of l.number answer ++ text_by lines answers
text_by _ _ = []

abbrev pub is_refusal : Answer → Bool
is_refusal (Ok reply) = false
is_refusal (Err refusal) = true

abbrev pub any_refused : List Answer → Bool
any_refused [] = false
any_refused (answer ∷ answers) = if is_refusal answer then true else any_refused answers

abbrev pub status_by : List Answer → Status
status_by answers = if any_refused answers then SomeRefused else Done

abbrev pub empty_summary : Summary
empty_summary = record { commands = 0; accepted = 0; refused = 0; cells = 0; patched = 0 }

-- each count stands still at the last value of 64 bits
abbrev pub with_answer : Summary → Answer → Summary
with_answer s (Ok reply) =
    record {
      commands = raised s.commands 1;
      accepted = raised s.accepted 1;
      refused = s.refused;
      cells = raised s.cells (length (fresh_by reply)) - length (removed_by reply);
      patched = raised s.patched (patched_by reply);
    }
with_answer s (Err refusal) =
    record {
      commands = raised s.commands 1;
      accepted = s.accepted;
      refused = raised s.refused 1;
      cells = s.cells;
      patched = s.patched;
    }

abbrev pub summary_by : List Answer → Summary
summary_by answers = fold with_answer empty_summary answers

abbrev pub summary_line : Summary → List ℕ
summary_line s =
    line (
    codes "commands " ∷ decimal s.commands ∷ codes " accepted " ∷ decimal s.accepted ∷ codes " refused " ∷ decimal s.refused
    ∷ codes " cells " ∷ decimal s.cells ∷ codes " patched " ∷ decimal s.patched
    ∷ []
    )

abbrev pub text_for : Shows → List Line → List Answer → List ℕ
text_for Transcript lines answers = text_by lines answers
text_for Totals lines answers = summary_line (summary_by answers)
