-- A machine that tells goes on as the plain machine does.
use Rattle.std.proofs.Common.{◌≡◌, inl, inr, arith, ℕ, ◌+◌, ◌≤◌, List, [], ◌∷◌, ◌++◌, None, Some, Ok, Err, refl, sym, ap, ◌∙◌, subst, append_assoc, length, fold, map}
use Rattle.std.specs.declared.option.Option.{Option}
use Rattle.std.specs.Prelude.{IsSomeAnd, ◌-◌}
use Rattle.std.specs.Io.KnownBytes.{Appends}
use Rattle.cell_io.specs.Written.{AppendsPartOf}
use Rattle.cell_laws.specs.Counts.{removed_by}
use Rattle.cell_laws.proofs.Counts.{outcome_counts}
use Rattle.cell_world.specs.Answer.{fresh_by}
use Rattle.cell_machine.specs.Does.{Leaves, Most, State as MachineState}
use Rattle.cell_machine.specs.Same.{raised}
use Rattle.cell_print.specs.Lines.{lines_of}
use Rattle.cell_script.specs.declared.line.Line.{Line}
use Rattle.cell_system.specs.State.{State}
use Rattle.cell_system.specs.Step.{IsStep, counts_of}
use Rattle.cell_world.specs.declared.command.Command.{Command}
use Rattle.cell_world.specs.Coherent.{IsCoherent}
use Rattle.cell_world.specs.Gather.{source_of}
use Rattle.cell_num.specs.Limits.{max_cells}
use Rattle.cell_world.specs.Next.{Answered, answered_by}
use Rattle.cell_world.specs.World.{World}
use Rattle.cell_run.specs.declared.status.Status.{Status}
use Rattle.cell_run.specs.declared.summary.Summary.{Summary}
use Rattle.cell_run.specs.Machine.{Answer, Goes, IsNext, as_result}
use Rattle.cell_run.specs.Answered.{empty_summary, status_by, summary_by, summary_line, text_by, with_answer}
use Rattle.cell_run.specs.Driven.{Did, Sums, Writes, sums_up}
use Rattle.cell_run.specs.Run.{Plain, Run, WritesRun, after, after_all, answered, answers_from, plain_of, plain_text, run_from}
use Rattle.cell_run.specs.declared.job.Shows.TheVariants.{Transcript, Totals}
use Rattle.cell_run.proofs.Going.{no_part, part_of_more}

-- what there is, with what holds of it
record Has {A : Type 0} (P : A → Type 0) (o : Option A) : Type 0 where
  value : A
  is : o ≡ Some value
  holds : P value

has : {A : Type 0} (P : A → Type 0) (o : Option A) → IsSomeAnd o P → Has P o
has P None h = absurd h
has P (Some x) h = record { value = x; is = refl; holds = h }

same_plain : (new old : Plain) (w : World) → new.files ≡ old.files → new.world ≡ w → new ≡ record { files = old.files; world = w }
same_plain new old w f e = let both : Plain = record { files = new.files; world = w } in ap (λ (v : World). record new { world = v }) e ∙ ap (λ fs. record both { files = fs }) f

-- the plain machine gives the answer, and goes on to the state
record IsPlainly (s : State) (command : Command) (answer : Answer) (t : State) : Type 0 where
  said : answer ≡ (answered (plain_of s) command).answer
  next : plain_of t ≡ after (plain_of s) command
  cells : (summary : Summary) → summary.cells ≡ length s.machine.world.cells → (with_answer summary answer).cells ≡ length t.machine.world.cells

answered_as : (s t : State) (command : Command) (answer : Answer) → answered (plain_of s) command ≡ record { answer = answer; world = t.machine.world } → t.files ≡ s.files
    → ((summary : Summary) → summary.cells ≡ length s.machine.world.cells → (with_answer summary answer).cells ≡ length t.machine.world.cells) → IsPlainly s command answer t
answered_as s t command answer e f n =
    record {
      said = ap (λ a. a.answer) (sym e);
      next = same_plain (plain_of t) (plain_of s) (answered (plain_of s) command).world f (ap (λ a. a.world) (sym e));
      cells = n;
    }

counts_exactly : (count fresh removed old new : ℕ) → count ≡ old → new + removed ≡ old + fresh → old + fresh ≤ max_cells → raised count fresh - removed ≡ new
counts_exactly count fresh removed old new e f g = grind arith

plainly : (s t : State) (command : Command) (answer : Answer) → IsCoherent s.machine.world → IsStep s command (as_result answer) t → IsPlainly s command answer t
unfolding answered
plainly s t command (Ok reply) coherent step =
    answered_as s t command (Ok reply) (ap (answered_by s.machine.world) step.answer.step) step.files
    (λ summary e.
    let adds = outcome_counts (map source_of s.files) s.machine.world coherent (record { reply = reply; world = t.machine.world }) command step.answer.step in
    counts_exactly summary.cells (length (fresh_by reply)) (length (removed_by reply)) (length s.machine.world.cells) (length t.machine.world.cells) e adds.counted adds.room)
plainly s t command (Err refusal) coherent step =
    answered_as s t command (Err refusal)
    (ap (answered_by s.machine.world) step.answer.0 ∙ ap (λ (w : World). let a : Answered = record { answer = Err refusal; world = w } in a) (sym (same_world step.answer.1)))
    step.files
    (λ summary e. e ∙ ap (λ (w : World). length w.cells) (sym (same_world step.answer.1)))
  where
    same_world : Leaves (counts_of (map source_of s.files) s.machine.world command).undone refusal s.machine t.machine → t.machine.world ≡ s.machine.world
    same_world = left (counts_of (map source_of s.files) s.machine.world command).undone
      where
        left : (undone : Option Most) → Leaves undone refusal s.machine t.machine → t.machine.world ≡ s.machine.world
        left None same = ap (λ (m : MachineState). m.world) same
        left (Some most) back = back.world

-- after these lines, with these answers
record ArePlainly (s : State) (lines : List Line) (answers : List Answer) (t : State) : Type 0 where
  said : answers ≡ answers_from (plain_of s) lines
  next : plain_of t ≡ after_all (plain_of s) lines
  cells : (summary : Summary) → summary.cells ≡ length s.machine.world.cells → (fold with_answer summary answers).cells ≡ length t.machine.world.cells

none_plainly : (s : State) → ArePlainly s [] [] s
none_plainly s = record { said = refl; next = refl; cells = λ summary e. e }

more_plainly : (s m t : State) (line : Line) (lines : List Line) (answer : Answer) (answers : List Answer) → IsPlainly s line.command answer m → ArePlainly m lines answers t → ArePlainly s (line ∷ lines) (answer ∷ answers) t
more_plainly s m t line lines answer answers one more =
    record {
      said = ap (λ a. a ∷ answers) one.said ∙ ap (λ xs. (answered (plain_of s) line.command).answer ∷ xs) (more.said ∙ ap (λ p. answers_from p lines) one.next);
      next = more.next ∙ ap (λ p. after_all p lines) one.next;
      cells = λ summary e. more.cells (with_answer summary answer) (one.cells summary e);
    }

-- the text of the answers to a front of the lines stands at the front of that of all
front_text : (p : Plain) (front rest : List Line) → text_by (front ++ rest) (answers_from p (front ++ rest)) ≡ text_by front (answers_from p front) ++ text_by rest (answers_from (after_all p front) rest)
front_text p [] rest = refl
front_text p (line ∷ front) rest =
    ap (λ t. lines_of line.number (answered p line.command).answer ++ t) (front_text (after p line.command) front rest)
    ∙ sym (append_assoc (lines_of line.number (answered p line.command).answer) (text_by front (answers_from (after p line.command) front)) (text_by rest (answers_from (after_all (after p line.command) front) rest)))

-- the totals of the answers are those of the plain machine
totals_plainly : (s t : State) (lines : List Line) (answers : List Answer) → length s.machine.world.cells ≡ 0 → ArePlainly s lines answers t → sums_up answers ≡ plain_text Totals (plain_of s) lines
totals_plainly s t lines answers none are =
    let cells : (summary_by answers).cells ≡ length (after_all (plain_of s) lines).world.cells = are.cells empty_summary (sym none) ∙ ap (λ (p : Plain). length p.world.cells) are.next in
    ap (λ (n : ℕ). summary_line (record (summary_by answers) { cells = n })) cells
    ∙ ap (λ (xs : List Answer). summary_line (record (summary_by xs) { cells = length (after_all (plain_of s) lines).world.cells })) are.said

module _ {M : Type 0} (acts : M → Command → Answer → M → Type 0) (told : M → Option State)
    (law : (old new : M) (command : Command) (answer : Answer) (s : State) → told old ≡ Some s → acts old command answer new → IsSomeAnd (told new) (IsNext s command answer)) where
  -- where it came to, by what it tells
  record Tells (s : State) (lines : List Line) (answers : List Answer) (now : M) : Type 0 where
    last : State
    tells : told now ≡ Some last
    plainly_is : ArePlainly s lines answers last

  goes_plainly : (first now : M) (s : State) (lines : List Line) (answers : List Answer) → told first ≡ Some s → IsCoherent s.machine.world → Goes acts first lines answers now → Tells s lines answers now
  goes_plainly first now s [] [] tells coherent goes = record { last = s; tells = ap told goes ∙ tells; plainly_is = none_plainly s }
  goes_plainly first now s [] (answer ∷ answers) tells coherent goes = absurd goes
  goes_plainly first now s (line ∷ lines) [] tells coherent goes = absurd goes
  goes_plainly first now s (line ∷ lines) (answer ∷ answers) tells coherent goes =
      let mid = has (IsNext s line.command answer) (told goes.between) (law first goes.between line.command answer s tells goes.acted) in
      let more = goes_plainly goes.between now mid.value lines answers mid.is mid.holds.coherent goes.later in
      record {
        last = more.last;
        tells = more.tells;
        plainly_is = more_plainly s mid.value more.last line lines answer answers (plainly s mid.value line.command answer coherent mid.holds.step) more.plainly_is;
      }

  did_plainly : (first now : M) (s : State) (lines : List Line) (status : Status) (before after : Option (List ℕ)) (text : List Answer → List ℕ) (run : Run)
      → told first ≡ Some s → IsCoherent s.machine.world → run.status ≡ status_by (answers_from (plain_of s) lines)
      → ((t : State) (answers : List Answer) → ArePlainly s lines answers t → text answers ≡ run.text)
      → Did acts lines text first status now before after → WritesRun run status before after
  did_plainly first now s lines status before after text run tells coherent ends same did =
      let is = goes_plainly first now s lines did.answers tells coherent did.went in
      inl (did.ended ∙ ap status_by is.plainly_is.said ∙ sym ends, subst (Appends before after) (same is.last did.answers is.plainly_is) did.written)

  pub writes_run : (first now : M) (s : State) (lines : List Line) (status : Status) (before after : Option (List ℕ)) → told first ≡ Some s → IsCoherent s.machine.world
      → Writes acts lines first status now before after → WritesRun (run_from Transcript (plain_of s) lines) status before after
  writes_run first now s lines status before after tells coherent (inl did) =
      did_plainly first now s lines status before after (text_by lines) (run_from Transcript (plain_of s) lines) tells coherent refl (λ t answers are. ap (text_by lines) are.said) did
  writes_run first now s lines status before after tells coherent (inr cut) =
      let part = cut.1 in
      let is = goes_plainly first part.now s part.front part.answers tells coherent part.went in
      let p = plain_of s in
      inr (
        cut.0,
        part_of_more before after (text_by part.front part.answers) (text_by part.rest (answers_from (after_all p part.front) part.rest)) (text_by lines (answers_from p lines))
            (ap (λ ls. text_by ls (answers_from p ls)) part.is ∙ front_text p part.front part.rest ∙ ap (λ xs. text_by part.front xs ++ text_by part.rest (answers_from (after_all p part.front) part.rest)) (sym is.plainly_is.said))
            part.part,
      )

  pub sums_run : (first now : M) (s : State) (lines : List Line) (status : Status) (before after : Option (List ℕ)) → told first ≡ Some s → IsCoherent s.machine.world → length s.machine.world.cells ≡ 0
      → Sums acts lines first status now before after → WritesRun (run_from Totals (plain_of s) lines) status before after
  sums_run first now s lines status before after tells coherent none (inl did) =
      did_plainly first now s lines status before after sums_up (run_from Totals (plain_of s) lines) tells coherent refl (λ t answers are. totals_plainly s t lines answers none are) did
  sums_run first now s lines status before after tells coherent none (inr (cut, inl nothing)) = inr (cut, no_part before after _ nothing)
  sums_run first now s lines status before after tells coherent none (inr (cut, inr all)) =
      let is = goes_plainly first now s lines all.answers tells coherent all.went in
      inr (cut, subst (AppendsPartOf before after) (totals_plainly s is.last lines all.answers none is.plainly_is) all.part)
