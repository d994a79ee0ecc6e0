-- One command after another, and what is written of them.
use Rattle.std.proofs.Common.{◌≡◌, arith, ℕ, zero, suc, ◌+◌, ◌<◌, Bool, true, false, ◌||◌, List, [], ◌∷◌, ◌++◌, None, Some, Ok, Err, refl, sym, ap, ◌∙◌, append_assoc, append-nil, length, get_or, fold, nat_lt}
use Rattle.std.specs.declared.option.Option.{Option}
use Rattle.std.specs.Prelude.{min, ◌^◌, ◌-◌}
use Rattle.std.specs.Io.KnownBytes.{Appends}
use Rattle.std.proofs.lemmas.List.Sums.{fold-append}
use Rattle.std.proofs.lemmas.Bool.{and_parts}
use Rattle.cell_io.specs.Written.{AppendsPartOf}
use Rattle.cell_script.specs.declared.line.Line.{Line}
use Rattle.cell_script.specs.Script.{are_said, is_said}
use Rattle.cell_run.specs.declared.status.Status.{Status}
use Rattle.cell_run.specs.declared.status.Status.TheVariants.{Done, SomeRefused, Usage, NoScript, BadScript, TooLarge, ReadFault, WriteFault, OutOfMemory}
use Rattle.cell_run.specs.declared.summary.Summary.{Summary}
use Rattle.cell_run.specs.Machine.{Answer}
use Rattle.cell_run.specs.Answered.{any_refused, is_refusal, summary_by, with_answer}
use Rattle.cell_run.specs.Driven.{IsCut, IsFinished}

pub nothing : (o : Option (List ℕ)) → Appends o o []
nothing None = tt
nothing (Some xs) = sym (append-nil xs)

-- nothing was written, which is a front of any text
pub no_part : (old new : Option (List ℕ)) (text : List ℕ) → Appends old new [] → AppendsPartOf old new text
no_part old new text none = record { part = []; rest = text; is = refl; appended = none }

pub appends_more : (a b c : Option (List ℕ)) (x y : List ℕ) → Appends a b x → Appends b c y → Appends a c (x ++ y)
appends_more None b c x y p q = tt
appends_more (Some xs) None c x y p q = absurd p
appends_more (Some xs) (Some ys) None x y p q = absurd q
appends_more (Some xs) (Some ys) (Some zs) x y p q = q ∙ ap (λ v. v ++ y) p ∙ append_assoc xs x y

-- a front of a text is a front of a longer one
pub part_of_more : (old new : Option (List ℕ)) (text more whole : List ℕ) → whole ≡ text ++ more → AppendsPartOf old new text → AppendsPartOf old new whole
part_of_more old new text more whole e p =
    record { part = p.part; rest = p.rest ++ more; is = e ∙ ap (λ t. t ++ more) p.is ∙ append_assoc p.part p.rest more; appended = p.appended }

-- a text that stands before a front of another
pub part_after : (old before now : Option (List ℕ)) (text more whole : List ℕ) → whole ≡ text ++ more → Appends old before text → AppendsPartOf before now more → AppendsPartOf old now whole
part_after old before now text more whole e a p =
    record {
      part = text ++ p.part;
      rest = p.rest;
      is = e ∙ ap (λ m. text ++ m) p.is ∙ sym (append_assoc text p.part p.rest);
      appended = appends_more old before now text p.part a p.appended;
    }

pub finished_not_cut : (status : Status) → IsFinished status → IsCut status → ⊥
finished_not_cut Done f c = c
finished_not_cut SomeRefused f c = c
finished_not_cut Usage f c = f
finished_not_cut NoScript f c = f
finished_not_cut (BadScript n) f c = f
finished_not_cut (TooLarge what limit) f c = f
finished_not_cut ReadFault f c = f
finished_not_cut WriteFault f c = f
finished_not_cut OutOfMemory f c = f

-- a line that stands among lines that can be said
pub said_at : (lines : List Line) (i : ℕ) (line : Line) → i < length lines → line ≡ get_or lines i line → are_said lines ≡ true → is_said line.command ≡ true
said_at [] i line lt item all = absurd (omega (arith, lt))
said_at (l ∷ lines) zero line lt item all = ap (λ (x : Line). is_said x.command) item ∙ (and_parts (is_said l.command) (are_said lines) all).0
said_at (l ∷ lines) (suc i) line lt item all = said_at lines i line (omega (arith, lt)) item (and_parts (is_said l.command) (are_said lines) all).1

pub refused_more : (answers : List Answer) (answer : Answer) → any_refused (answers ++ answer ∷ []) ≡ (any_refused answers || is_refusal answer)
refused_more [] (Ok reply) = refl
refused_more [] (Err refusal) = refl
refused_more (Ok reply ∷ answers) answer = refused_more answers answer
refused_more (Err refusal ∷ answers) answer = refl

-- a count that is above 0 stays so
above : (s : Summary) → nat_lt 0 (min (s.refused + 1) (2 ^ 64 - 1)) ≡ true
above s = grind arith

counted_refused : (s : Summary) (answers : List Answer) → nat_lt 0 (fold with_answer s answers).refused ≡ (nat_lt 0 s.refused || any_refused answers)
counted_refused s [] = or_none (nat_lt 0 s.refused)
  where
    or_none : (b : Bool) → b ≡ (b || false)
    or_none true = refl
    or_none false = refl
counted_refused s (Ok reply ∷ answers) = counted_refused (with_answer s (Ok reply)) answers
counted_refused s (Err refusal ∷ answers) = counted_refused (with_answer s (Err refusal)) answers ∙ ap (λ b. b || any_refused answers) (above s) ∙ sym (or_true (nat_lt 0 s.refused))
  where
    or_true : (b : Bool) → (b || true) ≡ true
    or_true true = refl
    or_true false = refl

pub refused_is_counted : (answers : List Answer) → nat_lt 0 (summary_by answers).refused ≡ any_refused answers
refused_is_counted answers = counted_refused _ answers

pub summed_more : (answers : List Answer) (answer : Answer) → summary_by (answers ++ answer ∷ []) ≡ with_answer (summary_by answers) answer
summed_more answers answer = fold-append with_answer _ answers (answer ∷ [])
