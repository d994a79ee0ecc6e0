-- One command after another on a machine, whichever it is.
use Rattle.std.proofs.Common.{◌≡◌, ◌+◌, ◌<◌, ◌≤◌, ℕ, Bool, false, ◌||◌, nat_lt, length, get_or, take, drop, List, [], ◌∷◌, ◌++◌, ◌⊎◌, inl, inr, refl, sym, ap, ◌∙◌, subst, append_assoc, append-nil}
use Rattle.std.specs.declared.option.Option.{Option}
use Rattle.std.specs.Prelude.{if◌then◌else◌}
use Rattle.std.specs.Io.KnownBytes.{Appends}
use Rattle.std.proofs.lemmas.List.{take_more, take_all, take-append-drop}
use Rattle.cell_io.specs.Written.{AppendsPartOf}
use Rattle.cell_print.specs.Lines.{lines_of}
use Rattle.cell_script.specs.declared.line.Line.{Line}
use Rattle.cell_world.specs.declared.command.Command.{Command}
use Rattle.cell_run.specs.declared.summary.Summary.{Summary}
use Rattle.cell_run.specs.Machine.{Answer, Goes}
use Rattle.cell_run.specs.declared.status.Status.{Status}
use Rattle.cell_run.specs.declared.status.Status.TheVariants.{Done, SomeRefused}
use Rattle.cell_run.specs.Answered.{any_refused, empty_summary, summary_line, text_by, with_answer}
use Rattle.cell_run.specs.Driven.{Counts, CutsLine, DidPart, DoesLine, IsCut, Sums, Tallies, Writes}
use Rattle.cell_run.proofs.Going.{appends_more, nothing, no_part, part_after, refused_is_counted, refused_more, summed_more}

pub front_more : (lines : List Line) (i : ℕ) (line : Line) → i < length lines → line ≡ get_or lines i line → take i lines ++ line ∷ [] ≡ take (i + 1) lines
front_more lines i line lt item = ap (λ l. take i lines ++ l ∷ []) item ∙ sym (take_more lines i line lt)

around : (lines : List Line) (i : ℕ) (line : Line) → i < length lines → line ≡ get_or lines i line → lines ≡ (take i lines ++ line ∷ []) ++ drop (i + 1) lines
around lines i line lt item = sym (take-append-drop (i + 1) lines) ∙ ap (λ front. front ++ drop (i + 1) lines) (sym (front_more lines i line lt item))

module _ {M : Type 0} (acts : M → Command → Answer → M → Type 0) where
  pub goes_more : (old mid new : M) (front : List Line) (line : Line) (answers : List Answer) (answer : Answer) → Goes acts old front answers mid → acts mid line.command answer new → Goes acts old (front ++ line ∷ []) (answers ++ answer ∷ []) new
  goes_more old mid new [] line [] answer h a = record { between = new; acted = subst (λ m. acts m line.command answer new) h a; later = refl }
  goes_more old mid new [] line (x ∷ answers) answer h a = absurd h
  goes_more old mid new (l ∷ front) line [] answer h a = absurd h
  goes_more old mid new (l ∷ front) line (x ∷ answers) answer h a =
      record { between = h.between; acted = h.acted; later = goes_more h.between mid new front line answers answer h.later a }

  pub text_more : (old mid : M) (front : List Line) (line : Line) (answers : List Answer) (answer : Answer) → Goes acts old front answers mid → text_by (front ++ line ∷ []) (answers ++ answer ∷ []) ≡ text_by front answers ++ lines_of line.number answer
  text_more old mid [] line [] answer h = append-nil (lines_of line.number answer)
  text_more old mid [] line (x ∷ answers) answer h = absurd h
  text_more old mid (l ∷ front) line [] answer h = absurd h
  text_more old mid (l ∷ front) line (x ∷ answers) answer h =
      ap (λ t. lines_of l.number x ++ t) (text_more h.between mid front line answers answer h.later)
      ∙ sym (append_assoc (lines_of l.number x) (text_by front answers) (lines_of line.number answer))

  -- a front of the lines was done, and its answers were written
  pub record SoFar (first : M) (front : List Line) (refused : Bool) (now : M) (before after : Option (List ℕ)) : Type 0 where
    pub answers : List Answer
    pub went : Goes acts first front answers now
    pub verdict : refused ≡ any_refused answers
    pub written : Appends before after (text_by front answers)

  pub at_start : (first : M) (o : Option (List ℕ)) → SoFar first [] false first o o
  at_start first o = record { answers = []; went = refl; verdict = refl; written = nothing o }

  pub one_more : (first now new : M) (front : List Line) (line : Line) (some refused : Bool) (old before written : Option (List ℕ))
      → SoFar first front some now old before → DoesLine acts now line refused new before written → SoFar first (front ++ line ∷ []) (some || refused) new old written
  one_more first now new front line some refused old before written far does =
      record {
        answers = far.answers ++ does.answer ∷ [];
        went = goes_more first now new front line far.answers does.answer far.went does.acted;
        verdict = ap (λ b. b || refused) far.verdict ∙ ap (λ b. any_refused far.answers || b) does.verdict ∙ sym (refused_more far.answers does.answer);
        written = subst (Appends old written) (sym (text_more first now front line far.answers does.answer far.went))
            (appends_more old before written (text_by front far.answers) (lines_of line.number does.answer) far.written does.written);
      }

  -- cut off before the answer to the next line, or in it
  pub cut_before : (first now : M) (front rest lines : List Line) (some : Bool) (old before written : Option (List ℕ))
      → lines ≡ front ++ rest → SoFar first front some now old before → Appends before written [] → DidPart acts lines first old written
  cut_before first now front rest lines some old before written e far none =
      record {
        front = front;
        rest = rest;
        is = e;
        answers = far.answers;
        now = now;
        went = far.went;
        part = part_after old before written (text_by front far.answers) [] (text_by front far.answers) (sym (append-nil (text_by front far.answers))) far.written
            (no_part before written [] none);
      }

  pub cut_within : (first now new : M) (front rest lines : List Line) (line : Line) (some : Bool) (old before written : Option (List ℕ))
      → lines ≡ (front ++ line ∷ []) ++ rest → SoFar first front some now old before → CutsLine acts now line new before written → DidPart acts lines first old written
  cut_within first now new front rest lines line some old before written e far cut =
      record {
        front = front ++ line ∷ [];
        rest = rest;
        is = e;
        answers = far.answers ++ cut.answer ∷ [];
        now = new;
        went = goes_more first now new front line far.answers cut.answer far.went cut.acted;
        part = part_after old before written (text_by front far.answers) (lines_of line.number cut.answer) _
            (text_more first now front line far.answers cut.answer far.went) far.written cut.part;
      }

  pub tallied_more : (first now new : M) (front : List Line) (line : Line) (summary more : Summary) → Tallies acts first front summary now → Counts acts now line.command summary more new → Tallies acts first (front ++ line ∷ []) more new
  tallied_more first now new front line summary more far one =
      record {
        answers = far.answers ++ one.answer ∷ [];
        went = goes_more first now new front line far.answers one.answer far.went one.acted;
        summed = one.counted ∙ ap (λ s. with_answer s one.answer) far.summed ∙ sym (summed_more far.answers one.answer);
      }

  pub tallied_none : (first : M) → Tallies acts first [] empty_summary first
  tallied_none first = record { answers = []; went = refl; summed = refl }

  pub cut_at : (first now new : M) (lines : List Line) (i : ℕ) (line : Line) (some : Bool) (status : Status) (last : M) (old before written : Option (List ℕ)) → i < length lines → line ≡ get_or lines i line
      → SoFar first (take i lines) some now old before → IsCut status → Appends before written [] ⊎ CutsLine acts now line new before written → Writes acts lines first status last old written
  cut_at first now new lines i line some status last old before written lt item far cut (inl none) =
      inr (cut, cut_before first now (take i lines) (drop i lines) lines some old before written (sym (take-append-drop i lines)) far none)
  cut_at first now new lines i line some status last old before written lt item far cut (inr within) =
      inr (cut, cut_within first now new (take i lines) (drop (i + 1) lines) lines line some old before written (around lines i line lt item) far within)

  pub did_all : (first now : M) (lines : List Line) (i : ℕ) (some : Bool) (status : Status) (old before : Option (List ℕ)) → length lines ≤ i
      → SoFar first (take i lines) some now old before → status ≡ (if some then SomeRefused else Done) → Writes acts lines first status now old before
  did_all first now lines i some status old before le far e =
      let all : take i lines ≡ lines = take_all i lines le in
      inl (record {
        answers = far.answers;
        went = subst (λ ls. Goes acts first ls far.answers now) all far.went;
        ended = e ∙ ap (λ b. if b then SomeRefused else Done) far.verdict;
        written = subst (λ ls. Appends old before (text_by ls far.answers)) all far.written;
      })

  pub tallied_all : (first now : M) (lines : List Line) (i : ℕ) (summary : Summary) → length lines ≤ i → Tallies acts first (take i lines) summary now → Tallies acts first lines summary now
  tallied_all first now lines i summary le far = subst (λ ls. Tallies acts first ls summary now) (take_all i lines le) far

  pub summed : (first now : M) (lines : List Line) (summary : Summary) (text : List ℕ) (status : Status) (before after : Option (List ℕ)) → Tallies acts first lines summary now → text ≡ summary_line summary
      → Appends before after text → status ≡ (if nat_lt 0 summary.refused then SomeRefused else Done) → Sums acts lines first status now before after
  summed first now lines summary text status before after tally e written ends =
      inl (record {
        answers = tally.answers;
        went = tally.went;
        ended = ends ∙ ap (λ (s : Summary). if nat_lt 0 s.refused then SomeRefused else Done) tally.summed ∙ ap (λ b. if b then SomeRefused else Done) (refused_is_counted tally.answers);
        written = subst (Appends before after) (e ∙ ap summary_line tally.summed) written;
      })

  pub summed_part : (first now : M) (lines : List Line) (summary : Summary) (text : List ℕ) (status : Status) (before after : Option (List ℕ)) → Tallies acts first lines summary now → text ≡ summary_line summary
      → AppendsPartOf before after text → IsCut status → Sums acts lines first status now before after
  summed_part first now lines summary text status before after tally e part cut =
      inr (cut, inr (record { answers = tally.answers; went = tally.went; part = subst (AppendsPartOf before after) (e ∙ ap summary_line tally.summed) part }))
