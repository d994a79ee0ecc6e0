use Rattle.std.proofs.Common.{◌+◌, ◌==◌, sym, ◌∙◌, ap, arith, length, slice_range, List, ℕ}
use Rattle.std.specs.List.{slice_split}
use Rattle.cell_audit.specs.Dumps.{is_answer, texts_from, up_to_end}
use Rattle.cell_audit.proofs.Finding.{begun, ended_there, found_in, passed}
use Rattle.cell_audit.proofs.Rows.{inside_there, line_there, rest_there}
use Rattle.cell_audit.proofs.dump.behind_beginning.Goals as goal

pub returns-then-is_beginning-clause-lines : goal.returns-then-is_beginning-clause-lines
returns-then-is_beginning-clause-lines c =
    let file = c.args.file.now in
    let start = c.loop-len.start in
    let number = c.loop-len.number in
    let len = c.in-Some.len in
    let inside = inside_there file start len (length file) c.loop-len.invariant.within c.in-Some.ensures.inside in
    let test =
    ap (λ (line : List ℕ). is_answer (slice_split (λ b. b == 32) line)) (sym (line_there file start len (length file) (omega (arith, inside))))
    ∙ (sym c.is_beginning.ensures.test ∙ c.if-is_beginning.true) in
    ap (λ (rest : List ℕ). up_to_end (texts_from (number + 1) rest)) (rest_there file start len (length file) (start + (len + 1)) inside (omega arith))
    ∙ (sym (begun number (slice_range file start (length file)) len (sym c.in-Some.ensures.place) test) ∙ c.loop-len.invariant.found)

pub loop-len-preserved : goal.loop-len-preserved
loop-len-preserved c =
    let file = c.args.file.now in
    let start = c.loop-len.start in
    let number = c.loop-len.number in
    let len = c.in-Some.len in
    let inside = inside_there file start len (length file) c.loop-len.invariant.within c.in-Some.ensures.inside in
    let numbers = c.loop-len.invariant.numbers in
    let test =
    ap (λ (line : List ℕ). is_answer (slice_split (λ b. b == 32) line)) (sym (line_there file start len (length file) (omega (arith, inside))))
    ∙ (sym c.is_beginning.ensures.test ∙ c.if-is_beginning.false) in
    record {
      found =
          ap (found_in (number + 1)) (rest_there file start len (length file) (start + (len + 1)) inside (omega arith))
          ∙ (sym (passed number (slice_range file start (length file)) len (sym c.in-Some.ensures.place) test) ∙ c.loop-len.invariant.found);
      numbers = omega (arith, numbers);
      within = omega (arith, inside);
    }

pub returns-clause-lines : goal.returns-clause-lines
returns-clause-lines c =
    let file = c.args.file.now in
    sym (ended_there c.loop-len.number (slice_range file c.loop-len.start (length file)) (sym c.in_default.ensures.place)) ∙ c.loop-len.invariant.found
