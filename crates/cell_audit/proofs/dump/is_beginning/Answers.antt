use Rattle.std.proofs.Common.{◌+◌, sym, ◌∙◌, ap, ◌&&◌, bytes_eq, codes, is_some, take, Bool, List, ℕ}
use Rattle.std.proofs.lemmas.List.{take_rest}
use Rattle.cell_dumped.specs.Readings.{number}
use Rattle.cell_audit.proofs.Finding.{answer_test, no_space}
use Rattle.cell_audit.proofs.dump.is_beginning.Goals as goal

pub returns-then-is_answer_to_all-clause-test : goal.returns-then-is_answer_to_all-clause-test
returns-then-is_answer_to_all-clause-test c =
    let line = c.args.line.now in
    let place = c.in-Some.place in
    let test = ap (λ (words : List ℕ). bytes_eq words (codes "ok dumpall")) (sym (take_rest line (place + 1))) ∙ (sym c.is_answer_to_all.ensures.test ∙ c.if-is_answer_to_all.true) in
    c.is_number.ensures ∙ sym (answer_test line place (sym c.in-Some.ensures.place) ∙ ap (λ (b : Bool). b && is_some (number (take place line))) test)

pub returns-else-is_answer_to_all-clause-test : goal.returns-else-is_answer_to_all-clause-test
returns-else-is_answer_to_all-clause-test c =
    let line = c.args.line.now in
    let place = c.in-Some.place in
    let test = ap (λ (words : List ℕ). bytes_eq words (codes "ok dumpall")) (sym (take_rest line (place + 1))) ∙ (sym c.is_answer_to_all.ensures.test ∙ c.if-is_answer_to_all.false) in
    c.if-is_answer_to_all.false ∙ sym (answer_test line place (sym c.in-Some.ensures.place) ∙ ap (λ (b : Bool). b && is_some (number (take place line))) test)

pub returns-in-None-clause-test : goal.returns-in-None-clause-test
returns-in-None-clause-test c = sym (no_space c.args.line.now (sym c.in-None.ensures.place))
