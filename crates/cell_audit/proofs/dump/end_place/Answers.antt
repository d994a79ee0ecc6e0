use Rattle.std.proofs.Common.{◌≡◌, ◌+◌, ◌-◌, ◌==◌, sym, ◌∙◌, ap, arith, bytes_eq, codes, drop, length, length-drop, take, List, ℕ, Some, None, position}
use Rattle.std.proofs.lemmas.List.{take_rest}
use Rattle.cell_audit.specs.Dumps.{texts_from}
use Rattle.cell_audit.proofs.Finding.{end_here, end_last, end_on_more, no_end}
use Rattle.cell_audit.proofs.dump.end_place.Goals as goal

pub returns-then-is_end-clause-lines : goal.returns-then-is_end-clause-lines
returns-then-is_end-clause-lines c =
    let text = c.args.text.now in
    let start = c.loop-len.start in
    let len = c.in-Some.len in
    let place = ap (position (λ b. b == 10)) (sym (take_rest text start)) ∙ sym c.in-Some.ensures.place in
    let size : start + len - start ≡ len = omega arith in
    let test = ap (λ (n : ℕ). bytes_eq (take n (drop start text)) (codes "  end")) (sym size) ∙ (sym c.is_end.ensures ∙ c.if-is_end.true) in
    c.loop-len.invariant.end (Some len) (end_here (drop start text) len place test)

pub loop-len-preserved : goal.loop-len-preserved
loop-len-preserved c =
    let text = c.args.text.now in
    let start = c.loop-len.start in
    let len = c.in-Some.len in
    let place = ap (position (λ b. b == 10)) (sym (take_rest text start)) ∙ sym c.in-Some.ensures.place in
    let size : start + len - start ≡ len = omega arith in
    let test = ap (λ (n : ℕ). bytes_eq (take n (drop start text)) (codes "  end")) (sym size) ∙ (sym c.is_end.ensures ∙ c.if-is_end.false) in
    let inside = c.in-Some.ensures.inside in
    let whole = ap length (take_rest text start) ∙ length-drop start text in
    record {
      end = end_on_more text start len c.loop-len.invariant.end place test;
      within = omega (arith, inside, whole);
    }

pub returns-then-is_end-2-clause-lines : goal.returns-then-is_end-2-clause-lines
returns-then-is_end-2-clause-lines c = λ first.
    let text = c.args.text.now in
    let start = c.loop-len.start in
    let within = c.loop-len.invariant.within in
    let place = ap (position (λ b. b == 10)) (sym (take_rest text start)) ∙ sym c.in_default.ensures.place in
    let test = ap (λ (line : List ℕ). bytes_eq line (codes "  end")) (sym (take_rest text start)) ∙ (sym c.is_end-2.ensures ∙ c.if-is_end-2.true) in
    let left = length-drop start text in
    let size : length text ≡ start + length (drop start text) = omega (arith, left, within) in
    ap (λ (n : ℕ). Some (texts_from first (take n text))) size ∙ c.loop-len.invariant.end (Some (length (drop start text))) (end_last (drop start text) place test) first

pub returns-else-is_end-2-clause-lines : goal.returns-else-is_end-2-clause-lines
returns-else-is_end-2-clause-lines c =
    let text = c.args.text.now in
    let start = c.loop-len.start in
    let place = ap (position (λ b. b == 10)) (sym (take_rest text start)) ∙ sym c.in_default.ensures.place in
    let test = ap (λ (line : List ℕ). bytes_eq line (codes "  end")) (sym (take_rest text start)) ∙ (sym c.is_end-2.ensures ∙ c.if-is_end-2.false) in
    c.loop-len.invariant.end None (no_end (drop start text) place test)
