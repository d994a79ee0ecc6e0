-- The lines of a stretch of a file, one after another.
use Rattle.std.proofs.Common.{◌≡◌, refl, sym, ◌∙◌, ap, arith, ℕ, suc, ◌+◌, ◌<◌, List, [], ◌∷◌, drop, slice_range}
use Rattle.std.specs.Prelude.{Some, None, position, ◌==◌}
use Rattle.cell_num.specs.Lists.{numbered_from}
use Rattle.cell_audit.specs.Dumps.{texts_from}
use Rattle.cell_audit.proofs.Finding.{add_one, first_line, only_line}
use Rattle.cell_audit.proofs.Rows.{line_there, rest_there}

pub step_line : (file : List ℕ) (start end first k : ℕ) → start + k < end → position (λ b. b == 10) (slice_range file start end) ≡ Some k
    → texts_from first (slice_range file start end) ≡ (first, slice_range file start (start + k)) ∷ texts_from (first + 1) (slice_range file (start + k + 1) end)
step_line file start end first k inside e =
    ap (numbered_from first) (first_line (slice_range file start end) k e)
    ∙ (ap (λ (line : List ℕ). (first, line) ∷ texts_from (suc first) (drop (k + 1) (slice_range file start end))) (sym (line_there file start k end (omega (arith, inside))))
    ∙ (ap (λ (n : ℕ). (first, slice_range file start (start + k)) ∷ texts_from n (drop (k + 1) (slice_range file start end))) (add_one first)
    ∙ ap (λ (text : List ℕ). (first, slice_range file start (start + k)) ∷ texts_from (first + 1) text) (sym (rest_there file start k end (start + k + 1) inside refl))))

pub step_last : (first : ℕ) (text : List ℕ) → position (λ b. b == 10) text ≡ None → texts_from first text ≡ (first, text) ∷ []
step_last first text e = ap (numbered_from first) (only_line text e)
