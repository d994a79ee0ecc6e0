-- Lines that are read behind those before them.
use Rattle.std.proofs.Common.{◌≡◌, refl, sym, ◌∙◌, ap, subst, arith, ℕ, suc, ◌+◌, ◌-◌, ◌<◌, ◌≤◌, Bool, true, false, List, [], ◌∷◌, ◌++◌, length, take, drop, Option, Some, None, Ok, Err, option_map, slice_range}
use Rattle.std.specs.Prelude.{Result, option_and_then, position, ◌==◌}
use Rattle.std.proofs.lemmas.List.{drop-drop, drop-take, length-take, take-take}
use Rattle.cell_num.specs.Lists.{numbered_from, where_true}
use Rattle.cell_world.specs.declared.line.DumpLine.{DumpLine}
use Rattle.cell_audit.specs.declared.fail.AuditFail.{AuditFail}
use Rattle.cell_audit.specs.declared.fail.AuditFail.TheVariants.{Unreadable, NoObject, Misplaced, Unlinked, Differs, OutOfMemory}
use Rattle.cell_audit.specs.declared.order.Known.{Known}
use Rattle.cell_audit.specs.declared.read.Reader.{Reader}
use Rattle.cell_audit.specs.Audits.{readable}
use Rattle.cell_audit.specs.Dumps.{Row, Text, lines_of, row_after, rows_after, rows_in, said_at, texts_from}
use Rattle.cell_audit.specs.Following.{may_follow}
use Rattle.cell_audit.specs.Known.{follows, known_of, said_behind}
use Rattle.cell_audit.specs.Outcome.{FailsBy, GoesOn, StopsAt}
use Rattle.cell_audit.specs.Reader.{IsKept}
use Rattle.cell_audit.proofs.Knowing.{follows_of}
use Rattle.cell_audit.proofs.Finding.{add_one, first_line, only_line}

-- ---- one line
-- what is said behind lines is said, and may follow them
pub behind_said : (k : Known) (text : List ℕ) (l : DumpLine) → said_behind k text ≡ Some l → (said_at text ≡ Some l) × (follows k l ≡ true)
behind_said k text l e = go (said_at text) e
  where
    kept : (b : Bool) (m : DumpLine) → where_true b m ≡ Some l → (m ≡ l) × (b ≡ true)
    kept true m f = (cc, refl)
    kept false m f = absurd cc

    go : (o : Option DumpLine) → option_and_then (λ m. where_true (follows k m) m) o ≡ Some l → (o ≡ Some l) × (follows k l ≡ true)
    go None f = absurd cc
    go (Some m) f =
        let p = kept (follows k m) m f in
        (ap Some p.0, subst (λ (x : DumpLine). follows k x ≡ true) p.0 p.1)

abbrev pub with_number : ℕ → DumpLine → Row
with_number n l = (n, l)

-- the row of a text is what it says behind the lines before
pub row_of : (rows : List Row) (k : Known) (n : ℕ) (text : List ℕ) → k ≡ known_of (lines_of rows) → row_after rows (n, text) ≡ option_map (with_number n) (said_behind k text)
row_of rows k n text e = go (said_at text)
  where
    inside : (b : Bool) (l : DumpLine) → where_true b (with_number n l) ≡ option_map (with_number n) (where_true b l)
    inside true l = refl
    inside false l = refl

    go : (o : Option DumpLine) → option_and_then (λ l. where_true (may_follow (lines_of rows) l) (with_number n l)) o ≡ option_map (with_number n) (option_and_then (λ l. where_true (follows k l) l) o)
    go None = refl
    go (Some l) = ap (λ (b : Bool). where_true b (with_number n l)) (sym (follows_of (lines_of rows) k l e)) ∙ inside (follows k l) l

-- ---- one line behind another
row_stops : (rows : List Row) (t : Text) (texts : List Text) → row_after rows t ≡ None → rows_after rows (t ∷ texts) ≡ Err t.0
row_stops rows t texts e = ap (λ (o : Option Row). elim o [ None ↦ Err t.0 | Some row ↦ rows_after (rows ++ row ∷ []) texts ]) e

row_goes : (rows : List Row) (t : Text) (texts : List Text) (row : Row) → row_after rows t ≡ Some row → rows_after rows (t ∷ texts) ≡ rows_after (rows ++ row ∷ []) texts
row_goes rows t texts row e = ap (λ (o : Option Row). elim o [ None ↦ Err t.0 | Some row ↦ rows_after (rows ++ row ∷ []) texts ]) e

failed : (fault : AuditFail) (t : Text) (said : Result (List Row) ℕ) (rows : List Row) → StopsAt rows t fault → (row_after rows t ≡ None → said ≡ Err t.0) → FailsBy fault (readable said)
failed OutOfMemory t said rows s f = tt
failed (Unreadable line) t said rows s f = ap readable (f s.0) ∙ ap Err (sym s.1)
failed (NoObject line) t said rows s f = absurd cc
failed (Misplaced line) t said rows s f = absurd cc
failed (Unlinked line entry) t said rows s f = absurd cc
failed (Differs line held fresh) t said rows s f = absurd cc

-- ---- where lines stand
pub line_there : (file : List ℕ) (start k end : ℕ) → start + k ≤ end → slice_range file start (start + k) ≡ take k (slice_range file start end)
line_there file start k end h =
    let size : start + k - start ≡ k = omega arith in
    ap (λ (n : ℕ). take n (drop start file)) size ∙ sym (take-take k (end - start) (drop start file) (omega (arith, h)))

pub rest_there : (file : List ℕ) (start k end next : ℕ) → start + k < end → next ≡ start + k + 1 → slice_range file next end ≡ drop (k + 1) (slice_range file start end)
rest_there file start k end next h e =
    let size : end - start ≡ (k + 1) + (end - next) = omega (arith, h, e) in
    let place : start + (k + 1) ≡ next = omega (arith, e) in
    sym (ap (λ (n : ℕ). drop (k + 1) (take n (drop start file))) size
    ∙ (drop-take (k + 1) (end - next) (drop start file)
    ∙ ap (take (end - next)) (drop-drop (k + 1) start file ∙ ap (λ (n : ℕ). drop n file) place)))

-- a line feed stands before the end
pub inside_there : (file : List ℕ) (start k end : ℕ) → start ≤ end → k < length (slice_range file start end) → start + k < end
inside_there file start k end forward h = let size = length-take (end - start) (drop start file) in omega (arith, h, size, forward)

-- ---- all lines
-- the reader has the rows so far, and those that are left go on behind them
pub record IsSoFar (file : List ℕ) (texts : List Text) (reader : Reader) (number : ℕ) (rest : List ℕ) : Type 0 where
  pub rows : List Row
  pub kept : IsKept file rows reader.known reader.written
  pub same : rows_after rows (texts_from number rest) ≡ rows_in texts

first_row : (rows : List Row) (number k : ℕ) (rest : List ℕ) → position (λ b. b == 10) rest ≡ Some k
    → rows_after rows ((number, take k rest) ∷ texts_from (suc number) (drop (k + 1) rest)) ≡ rows_after rows (texts_from number rest)
first_row rows number k rest e = ap (λ (ls : List (List ℕ)). rows_after rows (numbered_from number ls)) (sym (first_line rest k e))

last_row : (rows : List Row) (number : ℕ) (rest : List ℕ) → position (λ b. b == 10) rest ≡ None → rows_after rows ((number, rest) ∷ []) ≡ rows_after rows (texts_from number rest)
last_row rows number rest e = ap (λ (ls : List (List ℕ)). rows_after rows (numbered_from number ls)) (sym (only_line rest e))

so_far_next : (file : List ℕ) (texts : List Text) (reader next : Reader) (number k : ℕ) (rest : List ℕ) → (h : IsSoFar file texts reader number rest) → position (λ b. b == 10) rest ≡ Some k
    → GoesOn file h.rows (number, take k rest) next → IsSoFar file texts next (number + 1) (drop (k + 1) rest)
so_far_next file texts reader next number k rest h e g = record {
  rows = h.rows ++ g.row ∷ [];
  kept = g.kept;
  same =
      ap (λ (n : ℕ). rows_after (h.rows ++ g.row ∷ []) (texts_from n (drop (k + 1) rest))) (sym (add_one number))
      ∙ (sym (row_goes h.rows (number, take k rest) (texts_from (suc number) (drop (k + 1) rest)) g.row g.reads)
      ∙ (first_row h.rows number k rest e ∙ h.same));
}

pub so_far_more : (file : List ℕ) (texts : List Text) (reader next : Reader) (number start k end : ℕ) → (h : IsSoFar file texts reader number (slice_range file start end)) → start + k < end
    → position (λ b. b == 10) (slice_range file start end) ≡ Some k → GoesOn file h.rows (number, slice_range file start (start + k)) next
    → IsSoFar file texts next (number + 1) (slice_range file (start + k + 1) end)
so_far_more file texts reader next number start k end h inside e g =
    subst (λ (rest : List ℕ). IsSoFar file texts next (number + 1) rest) (sym (rest_there file start k end (start + k + 1) inside refl))
    (so_far_next file texts reader next number k (slice_range file start end) h e
    (subst (λ (line : List ℕ). GoesOn file h.rows (number, line) next) (line_there file start k end (omega (arith, inside))) g))

pub stops_there : (file : List ℕ) (texts : List Text) (reader : Reader) (number start k end : ℕ) (fault : AuditFail) → (h : IsSoFar file texts reader number (slice_range file start end)) → start + k < end
    → position (λ b. b == 10) (slice_range file start end) ≡ Some k → StopsAt h.rows (number, slice_range file start (start + k)) fault → FailsBy fault (readable (rows_in texts))
stops_there file texts reader number start k end fault h inside e s =
    let rest = slice_range file start end in
    let line = line_there file start k end (omega (arith, inside)) in
    failed fault (number, take k rest) (rows_in texts) h.rows (subst (λ (l : List ℕ). StopsAt h.rows (number, l) fault) line s)
    (λ n. sym h.same ∙ (sym (first_row h.rows number k rest e) ∙ row_stops h.rows (number, take k rest) (texts_from (suc number) (drop (k + 1) rest)) n))

pub stops_last : (file : List ℕ) (texts : List Text) (reader : Reader) (number : ℕ) (rest : List ℕ) (fault : AuditFail) → (h : IsSoFar file texts reader number rest) → position (λ b. b == 10) rest ≡ None
    → StopsAt h.rows (number, rest) fault → FailsBy fault (readable (rows_in texts))
stops_last file texts reader number rest fault h e s =
    failed fault (number, rest) (rows_in texts) h.rows s (λ n. sym h.same ∙ (sym (last_row h.rows number rest e) ∙ row_stops h.rows (number, rest) [] n))

pub goes_last : (file : List ℕ) (texts : List Text) (reader next : Reader) (number : ℕ) (rest : List ℕ) → (h : IsSoFar file texts reader number rest) → position (λ b. b == 10) rest ≡ None
    → (g : GoesOn file h.rows (number, rest) next) → rows_in texts ≡ Ok (h.rows ++ g.row ∷ [])
goes_last file texts reader next number rest h e g =
    sym h.same ∙ (sym (last_row h.rows number rest e) ∙ row_goes h.rows (number, rest) [] g.row g.reads)
