-- The places of words, found from a line's front.
use Rattle.std.proofs.Common.{◌≡◌, ℕ, ◌+◌, ◌-◌, ◌<◌, ◌≤◌, List, [], ◌∷◌, ◌++◌, Bool, true, false, ◌⊎◌, inl, inr, length, map, get_or, take, drop, sym, ap, ◌∙◌, arith, append_assoc, append-nil, length-drop, All}
use Rattle.std.specs.declared.result.Result.{Result}
use Rattle.std.specs.Prelude.{filter, nat_lt, cond, Ok, Err, OnOk}
use Rattle.std.proofs.lemmas.List.{take_more, get_or-drop, drop_all, length-take, map-append}
use Rattle.std.proofs.lemmas.List.Elements.{All-nil, All-cons, All-append, All-filter, filter-append}
use Rattle.std.proofs.lemmas.Bool.Decides.{nat_tests}
use Rattle.std.proofs.lemmas.Bool.{cases_lt}
use Rattle.cell_text.specs.declared.pieces.Span.{Span}
use Rattle.cell_text.specs.Text.{pieces, places, is_filled, is_filled_span, text_at, IsInside}
use Rattle.cell_text.proofs.Decimal.{is_filled-some}
use Rattle.cell_text.proofs.Splits.{glue, at_separator, no_separator}

abbrev pub span : ℕ → ℕ → Span
span start end = record { start = start; end = end }

open_piece : (t : List ℕ) (start i : ℕ) → start ≤ i → i ≤ length t → length (take (i - start) (drop start t)) ≡ i - start
open_piece t start i begun within = omega (arith, length-take (i - start) (drop start t), length-drop start t)

open_more : (t : List ℕ) (start i : ℕ) → start ≤ i → i < length t → take ((i + 1) - start) (drop start t) ≡ take (i - start) (drop start t) ++ get_or t i 0 ∷ []
open_more t start i begun lt =
    let count : (i + 1) - start ≡ (i - start) + 1 = omega arith in
    let within : i - start < length (drop start t) = omega (arith, length-drop start t) in
    let same : start + (i - start) ≡ i = omega arith in
    ap (λ k. take k (drop start t)) count ∙ take_more (drop start t) (i - start) 0 within
    ∙ ap (λ x. take (i - start) (drop start t) ++ x ∷ []) (get_or-drop start t (i - start) 0 ∙ ap (λ k. get_or t k 0) same)

-- a separator: the open piece has its place
pub span_closes : (test : ℕ → Bool) (t : List ℕ) (spans all : List Span) (start i : ℕ) → i < length t → start ≤ i → test (get_or t i 0) ≡ true
    → spans ++ filter is_filled_span (places start (glue (take (i - start) (drop start t)) (pieces test (drop i t)))) ≡ all
    → (spans ++ filter is_filled_span (span start i ∷ [])) ++ filter is_filled_span (places (i + 1) (glue (take ((i + 1) - (i + 1)) (drop (i + 1) t)) (pieces test (drop (i + 1) t)))) ≡ all
span_closes test t spans all start i lt begun here so_far =
    let w : List ℕ = take (i - start) (drop start t) in
    let later : List (List ℕ) = pieces test (drop (i + 1) t) in
    let none : (i + 1) - (i + 1) ≡ 0 = omega arith in
    let end : i ≡ start + length w = omega (arith, open_piece t start i begun (omega arith)) in
    ap (λ k. (spans ++ filter is_filled_span (span start i ∷ [])) ++ filter is_filled_span (places (i + 1) (glue (take k (drop (i + 1) t)) later))) none
    ∙ append_assoc spans (filter is_filled_span (span start i ∷ [])) (filter is_filled_span (places (i + 1) (glue [] later)))
    ∙ ap (λ xs. spans ++ xs) (sym (filter-append is_filled_span (span start i ∷ []) (places (i + 1) (glue [] later))))
    ∙ ap (λ e. spans ++ filter is_filled_span (span start e ∷ places (e + 1) (glue [] later))) end
    ∙ ap (λ ps. spans ++ filter is_filled_span (places start ps)) (sym (at_separator test w t i lt here))
    ∙ so_far

-- any other byte: the open piece grows
pub span_grows : (test : ℕ → Bool) (t : List ℕ) (spans all : List Span) (start i : ℕ) → i < length t → start ≤ i → test (get_or t i 0) ≡ false
    → spans ++ filter is_filled_span (places start (glue (take (i - start) (drop start t)) (pieces test (drop i t)))) ≡ all
    → spans ++ filter is_filled_span (places start (glue (take ((i + 1) - start) (drop start t)) (pieces test (drop (i + 1) t)))) ≡ all
span_grows test t spans all start i lt begun plain so_far =
    ap (λ w. spans ++ filter is_filled_span (places start (glue w (pieces test (drop (i + 1) t))))) (open_more t start i begun lt)
    ∙ ap (λ ps. spans ++ filter is_filled_span (places start ps)) (sym (no_separator test (take (i - start) (drop start t)) t i lt plain))
    ∙ so_far

-- the open piece is a word where its place is one of a word
by_place : (t : List ℕ) (start i : ℕ) → start ≤ i → i ≤ length t → (start < i) ⊎ (i ≤ start)
    → map (text_at t) (filter is_filled_span (span start i ∷ [])) ≡ filter is_filled (take (i - start) (drop start t) ∷ [])
by_place t start i begun within (inl lt) =
    let w : List ℕ = take (i - start) (drop start t) in
    let place : nat_lt start i ≡ true = grind (arith, nat_tests) in
    let word : is_filled w ≡ true = is_filled-some w (omega (arith, open_piece t start i begun within)) in
    ap (λ (b : Bool). map (text_at t) (cond b (span start i ∷ []) [])) place ∙ ap (λ (b : Bool). cond b (w ∷ []) []) (sym word)
by_place t start i begun within (inr le) =
    let place : nat_lt start i ≡ false = grind (arith, nat_tests) in
    let none : i - start ≡ 0 = omega arith in
    ap (λ (b : Bool). map (text_at t) (cond b (span start i ∷ []) [])) place ∙ ap (λ k. filter is_filled (take k (drop start t) ∷ [])) (sym none)

one_word : (t : List ℕ) (start i : ℕ) → start ≤ i → i ≤ length t → map (text_at t) (filter is_filled_span (span start i ∷ [])) ≡ filter is_filled (take (i - start) (drop start t) ∷ [])
one_word t start i begun within = by_place t start i begun within (cases_lt start i)

pub word_closes : (test : ℕ → Bool) (t : List ℕ) (spans : List Span) (all : List (List ℕ)) (start i : ℕ) → i < length t → start ≤ i → test (get_or t i 0) ≡ true
    → map (text_at t) spans ++ filter is_filled (glue (take (i - start) (drop start t)) (pieces test (drop i t))) ≡ all
    → map (text_at t) (spans ++ filter is_filled_span (span start i ∷ [])) ++ filter is_filled (glue (take ((i + 1) - (i + 1)) (drop (i + 1) t)) (pieces test (drop (i + 1) t))) ≡ all
word_closes test t spans all start i lt begun here so_far =
    let w : List ℕ = take (i - start) (drop start t) in
    let later : List (List ℕ) = pieces test (drop (i + 1) t) in
    let none : (i + 1) - (i + 1) ≡ 0 = omega arith in
    ap (λ k. map (text_at t) (spans ++ filter is_filled_span (span start i ∷ [])) ++ filter is_filled (glue (take k (drop (i + 1) t)) later)) none
    ∙ ap (λ xs. xs ++ filter is_filled (glue [] later)) (map-append (text_at t) spans (filter is_filled_span (span start i ∷ [])))
    ∙ ap (λ xs. (map (text_at t) spans ++ xs) ++ filter is_filled (glue [] later)) (one_word t start i begun (omega arith))
    ∙ append_assoc (map (text_at t) spans) (filter is_filled (w ∷ [])) (filter is_filled (glue [] later))
    ∙ ap (λ xs. map (text_at t) spans ++ xs) (sym (filter-append is_filled (w ∷ []) (glue [] later)))
    ∙ ap (λ ps. map (text_at t) spans ++ filter is_filled ps) (sym (at_separator test w t i lt here))
    ∙ so_far

pub word_grows : (test : ℕ → Bool) (t : List ℕ) (spans : List Span) (all : List (List ℕ)) (start i : ℕ) → i < length t → start ≤ i → test (get_or t i 0) ≡ false
    → map (text_at t) spans ++ filter is_filled (glue (take (i - start) (drop start t)) (pieces test (drop i t))) ≡ all
    → map (text_at t) spans ++ filter is_filled (glue (take ((i + 1) - start) (drop start t)) (pieces test (drop (i + 1) t))) ≡ all
word_grows test t spans all start i lt begun plain so_far =
    ap (λ w. map (text_at t) spans ++ filter is_filled (glue w (pieces test (drop (i + 1) t)))) (open_more t start i begun lt)
    ∙ ap (λ ps. map (text_at t) spans ++ filter is_filled ps) (sym (no_separator test (take (i - start) (drop start t)) t i lt plain))
    ∙ so_far

pub inside_more : (t : List ℕ) (spans : List Span) (start i : ℕ) → start ≤ i → i ≤ length t → All (IsInside t) spans → All (IsInside t) (spans ++ filter is_filled_span (span start i ∷ []))
inside_more t spans start i begun within far =
    All-append (IsInside t) spans (filter is_filled_span (span start i ∷ [])) far
    (All-filter is_filled_span (IsInside t) (span start i ∷ []) (All-cons (IsInside t) (span start i) [] (record { forward = begun; within = within }) (All-nil (IsInside t))))

-- the end: the open piece is the last
pub span_ends : (test : ℕ → Bool) (t : List ℕ) (spans all : List Span) (start i : ℕ) → i ≡ length t → start ≤ i
    → spans ++ filter is_filled_span (places start (glue (take (i - start) (drop start t)) (pieces test (drop i t)))) ≡ all
    → spans ++ filter is_filled_span (span start i ∷ []) ≡ all
span_ends test t spans all start i at begun so_far =
    let w : List ℕ = take (i - start) (drop start t) in
    let none : drop i t ≡ [] = drop_all i t (omega arith) in
    let end : i ≡ start + length (w ++ []) = omega (arith, open_piece t start i begun (omega arith), ap length (append-nil w)) in
    ap (λ e. spans ++ filter is_filled_span (span start e ∷ [])) end
    ∙ ap (λ x. spans ++ filter is_filled_span (places start (glue w (pieces test x)))) (sym none)
    ∙ so_far

pub word_ends : (test : ℕ → Bool) (t : List ℕ) (spans : List Span) (all : List (List ℕ)) (start i : ℕ) → i ≡ length t → start ≤ i
    → map (text_at t) spans ++ filter is_filled (glue (take (i - start) (drop start t)) (pieces test (drop i t))) ≡ all
    → map (text_at t) (spans ++ filter is_filled_span (span start i ∷ [])) ≡ all
word_ends test t spans all start i at begun so_far =
    let w : List ℕ = take (i - start) (drop start t) in
    let none : drop i t ≡ [] = drop_all i t (omega arith) in
    map-append (text_at t) spans (filter is_filled_span (span start i ∷ []))
    ∙ ap (λ xs. map (text_at t) spans ++ xs) (one_word t start i begun (omega arith))
    ∙ ap (λ v. map (text_at t) spans ++ filter is_filled (v ∷ [])) (sym (append-nil w))
    ∙ ap (λ x. map (text_at t) spans ++ filter is_filled (glue w (pieces test x))) (sym none)
    ∙ so_far

pub inside_last : {E : Type 0} (r : Result (Unit {0}) E) (t : List ℕ) (spans new : List Span) (start i : ℕ) → start ≤ i → i ≤ length t → All (IsInside t) spans
    → OnOk r (new ≡ spans ++ filter is_filled_span (span start i ∷ [])) → OnOk r (All (IsInside t) new)
inside_last (Ok u) t spans new start i begun within far e = rw e (inside_more t spans start i begun within far)
inside_last (Err x) t spans new start i begun within far e = tt
