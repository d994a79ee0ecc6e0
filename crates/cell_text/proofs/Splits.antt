-- The pieces of a text, found from its front.
use Rattle.std.proofs.Common.{◌≡◌, ℕ, zero, suc, ◌+◌, ◌-◌, ◌<◌, ◌≤◌, List, [], ◌∷◌, ◌++◌, map, Vec, Bor, Global, Bool, true, false, cond, length, get_or, take, drop, refl, sym, ap, ◌∙◌, arith, append_assoc, append-nil, length-drop}
use Rattle.std.proofs.lemmas.List.{drop_more, take_more, get_or-drop, drop_all}
use Rattle.std.specs.declared.result.Result.{Result}
use Rattle.std.specs.Prelude.{Ok, Err, IfOk}
use Rattle.cell_text.specs.declared.pieces.Separator.TheVariants.{LineFeed}
use Rattle.cell_text.specs.Text.{pieces, onto, separates, lines_in, Behind}

-- bytes in front of the first piece
abbrev pub glue : List ℕ → List (List ℕ) → List (List ℕ)
glue w [] = w ∷ []
glue w (piece ∷ rest) = (w ++ piece) ∷ rest

glue-onto_nil : (b : ℕ) (ps : List (List ℕ)) → glue [] (onto b ps) ≡ onto b ps
glue-onto_nil b [] = refl
glue-onto_nil b (p ∷ ps) = refl

cond_nil : (sep : Bool) (b : ℕ) (ps : List (List ℕ)) → glue [] (cond sep ([] ∷ ps) (onto b ps)) ≡ cond sep ([] ∷ ps) (onto b ps)
cond_nil true b ps = refl
cond_nil false b ps = glue-onto_nil b ps

pub glue-nil : (test : ℕ → Bool) (t : List ℕ) → glue [] (pieces test t) ≡ pieces test t
glue-nil test [] = refl
glue-nil test (b ∷ bs) = cond_nil (test b) b (pieces test bs)

pub glue-onto : (w : List ℕ) (b : ℕ) (ps : List (List ℕ)) → glue w (onto b ps) ≡ glue (w ++ b ∷ []) ps
glue-onto w b [] = refl
glue-onto w b (p ∷ ps) = ap (λ q. q ∷ ps) (sym (append_assoc w (b ∷ []) p))

-- one more byte, which is no separator, joins the piece that is open
pub no_separator : (test : ℕ → Bool) (w : List ℕ) (t : List ℕ) (i : ℕ) → i < length t → test (get_or t i 0) ≡ false
    → glue w (pieces test (drop i t)) ≡ glue (w ++ get_or t i 0 ∷ []) (pieces test (drop (i + 1) t))
no_separator test w t i lt plain =
    ap (λ x. glue w (pieces test x)) (drop_more t i 0 lt)
    ∙ ap (λ s. glue w (cond s ([] ∷ pieces test (drop (i + 1) t)) (onto (get_or t i 0) (pieces test (drop (i + 1) t))))) plain
    ∙ glue-onto w (get_or t i 0) (pieces test (drop (i + 1) t))

-- a separator closes it
pub at_separator : (test : ℕ → Bool) (w : List ℕ) (t : List ℕ) (i : ℕ) → i < length t → test (get_or t i 0) ≡ true
    → glue w (pieces test (drop i t)) ≡ w ∷ glue [] (pieces test (drop (i + 1) t))
at_separator test w t i lt here =
    ap (λ x. glue w (pieces test x)) (drop_more t i 0 lt)
    ∙ ap (λ s. glue w (cond s ([] ∷ pieces test (drop (i + 1) t)) (onto (get_or t i 0) (pieces test (drop (i + 1) t))))) here
    ∙ ap (λ v. v ∷ pieces test (drop (i + 1) t)) (append-nil w)
    ∙ ap (λ ps. w ∷ ps) (sym (glue-nil test (drop (i + 1) t)))

-- a separator: the open piece joins the parts
pub closes : (test : ℕ → Bool) (t : List ℕ) (parts all : List (List ℕ)) (start i : ℕ) → i < length t → test (get_or t i 0) ≡ true
    → parts ++ glue (take (i - start) (drop start t)) (pieces test (drop i t)) ≡ all
    → (parts ++ take (i - start) (drop start t) ∷ []) ++ glue (take ((i + 1) - (i + 1)) (drop (i + 1) t)) (pieces test (drop (i + 1) t)) ≡ all
closes test t parts all start i lt here so_far =
    let none : (i + 1) - (i + 1) ≡ 0 = omega arith in
    ap (λ k. (parts ++ take (i - start) (drop start t) ∷ []) ++ glue (take k (drop (i + 1) t)) (pieces test (drop (i + 1) t))) none
    ∙ append_assoc parts (take (i - start) (drop start t) ∷ []) (glue [] (pieces test (drop (i + 1) t)))
    ∙ ap (λ ps. parts ++ ps) (sym (at_separator test (take (i - start) (drop start t)) t i lt here))
    ∙ so_far

-- any other byte: the open piece grows
pub grows : (test : ℕ → Bool) (t : List ℕ) (parts all : List (List ℕ)) (start i : ℕ) → i < length t → start ≤ i → test (get_or t i 0) ≡ false
    → parts ++ glue (take (i - start) (drop start t)) (pieces test (drop i t)) ≡ all
    → parts ++ glue (take ((i + 1) - start) (drop start t)) (pieces test (drop (i + 1) t)) ≡ all
grows test t parts all start i lt begun plain so_far =
    let count : (i + 1) - start ≡ (i - start) + 1 = omega arith in
    let within : i - start < length (drop start t) = omega (arith, length-drop start t) in
    let same : start + (i - start) ≡ i = omega arith in
    let last : take ((i + 1) - start) (drop start t) ≡ take (i - start) (drop start t) ++ get_or t i 0 ∷ []
    = ap (λ k. take k (drop start t)) count ∙ take_more (drop start t) (i - start) 0 within
    ∙ ap (λ x. take (i - start) (drop start t) ++ x ∷ []) (get_or-drop start t (i - start) 0 ∙ ap (λ k. get_or t k 0) same) in
    ap (λ w. parts ++ glue w (pieces test (drop (i + 1) t))) last
    ∙ ap (λ ps. parts ++ ps) (sym (no_separator test (take (i - start) (drop start t)) t i lt plain))
    ∙ so_far

-- the end: the open piece is the last
pub ends : (test : ℕ → Bool) (t : List ℕ) (parts all : List (List ℕ)) (start i : ℕ) → i ≡ length t
    → parts ++ glue (take (i - start) (drop start t)) (pieces test (drop i t)) ≡ all
    → parts ++ take (length t - start) (drop start t) ∷ [] ≡ all
ends test t parts all start i at so_far =
    let none : drop i t ≡ [] = drop_all i t (omega arith) in
    ap (λ k. parts ++ take (k - start) (drop start t) ∷ []) (sym at)
    ∙ ap (λ w. parts ++ w ∷ []) (sym (append-nil (take (i - start) (drop start t))))
    ∙ ap (λ x. parts ++ glue (take (i - start) (drop start t)) (pieces test x)) (sym none)
    ∙ so_far

length_onto : (b : ℕ) (ps : List (List ℕ)) → length (onto b ps) ≤ length ps + 1
length_onto b [] = omega arith
length_onto b (p ∷ ps) = omega arith

length_cond : (s : Bool) (b : ℕ) (ps : List (List ℕ)) → length (cond s ([] ∷ ps) (onto b ps)) ≤ length ps + 1
length_cond true b ps = omega arith
length_cond false b ps = length_onto b ps

-- there are no more pieces than bytes, but for one
pub length-pieces : (test : ℕ → Bool) (t : List ℕ) → length (pieces test t) ≤ length t + 1
length-pieces test [] = omega arith
length-pieces test (b ∷ bs) = omega (arith, length_cond (test b) b (pieces test bs), length-pieces test bs)

behind_more : (b : ℕ) (ps : List (List ℕ)) (n : ℕ) (s : Bool) (k : ℕ) → ((j : ℕ) → j < length ps → j + length (get_or ps j []) ≤ n)
    → k < length (cond s ([] ∷ ps) (onto b ps)) → k + length (get_or (cond s ([] ∷ ps) (onto b ps)) k []) ≤ suc n
behind_more b ps n true zero far h = omega arith
behind_more b ps n true (suc k) far h = omega (arith, far k (omega arith))
behind_more b [] n false zero far h = omega arith
behind_more b [] n false (suc k) far h = absurd (omega arith)
behind_more b (p ∷ ps) n false zero far h = omega (arith, far 0 (omega arith))
behind_more b (p ∷ ps) n false (suc k) far h = omega (arith, far (suc k) (omega arith))

-- each piece begins behind as many separators as there are pieces before it
pub pieces_behind : (test : ℕ → Bool) (t : List ℕ) (k : ℕ) → k < length (pieces test t) → k + length (get_or (pieces test t) k []) ≤ length t
pieces_behind test [] zero h = omega arith
pieces_behind test [] (suc k) h = absurd (omega arith)
pieces_behind test (b ∷ bs) k h = behind_more b (pieces test bs) (length bs) (test b) k (pieces_behind test bs) h

pub lines_behind : {E : Type 0} (r : Result (Vec (Bor (List ℕ)) Global) E) (t : List ℕ) → IfOk r (λ lines. map (λ line. line.now) lines.items ≡ lines_in t) → IfOk r (λ lines. Behind (length t) (map (λ line. line.now) lines.items))
lines_behind (Ok lines) t e = rw e (pieces_behind (separates LineFeed) t)
lines_behind (Err x) t e = tt
