-- Texts that are cut where a byte passes a test.
use Rattle.std.proofs.Common.{◌≡◌, ℕ, refl, ap, arith, List, [], ◌∷◌, ◌++◌, Bool, true, false, not, length, length-append}
use Rattle.std.specs.Prelude.{Some, None, nat_lt, All}
use Rattle.std.specs.List.{list_all, position, prefix_len}
use Rattle.std.proofs.lemmas.Bool.{and_parts, lt-ltb}
use Rattle.std.proofs.lemmas.List.Elements.{All-nil, All-cons}
use Rattle.cell_text.specs.Text.{pieces}

-- no byte of the text passes the test
abbrev pub lacks : (ℕ → Bool) → List ℕ → Bool
lacks test text = list_all (λ b. not (test b)) text

not_true : (b : Bool) → not b ≡ true → b ≡ false
not_true true h = cc
not_true false h = refl

pub lacks_all : (test : ℕ → Bool) (text : List ℕ) → lacks test text ≡ true → All (λ b. test b ≡ false) text
lacks_all test [] h = All-nil (λ b. test b ≡ false)
lacks_all test (c ∷ text) h =
    let both = and_parts (not (test c)) (lacks test text) h in
    All-cons (λ b. test b ≡ false) c text (not_true (test c) both.0) (lacks_all test text both.1)

-- the first piece ends at the first byte that passes
pub pieces-at : (test : ℕ → Bool) (a : List ℕ) (b : ℕ) (rest : List ℕ) → lacks test a ≡ true → test b ≡ true → pieces test (a ++ b ∷ rest) ≡ a ∷ pieces test rest
pieces-at test [] b rest h here = rw here refl
pieces-at test (c ∷ a) b rest h here =
    let both = and_parts (not (test c)) (lacks test a) h in
    rw (not_true (test c) both.0, pieces-at test a b rest both.1 here) refl

-- where none passes, the text is the one piece
pub pieces_none : (test : ℕ → Bool) (a : List ℕ) → lacks test a ≡ true → pieces test a ≡ a ∷ []
pieces_none test [] h = refl
pieces_none test (c ∷ a) h =
    let both = and_parts (not (test c)) (lacks test a) h in
    rw (not_true (test c) both.0, pieces_none test a both.1) refl

front_at : (test : ℕ → Bool) (a : List ℕ) (b : ℕ) (rest : List ℕ) → list_all test a ≡ true → test b ≡ false → prefix_len test (a ++ b ∷ rest) ≡ length a
front_at test [] b rest h here = rw here refl
front_at test (c ∷ a) b rest h here =
    let both = and_parts (test c) (list_all test a) h in
    rw (both.0, front_at test a b rest both.1 here) (omega arith)

front_all : (test : ℕ → Bool) (a : List ℕ) → list_all test a ≡ true → prefix_len test a ≡ length a
front_all test [] h = refl
front_all test (c ∷ a) h =
    let both = and_parts (test c) (list_all test a) h in
    rw (both.0, front_all test a both.1) (omega arith)

-- where the first byte stands that passes
pub position_at : (test : ℕ → Bool) (a : List ℕ) (b : ℕ) (rest : List ℕ) → lacks test a ≡ true → test b ≡ true → position test (a ++ b ∷ rest) ≡ Some (length a)
position_at test a b rest h here =
    let inside : nat_lt (length a) (length (a ++ b ∷ rest)) ≡ true = lt-ltb (length a) (length (a ++ b ∷ rest)) (omega (arith, length-append a (b ∷ rest))) in
    rw (front_at (λ b. not (test b)) a b rest h (ap not here), inside) refl

pub position_none : (test : ℕ → Bool) (a : List ℕ) → lacks test a ≡ true → position test a ≡ None
position_none test a h =
    let outside : nat_lt (length a) (length a) ≡ false = grind arith in
    rw (front_all (λ b. not (test b)) a h, outside) refl
