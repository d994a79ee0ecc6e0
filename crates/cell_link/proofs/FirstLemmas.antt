-- Maps that keep the first value of each key.
use Rattle.std.proofs.Common.{◌≡◌, ℕ, ◌+◌, ◌<◌, ◌^◌, Bool, true, false, cond, Option, Some, None, List, [], ◌∷◌, ◌++◌, length, get_or, take, refl, sym, ap, ◌∙◌, arith, inl, inr, All}
use Rattle.std.specs.Prelude.{◌==◌, find, option_map, unwrap_or, is_some}
use Rattle.std.specs.Option.{option_or}
use Rattle.std.specs.Ordering.{nat_cmp, is_eq}
use Rattle.std.proofs.lemmas.Bool.{cases_Bool, eqb-true}
use Rattle.std.proofs.lemmas.List.{take_more}
use Rattle.std.proofs.lemmas.List.Folds.{find-append}
use Rattle.std.proofs.lemmas.List.Elements.{All-head, All-tail}
use Rattle.std.proofs.lemmas.Iterator.Adapters.{option_map_id}
use Rattle.cell_object.specs.declared.object.Section.{Section}
use Rattle.cell_world.specs.declared.state.SecPlace.{SecPlace}
use Rattle.cell_link.specs.Tables.{section_among}

-- one more item, with the key k, where e tells equal keys
pub first_step : {K X Y : Type 0} (test : K → X → Bool) (val : X → Y) (xs : List X) (x : X) (k : K) (e : K → K → Bool) (f g : K → Option Y)
    → ((q : K) → test q x ≡ e k q) → ((q : K) → e k q ≡ true → q ≡ k)
    → ((q : K) → f q ≡ option_map val (find (test q) xs))
    → ((q : K) → g q ≡ cond (is_some (f k)) (f q) (cond (e k q) (Some (val x)) (f q)))
    → (q : K) → g q ≡ option_map val (find (test q) (xs ++ x ∷ []))
first_step {K = K} {X = X} {Y = Y} test val xs x k e f g at one were are q =
    are q ∙ rw find-append (elim (cases_Bool (e k q)) [
      | inl h ↦ here (find (test q) xs) (e k q) (test q x) (f k) (f q) h (at q ∙ h) (ap f (one q h)) (were q)
      | inr h ↦ apart (find (test q) xs) (e k q) (test q x) (is_some (f k)) (f q) h (at q ∙ h) (were q)
    ])
  where
    here : (o : Option X) (b t : Bool) (at_k at_q : Option Y) → b ≡ true → t ≡ true → at_q ≡ at_k → at_q ≡ option_map val o
        → cond (is_some at_k) at_q (cond b (Some (val x)) at_q) ≡ option_map val (option_or o (cond t (Some x) None))
    here None true true None None h i same w = refl
    here None b t at_k (Some y) h i same w = absurd cc
    here None b t (Some y) None h i same w = absurd cc
    here None false t None None h i same w = absurd cc
    here None true false None None h i same w = absurd cc
    here (Some y) b t (Some z) at_q h i same w = w
    here (Some y) b t None at_q h i same w = absurd cc

    apart : (o : Option X) (b t s : Bool) (at_q : Option Y) → b ≡ false → t ≡ false → at_q ≡ option_map val o
        → cond s at_q (cond b (Some (val x)) at_q) ≡ option_map val (option_or o (cond t (Some x) None))
    apart None false false true at_q h i w = w
    apart None false false false at_q h i w = w
    apart None true t s at_q h i w = absurd cc
    apart None false true s at_q h i w = absurd cc
    apart (Some y) false t true at_q h i w = w
    apart (Some y) false t false at_q h i w = w
    apart (Some y) true t s at_q h i w = absurd cc

-- the same in a loop, at keys that are numbers
pub first_number : {X Y : Type 0} (key : X → ℕ) (val : X → Y) (xs : List X) (i : ℕ) (d : X) (f g : ℕ → Option Y)
    → i < length xs
    → ((q : ℕ) → f q ≡ option_map val (find (λ p. key p == q) (take i xs)))
    → ((q : ℕ) → g q ≡ cond (is_some (f (key (get_or xs i d)))) (f q) (cond (is_eq (nat_cmp (key (get_or xs i d)) q)) (Some (val (get_or xs i d))) (f q)))
    → (q : ℕ) → g q ≡ option_map val (find (λ p. key p == q) (take (i + 1) xs))
first_number key val xs i d f g below were are q =
    rw (take_more xs i d below) (first_step (λ q p. key p == q) val (take i xs) (get_or xs i d) (key (get_or xs i d)) (λ k q. is_eq (nat_cmp k q)) f g (λ q. tied (key (get_or xs i d)) q) (λ q h. eqb-true q (key (get_or xs i d)) (turn (key (get_or xs i d)) q h)) were are q)
  where
    tied : (m n : ℕ) → (m == n) ≡ is_eq (nat_cmp m n)
    tied m n = grind arith

    turn : (m n : ℕ) → is_eq (nat_cmp m n) ≡ true → (n == m) ≡ true
    turn m n h = grind arith

-- the same where the map's values are seen by a view
pub first_seen : {V Y : Type 0} (now : V → Y) (fk : Option V) (fq : Option V) (gq : Option V) (e : Bool) (v : V)
    → gq ≡ cond (is_some fk) fq (cond e (Some v) fq)
    → option_map now gq ≡ cond (is_some (option_map now fk)) (option_map now fq) (cond e (Some (now v)) (option_map now fq))
first_seen now None fq gq true v h = rw h refl
first_seen now None fq gq false v h = rw h refl
first_seen now (Some x) fq gq e v h = rw h refl

-- the start that a look-up gives
pub start_low : (places : List SecPlace) (section start : ℕ) → start ≡ unwrap_or (option_map (λ p. p.start) (find (λ p. p.section == section) places)) 0 → All (λ p. p.start < 2 ^ 63) places → start < 2 ^ 63
start_low [] section start e low = rw e (omega arith)
start_low (p ∷ places) section start e low = elim (cases_Bool (p.section == section)) [
  | inl h ↦ rw (e, h) (All-head (λ (p : SecPlace). p.start < 2 ^ 63) p places low)
  | inr h ↦ start_low places section start (rw h at e) (All-tail (λ (p : SecPlace). p.start < 2 ^ 63) p places low)
]

pub ruleset starts = (start_low)

-- the same of sections, where the map's values are seen by a view
pub first_section : {V : Type 0} (now : V → Section) (sections : List Section) (i k : ℕ) (d : Section) (v : V) (f g : ℕ → Option V)
    → i < length sections → now v ≡ get_or sections i d → k ≡ (now v).number
    → ((q : ℕ) → option_map now (f q) ≡ section_among (take i sections) q)
    → ((q : ℕ) → g q ≡ cond (is_some (f k)) (f q) (cond (is_eq (nat_cmp k q)) (Some v) (f q)))
    → (q : ℕ) → option_map now (g q) ≡ section_among (take (i + 1) sections) q
first_section now sections i k d v f g below is key were are q =
    first_number (λ (s : Section). s.number) (λ (s : Section). s) sections i d (λ q. option_map now (f q)) (λ q. option_map now (g q)) below
    (λ q. were q ∙ sym (option_map_id _))
    (λ q. rw (← is) (first_seen now (f (now v).number) (f q) (g q) (is_eq (nat_cmp (now v).number q)) v (rw key at (are q))))
    q
    ∙ option_map_id _
