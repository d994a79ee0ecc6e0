-- The first entries of the fields.
use Rattle.std.proofs.Common.{◌≡◌, ℕ, zero, suc, ◌+◌, ◌<◌, ◌||◌, Bool, true, false, cond, Option, Some, None, List, [], ◌∷◌, ◌++◌, length, get_or, take, refl, sym, ap, ◌∙◌, arith, inl, inr}
use Rattle.std.specs.Prelude.{find, is_some, option_map}
use Rattle.std.specs.List.{list_any}
use Rattle.std.proofs.lemmas.Bool.{cases_Bool}
use Rattle.std.proofs.lemmas.Bool.Decides.{nat_tests}
use Rattle.std.proofs.lemmas.List.{take_more}
use Rattle.cell_object.specs.declared.object.Entry.{Entry}
use Rattle.cell_world.specs.declared.state.NewCell.{NewCell}
use Rattle.cell_world.specs.declared.state.Target.{Target}
use Rattle.cell_world.specs.Linked.Field.{bound_by, fields_among, is_at}
use Rattle.cell_link.specs.Linked.{bound_in}
use Rattle.cell_link.specs.Applied.{held_among, spot_of, stands_at}

-- entries at one place are at the same places
at_same : (e f g : Entry) → is_at e f ≡ true → is_at e g ≡ is_at f g
at_same e f g h = grind (arith, nat_tests)

pub at_self : (e : Entry) → is_at e e ≡ true
at_self e = grind (arith, nat_tests)

at_turned : (e f : Entry) → is_at e f ≡ is_at f e
at_turned e f = grind (arith, nat_tests)

pub any_same : (e f : Entry) (xs : List Entry) → is_at e f ≡ true → list_any (is_at e) xs ≡ list_any (is_at f) xs
any_same e f [] h = refl
any_same e f (x ∷ xs) h = rw (at_same e f x h, any_same e f xs h) refl

when_true : (b : Bool) (xs ys : List Entry) → b ≡ true → elim b as (λ _. List Entry) [ true ↦ xs | false ↦ ys ] ≡ xs
when_true true xs ys h = refl
when_true false xs ys h = absurd cc

when_false : (b : Bool) (xs ys : List Entry) → b ≡ false → elim b as (λ _. List Entry) [ true ↦ xs | false ↦ ys ] ≡ ys
when_false true xs ys h = absurd cc
when_false false xs ys h = refl

pub among_seen : (before : List Entry) (x : Entry) (xs : List Entry) → list_any (is_at x) before ≡ true → fields_among before (x ∷ xs) ≡ fields_among before xs
among_seen before x xs h = when_true (list_any (is_at x) before) (fields_among before xs) (x ∷ fields_among (x ∷ before) xs) h

pub among_new : (before : List Entry) (x : Entry) (xs : List Entry) → list_any (is_at x) before ≡ false → fields_among before (x ∷ xs) ≡ x ∷ fields_among (x ∷ before) xs
among_new before x xs h = when_false (list_any (is_at x) before) (fields_among before xs) (x ∷ fields_among (x ∷ before) xs) h

-- one more entry makes a field where none is at its place
pub among_push : (before es : List Entry) (e : Entry) → fields_among before (es ++ e ∷ []) ≡ fields_among before es ++ cond (list_any (is_at e) before || list_any (is_at e) es) [] (e ∷ [])
among_push before [] e = last (list_any (is_at e) before)
  where
    last : (b : Bool) → elim b as (λ _. List Entry) [ true ↦ [] | false ↦ e ∷ [] ] ≡ cond (b || false) [] (e ∷ [])
    last true = refl
    last false = refl
among_push before (x ∷ xs) e = elim (cases_Bool (list_any (is_at x) before)) [
  | inl seen ↦
      among_seen before x (xs ++ e ∷ []) seen ∙ among_push before xs e
      ∙ rw (among_seen before x xs seen) (ap (λ (b : Bool). fields_among before xs ++ cond b [] (e ∷ [])) (sym (or_drop (list_any (is_at e) before) (is_at e x) (list_any (is_at e) xs) (λ h. any_same e x before h ∙ seen))))
  | inr new ↦
      among_new before x (xs ++ e ∷ []) new ∙ ap (λ (es : List Entry). x ∷ es) (among_push (x ∷ before) xs e)
      ∙ rw (among_new before x xs new) (ap (λ (b : Bool). x ∷ (fields_among (x ∷ before) xs ++ cond b [] (e ∷ []))) (or_turn (is_at e x) (list_any (is_at e) before) (list_any (is_at e) xs)))
]
  where
    or_drop : (a b d : Bool) → (b ≡ true → a ≡ true) → (a || (b || d)) ≡ (a || d)
    or_drop true b d h = refl
    or_drop false true d h = absurd (never (h refl))
      where
        never : false ≡ true → ⊥
        never h = absurd cc
    or_drop false false d h = refl

    or_turn : (b a d : Bool) → ((b || a) || d) ≡ (a || (b || d))
    or_turn true true d = refl
    or_turn true false d = refl
    or_turn false a d = refl

find_any : {X : Type 0} (p : X → Bool) (xs : List X) → is_some (find p xs) ≡ list_any p xs
find_any p [] = refl
find_any p (x ∷ xs) = elim (cases_Bool (p x)) [
  | inl h ↦ rw h refl
  | inr h ↦ rw h (find_any p xs)
]

some_map : {X Y : Type 0} (f : X → Y) (o : Option X) → is_some (option_map f o) ≡ is_some o
some_map f None = refl
some_map f (Some x) = refl

any_bound : (e : Entry) (es : List Entry) (ts : List Target) (i : ℕ) → length ts ≡ length es → list_any (stands_at (spot_of e)) (take i (bound_by es ts)) ≡ list_any (is_at e) (take i es)
any_bound e [] ts zero h = refl
any_bound e [] ts (suc i) h = refl
any_bound e (x ∷ xs) [] i h = absurd (omega arith)
any_bound e (x ∷ xs) (y ∷ ys) zero h = refl
any_bound e (x ∷ xs) (y ∷ ys) (suc i) h = ap (λ (b : Bool). is_at e x || b) (any_bound e xs ys i (omega arith))

-- the fields after one more entry, where f has what they hold so far
pub firsts_more : (c : NewCell) (targets : List Target) (es : List Entry) (i : ℕ) (d : Entry) (f : ℕ × ℕ → Option ℕ) (old new : List Entry)
    → es ≡ c.object.entries → i < length es → length targets ≡ length c.object.entries
    → ((q : ℕ × ℕ) → f q ≡ held_among c (bound_in c targets) (take i (bound_in c targets)) q)
    → old ≡ fields_among [] (take i c.object.entries)
    → new ≡ old ++ cond (is_some (f (spot_of (get_or es i d)))) [] (get_or es i d ∷ [])
    → new ≡ fields_among [] (take (i + 1) c.object.entries)
firsts_more c targets es i d f old new entries below same held were are =
    let e = get_or c.object.entries i d in
    let seen : is_some (f (spot_of e)) ≡ list_any (is_at e) (take i c.object.entries) =
    ap is_some (held (spot_of e))
    ∙ some_map _ (find (stands_at (spot_of e)) (take i (bound_in c targets)))
    ∙ find_any (stands_at (spot_of e)) (take i (bound_in c targets))
    ∙ any_bound e c.object.entries targets i same in
    rw entries at are ∙ rw (were, seen) (
    sym (among_push [] (take i c.object.entries) e)
    ∙ ap (λ (xs : List Entry). fields_among [] xs) (sym (take_more c.object.entries i d (rw entries at below)))
    )
