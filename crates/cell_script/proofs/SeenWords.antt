-- The words of a line that were seen, and those that are left.
use Rattle.std.proofs.Common.{◌≡◌, ℕ, suc, ◌+◌, ◌<◌, Bool, true, false, not, ◌&&◌, ◌||◌, List, [], ◌∷◌, Bor, map, length, get_or, drop, refl, ap, sym, ◌∙◌, arith}
use Rattle.std.specs.List.{list_all, list_any}
use Rattle.std.specs.Str.{bytes_eq}
use Rattle.std.specs.BTreeSet.{insert_key}
use Rattle.std.specs.Cmp.Lexicographic.{slice_cmp}
use Rattle.std.specs.Ordering.{nat_cmp, is_eq, match_ordering}
use Rattle.std.specs.declared.cmp.Ordering.{Ordering}
use Rattle.std.specs.declared.cmp.Ordering.TheVariants.{Less, Equal, Greater}
use Rattle.std.proofs.Math.Seq.{drop-cons}
use Rattle.std.proofs.lemmas.Map.Text.{is_eq-slice_cmp}
use Rattle.std.proofs.lemmas.Map.Lookups.{exact_bytes}
use Rattle.cell_script.specs.Grammar.{are_different}

-- the word is one of the keys
abbrev pub is_seen : List (Bor (List ℕ)) → List ℕ → Bool
is_seen seen word = list_any (λ k. bytes_eq word k.now) seen

-- no word was seen, and none stands twice
abbrev pub are_fresh : List (Bor (List ℕ)) → List (List ℕ) → Bool
are_fresh seen words = list_all (λ word. not (is_seen seen word)) words && are_different words

-- a word put in is there, and the others stay
or_itself : (a b : Bool) → (a || b) ≡ (a || (a || b))
or_itself true b = refl
or_itself false b = refl

or_turned : (a b c : Bool) → (a || (b || c)) ≡ (b || (a || c))
or_turned true true c = refl
or_turned true false c = refl
or_turned false b c = refl

placed : (p : Bor (List ℕ) → Bool) (k x : Bor (List ℕ)) (xs rest : List (Bor (List ℕ))) (o : Ordering) → (o ≡ Equal → p x ≡ p k) → list_any p rest ≡ (p k || list_any p xs)
    → list_any p (match_ordering o (k ∷ x ∷ xs) (x ∷ xs) (x ∷ rest)) ≡ (p k || (p x || list_any p xs))
placed p k x xs rest Less same ih = refl
placed p k x xs rest Equal same ih = rw (same refl) (or_itself (p k) (list_any p xs))
placed p k x xs rest Greater same ih = rw ih (or_turned (p x) (p k) (list_any p xs))

pub seen_more : (q : List ℕ) (k : Bor (List ℕ)) (seen : List (Bor (List ℕ))) → is_seen (insert_key (λ x y. slice_cmp nat_cmp x.now y.now) seen k) q ≡ (bytes_eq q k.now || is_seen seen q)
seen_more q k [] = refl
seen_more q k (x ∷ seen) =
    placed (λ y. bytes_eq q y.now) k x seen (insert_key (λ y z. slice_cmp nat_cmp y.now z.now) seen k) (slice_cmp nat_cmp k.now x.now)
    (λ e. ap (bytes_eq q) (sym (exact_bytes k.now x.now e))) (seen_more q k seen)

pub seen_is : (word : List ℕ) (seen : List (Bor (List ℕ))) → list_any (λ k. is_eq (slice_cmp nat_cmp word k.now)) seen ≡ is_seen seen word
seen_is word [] = refl
seen_is word (k ∷ seen) = rw (is_eq-slice_cmp word k.now, seen_is word seen) refl

not_either : (a b c d : Bool) → (not (a || b) && (c && d)) ≡ ((not a && c) && (not b && d))
not_either true b c d = refl
not_either false true true d = refl
not_either false true false d = refl
not_either false false c d = refl

-- where a test is one or the other, none passes it where none passes the one and none the other
none_more : (p q : List ℕ → Bool) (w : List ℕ) → ((x : List ℕ) → q x ≡ (bytes_eq x w || p x)) → (words : List (List ℕ))
    → list_all (λ x. not (q x)) words ≡ (list_all (λ x. not (bytes_eq x w)) words && list_all (λ x. not (p x)) words)
none_more p q w e [] = refl
none_more p q w e (x ∷ words) =
    rw (e x, none_more p q w e words) (not_either (bytes_eq x w) (p x) (list_all (λ y. not (bytes_eq y w)) words) (list_all (λ y. not (p y)) words))

exchanged : (a b c : Bool) → (a && (b && c)) ≡ ((b && a) && c)
exchanged true true c = refl
exchanged true false c = refl
exchanged false true c = refl
exchanged false false c = refl

-- at first none was seen
pub fresh_at_first : (words : List (List ℕ)) → are_fresh [] words ≡ are_different words
fresh_at_first words = rw (none_seen words) refl
  where
    none_seen : (words : List (List ℕ)) → list_all (λ word. not (is_seen [] word)) words ≡ true
    none_seen [] = refl
    none_seen (word ∷ words) = none_seen words

-- a word that was not seen is seen from then on
fresh_step : (seen later : List (Bor (List ℕ))) (w : List ℕ) (words : List (List ℕ)) → is_seen seen w ≡ false → ((x : List ℕ) → is_seen later x ≡ (bytes_eq x w || is_seen seen x))
    → are_fresh seen (w ∷ words) ≡ are_fresh later words
fresh_step seen later w words unseen more =
    rw (unseen, none_more (is_seen seen) (is_seen later) w more words)
    (exchanged (list_all (λ x. not (is_seen seen x)) words) (list_all (λ x. not (bytes_eq x w)) words) (are_different words))

-- the words from a place on
abbrev pub words_from : List (Bor (List ℕ)) → ℕ → List (List ℕ)
words_from texts i = map (λ text. text.now) (drop i texts)

first_of_them : (texts : List (Bor (List ℕ))) (i : ℕ) (d : Bor (List ℕ)) → i < length texts → words_from texts i ≡ (get_or texts i d).now ∷ words_from texts (suc i)
first_of_them texts i d lt = ap (map (λ text. text.now)) (drop-cons texts i d lt)

-- what is not in was added, and the other way round
not_added : (added is_in : Bool) → added ≡ not is_in → added ≡ false → is_in ≡ true
not_added added true e h = refl
not_added added false e h = sym h ∙ e

newly_added : (added is_in : Bool) → added ≡ not is_in → added ≡ true → is_in ≡ false
newly_added added true e h = sym h ∙ e
newly_added added false e h = refl

abbrev pub is_key : Bor (List ℕ) → List (Bor (List ℕ)) → Bool
is_key word seen = list_any (λ k. is_eq (slice_cmp nat_cmp word.now k.now)) seen

pub fresh_more : (texts : List (Bor (List ℕ))) (i : ℕ) (d : Bor (List ℕ)) (seen later : List (Bor (List ℕ))) (added : Bool) → i < length texts
    → added ≡ not (is_key (get_or texts i d) seen) → added ≡ true → later ≡ insert_key (λ x y. slice_cmp nat_cmp x.now y.now) seen (get_or texts i d)
    → are_fresh seen (words_from texts i) ≡ are_fresh later (words_from texts (i + 1))
fresh_more texts i d seen later added lt is_new was_added e =
    let next : suc i ≡ i + 1 = omega arith in
    let unseen : is_seen seen (get_or texts i d).now ≡ false = sym (seen_is (get_or texts i d).now seen) ∙ newly_added added (is_key (get_or texts i d) seen) is_new was_added in
    ap (are_fresh seen) (first_of_them texts i d lt)
    ∙ fresh_step seen later (get_or texts i d).now (words_from texts (suc i)) unseen (λ x. ap (λ keys. is_seen keys x) e ∙ seen_more x (get_or texts i d) seen)
    ∙ ap (λ k. are_fresh later (words_from texts k)) next

pub stale : (texts : List (Bor (List ℕ))) (i : ℕ) (d : Bor (List ℕ)) (seen : List (Bor (List ℕ))) (added : Bool) → i < length texts
    → added ≡ not (is_key (get_or texts i d) seen) → added ≡ false → are_fresh seen (words_from texts i) ≡ false
stale texts i d seen added lt is_new was_not =
    ap (are_fresh seen) (first_of_them texts i d lt)
    ∙ rw (sym (seen_is (get_or texts i d).now seen) ∙ not_added added (is_key (get_or texts i d) seen) is_new was_not) refl
