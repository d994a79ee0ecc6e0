-- Namings in the order of their names.
use Rattle.std.proofs.Common.{◌≡◌, refl, sym, ◌∙◌, ap, arith, ℕ, ◌+◌, ◌<◌, ◌≤◌, ◌==◌, Bool, true, false, cond, not, ◌&&◌, List, [], ◌∷◌, ◌++◌, append-nil, length, get_or, take, drop, take-append-drop, length-drop, true≢false, Ordering, Less, Equal, Greater, is_lt, is_eq}
use Rattle.std.specs.Prelude.{filter}
use Rattle.std.specs.Cmp.Lexicographic.{slice_cmp}
use Rattle.std.specs.List.Sorted.{ties}
use Rattle.std.specs.Ordering.{nat_cmp, ordering_reverse, ordering_then}
use Rattle.std.proofs.lemmas.Bool.{eq-eqb}
use Rattle.std.proofs.lemmas.Cmp.{nat_list_cmp_total}
use Rattle.std.proofs.lemmas.List.{drop_all, get_or-drop, take_all}
use Rattle.std.proofs.lemmas.List.Elements.{filter-append}
use Rattle.std.proofs.lemmas.List.Sorted.{ranks_by, sorted_far}
use Rattle.std.proofs.lemmas.Map.Text.{is_eq-slice_cmp}
use Rattle.std.proofs.lemmas.Slice.Eq.{bytes_eq-Decides}
use Rattle.cell_num.specs.Lists.{equals}
use Rattle.cell_bearers.specs.Key.{key_of, keyed}
use Rattle.cell_bearers.specs.Namings.{AreInOrder, IsRun, Named, is_called, is_lower, named}
use Rattle.cell_bearers.specs.declared.named.Owner.TheVariants.{Need}

-- ---- names that tie are the same
neither : (o p : Ordering) → p ≡ ordering_reverse o → is_eq o ≡ (not (is_lt o) && not (is_lt p))
neither Less p e = refl
neither Equal p e = ap (λ (q : Ordering). not (is_lt q)) (sym e)
neither Greater p e = ap (λ (q : Ordering). not (is_lt q)) (sym e)

-- numbers first
pub compared_less : (o p : Ordering) → o ≡ Less → Less ≡ ordering_then o p
compared_less o p e = sym (ap (λ (q : Ordering). ordering_then q p) e)

pub compared_equal : (o p : Ordering) → o ≡ Equal → p ≡ ordering_then o p
compared_equal o p e = sym (ap (λ (q : Ordering). ordering_then q p) e)

pub compared_greater : (o p : Ordering) → o ≡ Greater → Greater ≡ ordering_then o p
compared_greater o p e = sym (ap (λ (q : Ordering). ordering_then q p) e)

pub ruleset compared = (compared_less, compared_equal, compared_greater)

-- names of one number, or of two, are the same where they are with their numbers
behind_key : (a b : List ℕ) → keyed a ≡ keyed b → a ≡ b
behind_key a b e = ap (drop 1) e

alike : (s t : Bool) → (s ≡ true → t ≡ true) → (t ≡ true → s ≡ true) → s ≡ t
alike true t f g = sym (f refl)
alike false true f g = g refl
alike false false f g = refl

same_keyed : (a b : List ℕ) → equals (keyed a) (keyed b) ≡ equals a b
same_keyed a b =
    alike (equals (keyed a) (keyed b)) (equals a b)
    (λ e. (bytes_eq-Decides a b).1 (behind_key a b ((bytes_eq-Decides (keyed a) (keyed b)).0 e)))
    (λ e. (bytes_eq-Decides (keyed a) (keyed b)).1 (ap keyed ((bytes_eq-Decides a b).0 e)))

-- other numbers, other names
pub key_apart : (a b : List ℕ) → (key_of a == key_of b) ≡ false → false ≡ equals a b
key_apart a b e = go (equals a b) refl
  where
    go : (t : Bool) → equals a b ≡ t → false ≡ t
    go true h = sym e ∙ eq-eqb (key_of a) (key_of b) (ap key_of ((bytes_eq-Decides a b).0 h))
    go false h = refl

pub key_told : (a b : List ℕ) → (key_of a == key_of b && equals a b) ≡ equals a b
key_told a b = go (key_of a == key_of b) refl
  where
    go : (t : Bool) → (key_of a == key_of b) ≡ t → (t && equals a b) ≡ equals a b
    go true e = refl
    go false e = key_apart a b e

pub ruleset told_apart = (key_apart, key_told)

ties_called : (name : List ℕ) (n : Named) → ties is_lower n (named name (Need 0 0)) ≡ is_called name n
ties_called name n =
    sym (neither (slice_cmp nat_cmp (keyed n.name) (keyed name)) (slice_cmp nat_cmp (keyed name) (keyed n.name)) (nat_list_cmp_total.antisymm (keyed name) (keyed n.name)))
    ∙ (is_eq-slice_cmp (keyed n.name) (keyed name) ∙ same_keyed n.name name)

and_turned : (a b : Bool) → (a && b) ≡ (b && a)
and_turned true true = refl
and_turned true false = refl
and_turned false true = refl
and_turned false false = refl

filter_alike : {X : Type 0} (p q : X → Bool) (xs : List X) → ((x : X) → p x ≡ q x) → filter p xs ≡ filter q xs
filter_alike p q [] f = refl
filter_alike {X} p q (x ∷ xs) f =
    ap (λ (t : Bool). cond t (x ∷ filter p xs) (filter p xs)) (f x)
    ∙ ap (λ (ys : List X). cond (q x) (x ∷ ys) ys) (filter_alike p q xs f)

pub same_called : (old new : List Named) → ((n : Named) → filter (ties is_lower n) new ≡ filter (ties is_lower n) old) → (name : List ℕ) → filter (is_called name) new ≡ filter (is_called name) old
same_called old new stable name =
    let x = named name (Need 0 0) in
    let like : (n : Named) → is_called name n ≡ ties is_lower x n
    = λ n. sym (and_turned (not (is_lower x n)) (not (is_lower n x)) ∙ ties_called name n) in
    filter_alike (is_called name) (ties is_lower x) new like ∙ (stable x ∙ sym (filter_alike (is_called name) (ties is_lower x) old like))

-- a part is exchanged for one with the same of the name
pub last_called : (name : List ℕ) (rest old new all : List Named) → all ≡ rest ++ old → filter (is_called name) new ≡ filter (is_called name) old → filter (is_called name) (rest ++ new) ≡ filter (is_called name) all
last_called name rest old new all is same =
    filter-append (is_called name) rest new
    ∙ (ap (λ (xs : List Named). filter (is_called name) rest ++ xs) same
    ∙ (sym (filter-append (is_called name) rest old) ∙ sym (ap (filter (is_called name)) is)))

-- what is written over a whole list
pub put_last : (start : ℕ) (old new all : List Named) → take (length old) all ≡ take start old ++ new → drop (length old) all ≡ drop (length old) old → all ≡ take start old ++ new
put_last start old new all front back =
    sym (take-append-drop (length old) all)
    ∙ (ap (λ (xs : List Named). xs ++ drop (length old) all) front
    ∙ (ap (λ (xs : List Named). (take start old ++ new) ++ xs) (back ∙ drop_all (length old) old (omega (arith)))
    ∙ append-nil (take start old ++ new)))

pub written_whole : (n : ℕ) (old new : List Named) → length new ≡ length old → n ≡ length old → take n (new ++ drop (length new) old) ≡ new
written_whole n old new same size =
    ap (λ (xs : List Named). take n (new ++ xs)) (drop_all (length new) old (omega (arith, same)))
    ∙ (ap (take n) (append-nil new) ∙ take_all n new (omega (arith, same, size)))

same_list : (a b : List ℕ) → is_lt (slice_cmp nat_cmp a b) ≡ false → is_lt (slice_cmp nat_cmp b a) ≡ false → a ≡ b
same_list a b e f =
    let tie = neither (slice_cmp nat_cmp a b) (slice_cmp nat_cmp b a) (nat_list_cmp_total.antisymm b a) in
    let both : not (is_lt (slice_cmp nat_cmp a b)) && not (is_lt (slice_cmp nat_cmp b a)) ≡ true = ap (λ (t : Bool). not t && not (is_lt (slice_cmp nat_cmp b a))) e ∙ ap not f in
    (bytes_eq-Decides a b).0 (sym (is_eq-slice_cmp a b) ∙ (tie ∙ both))

same_name : (a b : List ℕ) → is_lt (slice_cmp nat_cmp (keyed a) (keyed b)) ≡ false → is_lt (slice_cmp nat_cmp (keyed b) (keyed a)) ≡ false → a ≡ b
same_name a b e f = behind_key a b (same_list (keyed a) (keyed b) e f)

pub differ : (a b : List ℕ) → (a ≡ b → ⊥) → equals a b ≡ false
differ a b f = go (equals a b) refl
  where
    go : (t : Bool) → equals a b ≡ t → t ≡ false
    go true e = absurd (f ((bytes_eq-Decides a b).0 e))
    go false e = refl

-- ---- no name comes again after its run
module _ (ns : List Named) (order : AreInOrder ns) where
  far : (i j : ℕ) (d : Named) → i ≤ j → j < length ns → is_lower (get_or ns j d) (get_or ns i d) ≡ false
  far i j d le lt = sorted_far is_lower (ranks_by nat_list_cmp_total (λ (n : Named). keyed n.name)) ns order i j d le lt

  -- the name at j is that at i, and so is each between
  between : (i m j : ℕ) (d : Named) → i ≤ m → m ≤ j → j < length ns → (get_or ns j d).name ≡ (get_or ns i d).name → (get_or ns m d).name ≡ (get_or ns i d).name
  between i m j d le more lt e =
      same_name (get_or ns m d).name (get_or ns i d).name (far i m d le (omega (arith, more, lt)))
      (ap (λ (name : List ℕ). is_lt (slice_cmp nat_cmp (keyed name) (keyed (get_or ns m d).name))) (sym e) ∙ far m j d more lt)

  pub never_again : (i len j : ℕ) (d : Named) → IsRun (drop i ns) len → i + len ≤ j → j < length ns → (get_or ns j d).name ≡ (get_or ns i d).name → ⊥
  never_again i len j d run le lt e = go (run.other d)
    where
      past : (get_or ns (i + len) d).name ≡ (get_or ns i d).name
      past = between i (i + len) j d (omega arith) le lt e

      go : (len < length (drop i ns) → equals (get_or (drop i ns) len d).name (get_or (drop i ns) 0 d).name ≡ false) → ⊥
      go other =
          let size = length-drop i ns in
          let here = ap (λ (n : Named). n.name) (get_or-drop i ns len d) in
          let first = ap (λ (n : Named). n.name) (get_or-drop i ns 0 d) ∙ ap (λ (k : ℕ). (get_or ns k d).name) (let k : i + 0 ≡ i = omega arith in k) in
          let same = here ∙ (past ∙ sym first) in
          true≢false (sym ((bytes_eq-Decides (get_or (drop i ns) len d).name (get_or (drop i ns) 0 d).name).1 same) ∙ other (omega (arith, size, le, lt)))
