-- What passes one of several tests is what passes each, test by test, in another order.
use Rattle.std.proofs.Common.{◌≡◌, refl, sym, ◌∙◌, ap, subst, inl, inr, ℕ, ◌+◌, ◌<◌, ◌≤◌, Bool, true, false, true≢false, cond, not, ◌&&◌, ◌||◌, List, [], ◌∷◌, ◌++◌, length, get_or, take, map, append_assoc, append-nil}
use Rattle.std.specs.Prelude.{Option, filter, filter_map, flat_map}
use Rattle.std.specs.List.{list_any, list_all}
use Rattle.std.specs.List.Sorted.{IsPermutation}
use Rattle.std.proofs.lemmas.Bool.{and_parts}
use Rattle.std.proofs.lemmas.List.{map_more, take_all, take_more}
use Rattle.std.proofs.lemmas.List.Concat.{flat_map-append}
use Rattle.std.proofs.lemmas.List.Elements.{filter_map-append}
use Rattle.std.proofs.lemmas.List.Sorted.{IsPermutation-append_left, IsPermutation-refl, IsPermutation-sym, IsPermutation-trans, IsPermutation-cons, IsPermutation-middle, IsPermutation-append_right}
use Rattle.cell_num.specs.Lists.{each_pair, In}
use Rattle.cell_num.proofs.Elements.{all-In, any-Has, filter_none, map-In}
use Rattle.cell_machine.proofs.Lists.{in_get}

pub filter_same : {X : Type 0} (p q : X → Bool) (xs : List X) → ((x : X) → In x xs → p x ≡ q x) → filter p xs ≡ filter q xs
filter_same p q [] same = refl
filter_same p q (x ∷ xs) same =
    ap (λ b. cond b (x ∷ filter p xs) (filter p xs)) (same x (inl refl)) ∙ ap (λ ys. cond (q x) (x ∷ ys) ys) (filter_same p q xs (λ y i. same y (inr i)))

-- two tests that never pass together
joined : {X : Type 0} (p q : X → Bool) (xs : List X) → ((x : X) → p x ≡ true → q x ≡ true → ⊥) → IsPermutation (filter (λ x. p x || q x) xs) (filter p xs ++ filter q xs)
joined p q [] apart = IsPermutation-refl []
joined {X = X} p q (x ∷ xs) apart = go (p x) (q x) (apart x) (joined p q xs apart)
  where
    either : List X
    either = filter (λ x. p x || q x) xs

    go : (a b : Bool) → (a ≡ true → b ≡ true → ⊥) → IsPermutation (filter (λ x. p x || q x) xs) (filter p xs ++ filter q xs)
        → IsPermutation (cond (a || b) (x ∷ filter (λ x. p x || q x) xs) (filter (λ x. p x || q x) xs)) (cond a (x ∷ filter p xs) (filter p xs) ++ cond b (x ∷ filter q xs) (filter q xs))
    go true true apart rest = absurd (apart refl refl)
    go true false apart rest = IsPermutation-cons x _ _ rest
    go false true apart rest =
        IsPermutation-trans _ _ _ (IsPermutation-cons x _ _ rest) (IsPermutation-sym _ _ (IsPermutation-middle (filter p xs) x (filter q xs)))
    go false false apart rest = rest

module _ {K X : Type 0} (test : K → X → Bool) where
  never_both : (a b : Bool) → not (a && b) ≡ true → a ≡ true → b ≡ true → ⊥
  never_both true true h p q = true≢false (sym h)
  never_both true false h p q = true≢false (sym q)
  never_both false b h p q = true≢false (sym p)

  pub gathered : (keys : List K) (xs : List X) → ((x : X) → each_pair (λ k l. not (test k x && test l x)) keys ≡ true)
      → IsPermutation (filter (λ x. list_any (λ k. test k x) keys) xs) (flat_map (λ k. filter (test k) xs) keys)
  gathered [] xs apart = subst (λ (ys : List X). IsPermutation ys []) (sym (filter_none (λ x. false) xs (λ x i. refl))) (IsPermutation-refl [])
  gathered (k ∷ keys) xs apart =
      IsPermutation-trans _ _ _ (joined (test k) (λ x. list_any (λ l. test l x) keys) xs once)
      (IsPermutation-append_right (filter (test k) xs) _ _ (gathered keys xs (λ x. (and_parts (list_all (λ l. not (test k x && test l x)) keys) (each_pair (λ k l. not (test k x && test l x)) keys) (apart x)).1)))
    where
      once : (x : X) → test k x ≡ true → list_any (λ l. test l x) keys ≡ true → ⊥
      once x here later =
          let l = any-Has (λ l. test l x) keys later in
          let all = (and_parts (list_all (λ l. not (test k x && test l x)) keys) (each_pair (λ k l. not (test k x && test l x)) keys) (apart x)).0 in
          never_both (test k x) (test l.0 x) (all-In (λ l. not (test k x && test l x)) keys all l.0 l.1) here l.2

module _ {X : Type 0} (all : List X) where
  -- one more is taken over
  pub taken_over : (done left next new : List X) (x : X) → left ≡ x ∷ next → new ≡ done ++ x ∷ [] → IsPermutation all (done ++ left) → IsPermutation all (new ++ next)
  taken_over done left next new x is more moved =
      subst (λ (ys : List X). IsPermutation all (ys ++ next)) (sym more)
      (subst (λ (ys : List X). IsPermutation all ys) (sym (append_assoc done (x ∷ []) next)) (subst (λ (ys : List X). IsPermutation all (done ++ ys)) is moved))

  -- none is left
  pub all_taken : (done left : List X) → left ≡ [] → IsPermutation all (done ++ left) → IsPermutation all done
  all_taken done left none moved =
      subst (λ (ys : List X). IsPermutation all ys) (append-nil done) (subst (λ (ys : List X). IsPermutation all (done ++ ys)) none moved)

module _ {X Y : Type 0} (f : X → Option Y) (all : List Y) where
  -- what one more comes to is taken over
  pub line_over : (done new : List Y) (left next : List X) (x : X) → left ≡ x ∷ next → new ≡ done ++ filter_map f (x ∷ []) → all ≡ done ++ filter_map f left → all ≡ new ++ filter_map f next
  line_over done new left next x is more so_far =
      so_far
      ∙ (ap (λ (xs : List X). done ++ filter_map f xs) is
      ∙ (ap (λ (ys : List Y). done ++ ys) (filter_map-append f (x ∷ []) next)
      ∙ (sym (append_assoc done (filter_map f (x ∷ [])) (filter_map f next)) ∙ ap (λ (ys : List Y). ys ++ filter_map f next) (sym more))))

  -- none is left
  pub lines_end : (done : List Y) (left : List X) → left ≡ [] → all ≡ done ++ filter_map f left → done ≡ all
  lines_end done left none so_far = sym (so_far ∙ (ap (λ (xs : List X). done ++ filter_map f xs) none ∙ append-nil done))

module _ {S K X : Type 0} (f : K → List X) (key : S → K) (ss read : List S) (same : read ≡ ss) (i : ℕ) where
  -- what one more key gives comes behind
  pub key_more : (s : S) (done new : List X) → i < length read → s ≡ get_or read i s
      → IsPermutation (flat_map f (map key (take i ss))) done → IsPermutation (done ++ f (key s)) new → IsPermutation (flat_map f (map key (take (i + 1) ss))) new
  key_more s done new lt at before added =
      subst (λ (ys : List X). IsPermutation ys new) (sym whole)
      (IsPermutation-trans _ _ _ (IsPermutation-append_left (f (key s)) _ _ before) added)
    where
      here : s ≡ get_or ss i s
      here = subst (λ (ts : List S). s ≡ get_or ts i s) same at

      whole : flat_map f (map key (take (i + 1) ss)) ≡ flat_map f (map key (take i ss)) ++ f (key s)
      whole =
          ap (flat_map f) (map_more key ss i s (subst (λ (ts : List S). i < length ts) same lt) ∙ ap (λ t. map key (take i ss) ++ key t ∷ []) (sym here))
          ∙ (flat_map-append f (map key (take i ss)) (key s ∷ []) ∙ ap (λ (ys : List X). flat_map f (map key (take i ss)) ++ ys) (append-nil (f (key s))))

  pub all_keys : (rows : List X) → length read ≤ i → IsPermutation (flat_map f (map key (take i ss))) rows → IsPermutation (flat_map f (map key ss)) rows
  all_keys rows le moved = subst (λ (ts : List S). IsPermutation (flat_map f (map key ts)) rows) (take_all i ss (subst (λ (ts : List S). length ts ≤ i) same le)) moved

  pub key_there : (s : S) → i < length read → s ≡ get_or read i s → In (key s) (map key ss)
  key_there s lt at = map-In key ss s (subst (λ (ts : List S). In s ts) same (subst (λ (t : S). In t read) (sym at) (in_get read i s lt)))

-- what one more element comes to comes behind
pub lines_more : {X Y : Type 0} (f : X → Option Y) (xs : List X) (i : ℕ) (d : X) (old new : List Y) → i < length xs → old ≡ filter_map f (take i xs) → new ≡ old ++ filter_map f (get_or xs i d ∷ []) → new ≡ filter_map f (take (i + 1) xs)
lines_more {X = X} {Y = Y} f xs i d old new lt before added =
    added
    ∙ (ap (λ (ys : List Y). ys ++ filter_map f (get_or xs i d ∷ [])) before
    ∙ (sym (filter_map-append f (take i xs) (get_or xs i d ∷ [])) ∙ ap (filter_map f) (sym (take_more xs i d lt))))
