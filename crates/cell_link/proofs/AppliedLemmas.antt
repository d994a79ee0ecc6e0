-- Fields as the entries are applied one after the other.
use Rattle.std.proofs.Common.{◌≡◌, ℕ, ◌&&◌, Bool, true, false, cond, Option, Some, None, List, [], ◌∷◌, ◌++◌, refl, sym, ap, ◌∙◌, arith, inl, inr}
use Rattle.std.specs.Prelude.{◌==◌, filter, find, fold, option_map, unwrap_or}
use Rattle.std.specs.Option.{option_or}
use Rattle.std.specs.Ordering.{is_eq}
use Rattle.std.proofs.lemmas.Bool.{cases_Bool, eqb-true}
use Rattle.std.proofs.lemmas.List.Folds.{find-append}
use Rattle.std.proofs.lemmas.List.Sums.{fold-append}
use Rattle.std.proofs.lemmas.List.Elements.{filter-append}
use Rattle.cell_num.specs.Bits.{wrap_ℤ}
use Rattle.cell_reloc.specs.Relocation.{put_in}
use Rattle.cell_world.specs.declared.state.NewCell.{NewCell}
use Rattle.cell_world.specs.Linked.Field.{Bound, number_of, own_number}
use Rattle.cell_link.specs.Tables.{spot_cmp}
use Rattle.cell_link.specs.Applied.{applied, held_among, spot_of, stands_at}

same_spot : (k q : ℕ × ℕ) → is_eq (spot_cmp k q) ≡ (k.0 == q.0 && k.1 == q.1)
same_spot k q = grind arith

spot_is : (k q : ℕ × ℕ) → (k.0 == q.0 && k.1 == q.1) ≡ true → q ≡ k
spot_is (a, b) (c, d) h = both (eqb-true a c (left_of _ _ h)) (eqb-true b d (right_of _ _ h))
  where
    left_of : (a b : Bool) → (a && b) ≡ true → a ≡ true
    left_of true b h = refl
    left_of false b h = absurd cc

    right_of : (a b : Bool) → (a && b) ≡ true → b ≡ true
    right_of true b h = h
    right_of false b h = absurd cc

    both : {a b c d : ℕ} → a ≡ c → b ≡ d → ◌≡◌ {A = ℕ × ℕ} (c, d) (a, b)
    both e f = rw (e, f) refl

-- an entry's number put in, where a map is changed so
pub held_step : (c : NewCell) (bound : List Bound) (b : Bound) (k : ℕ × ℕ) (held number new : ℕ) (f g : ℕ × ℕ → Option ℕ)
    → k ≡ spot_of b.entry → held ≡ unwrap_or (f (spot_of b.entry)) (own_number c.object b.entry) → number ≡ wrap_ℤ (number_of c bound b held) → new ≡ put_in b.entry.kind held number
    → ((q : ℕ × ℕ) → g q ≡ cond (is_eq (spot_cmp k q)) (Some new) (f q))
    → (q : ℕ × ℕ) → g q ≡ cond (stands_at q b) (Some (applied c bound (unwrap_or (f (spot_of b.entry)) (own_number c.object b.entry)) b)) (f q)
held_step c bound b k held number new f g at holds is puts are q =
    are q ∙ rw (at, puts, is, holds) (ap (λ t. cond t (Some (applied c bound (unwrap_or (f (spot_of b.entry)) (own_number c.object b.entry)) b)) (f q)) (same_spot (spot_of b.entry) q))

none_kept : {X : Type 0} (p : X → Bool) (xs : List X) → find p xs ≡ None → filter p xs ≡ []
none_kept p [] h = refl
none_kept {X = X} p (y ∷ ys) h = elim (cases_Bool (p y)) [
  | inl t ↦ absurd (never y (rw t at h))
  | inr t ↦ rw t (none_kept p ys (rw t at h))
]
  where
    never : (y : X) → Some y ≡ None → ⊥
    never y e = absurd cc

-- one more item, in any list: what a fold over the items at q gives, from the first of them on
pub fold_push : {X K : Type 0} (test : K → X → Bool) (own : X → ℕ) (step : ℕ → X → ℕ) (some : List X) (x : X) (k q : K) (f g : K → Option ℕ)
    → (test q x ≡ true → q ≡ k) → f q ≡ option_map (λ y. fold step (own y) (filter (test q) some)) (find (test q) some)
    → g q ≡ cond (test q x) (Some (step (unwrap_or (f k) (own x)) x)) (f q)
    → g q ≡ option_map (λ y. fold step (own y) (filter (test q) (some ++ x ∷ []))) (find (test q) (some ++ x ∷ []))
fold_push {X = X} {K = K} test own step some x k q f g one were are = elim (cases_Bool (test q x)) [
  | inl h ↦ are ∙ rw (find-append, filter-append) (here (find (test q) some) refl (f q) were (ap f (one h)) h)
  | inr h ↦ are ∙ rw (find-append, filter-append) (apart (find (test q) some) (filter (test q) some) (f q) were h)
]
  where
    here : (o : Option X) → find (test q) some ≡ o → (at_q : Option ℕ) → at_q ≡ option_map (λ y. fold step (own y) (filter (test q) some)) o → at_q ≡ f k → test q x ≡ true
        → cond (test q x) (Some (step (unwrap_or (f k) (own x)) x)) at_q ≡ option_map (λ y. fold step (own y) (filter (test q) some ++ filter (test q) (x ∷ []))) (option_or o (find (test q) (x ∷ [])))
    here None none at_q is same h = rw (h, none_kept (test q) some none, ← same, is) refl
    here (Some y) found at_q is same h = rw (h, ← same, is) (ap Some (sym (fold-append step (own y) (filter (test q) some) (x ∷ []))))

    apart : (o : Option X) (kept : List X) (at_q : Option ℕ) → at_q ≡ option_map (λ y. fold step (own y) kept) o → test q x ≡ false
        → cond (test q x) (Some (step (unwrap_or (f k) (own x)) x)) at_q ≡ option_map (λ y. fold step (own y) (kept ++ filter (test q) (x ∷ []))) (option_or o (find (test q) (x ∷ [])))
    apart None kept at_q is h = rw (h, is) refl
    apart (Some y) kept at_q is h = rw (h, is) (ap Some (sym (fold-append step (own y) kept [])))

pub held_push : (c : NewCell) (bound some : List Bound) (b : Bound) (f g : ℕ × ℕ → Option ℕ)
    → ((q : ℕ × ℕ) → f q ≡ held_among c bound some q)
    → ((q : ℕ × ℕ) → g q ≡ cond (stands_at q b) (Some (applied c bound (unwrap_or (f (spot_of b.entry)) (own_number c.object b.entry)) b)) (f q))
    → (q : ℕ × ℕ) → g q ≡ held_among c bound (some ++ b ∷ []) q
held_push c bound some b f g were are q =
    fold_push stands_at (λ (x : Bound). own_number c.object x.entry) (applied c bound) some b (spot_of b.entry) q f g (spot_is (spot_of b.entry) q) (were q) (are q)
