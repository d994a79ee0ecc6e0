-- The first entries of fields, with one more entry.
use Rattle.std.proofs.Common.{◌≡◌, ℕ, zero, suc, ◌+◌, ◌<◌, ◌||◌, subst, arith, Bool, true, false, cond, not, List, [], ◌∷◌, ◌++◌, length, get_or, take, refl, sym, ap, ◌∙◌, append-nil}
use Rattle.std.specs.List.{list_any}
use Rattle.std.proofs.lemmas.List.{take_more}
use Rattle.std.proofs.lemmas.List.Folds.{list_any-append}
use Rattle.cell_link.proofs.FirstFieldLemmas.{among_push}
use Rattle.cell_link.specs.Applied.{spot_of}
use Rattle.cell_object.specs.declared.object.Entry.{Entry}
use Rattle.cell_world.specs.Linked.Field.{fields_among}
use Rattle.cell_relinked.specs.Contents.{AreSeen, Seen, is_seen, stands_at}

module _ (entries : List Entry) (i : ℕ) (e : Entry) (below : i < length entries) (here : e ≡ get_or entries i e) where
  next : take (i + 1) entries ≡ take i entries ++ e ∷ []
  next = take_more entries i e below ∙ ap (λ (x : Entry). take i entries ++ x ∷ []) (sym here)

  or_false : (b c : Bool) → (b || c) ≡ (b || (c || false))
  or_false true c = refl
  or_false false true = refl
  or_false false false = refl

  -- one more place
  pub seen_more : (old new : Seen) → AreSeen old (take i entries) → ((q : ℕ × ℕ) → is_seen new q ≡ (is_seen old q || stands_at q e)) → AreSeen new (take (i + 1) entries)
  seen_more old new far more q =
      more q
      ∙ ap (λ (b : Bool). b || stands_at q e) (far q)
      ∙ or_false (list_any (stands_at q) (take i entries)) (stands_at q e)
      ∙ sym (list_any-append (stands_at q) (take i entries) (e ∷ []))
      ∙ ap (list_any (stands_at q)) (sym next)

  module _ (seen : Seen) (far : AreSeen seen (take i entries)) (firsts : List Entry) (so_far : firsts ≡ fields_among [] (take i entries)) where
    one_more : fields_among [] (take (i + 1) entries) ≡ firsts ++ cond (is_seen seen (spot_of e)) [] (e ∷ [])
    one_more =
        ap (fields_among []) next
        ∙ among_push [] (take i entries) e
        ∙ ap (λ (b : Bool). fields_among [] (take i entries) ++ cond b [] (e ∷ [])) (sym (far (spot_of e)))
        ∙ ap (λ (es : List Entry). es ++ cond (is_seen seen (spot_of e)) [] (e ∷ [])) (sym so_far)

    pub new_first : true ≡ not (is_seen seen (spot_of e)) → firsts ++ e ∷ [] ≡ fields_among [] (take (i + 1) entries)
    new_first h = sym (one_more ∙ ap (λ (b : Bool). firsts ++ cond b [] (e ∷ [])) (unseen (is_seen seen (spot_of e)) h))
      where
        unseen : (b : Bool) → true ≡ not b → b ≡ false
        unseen true h = absurd cc
        unseen false h = refl

    pub no_first : false ≡ not (is_seen seen (spot_of e)) → firsts ≡ fields_among [] (take (i + 1) entries)
    no_first h = sym (one_more ∙ ap (λ (b : Bool). firsts ++ cond b [] (e ∷ [])) (seen_there (is_seen seen (spot_of e)) h) ∙ append-nil firsts)
      where
        seen_there : (b : Bool) → false ≡ not b → b ≡ true
        seen_there true h = refl
        seen_there false h = absurd cc

default_same : (xs : List Entry) (i : ℕ) (d e : Entry) → i < length xs → get_or xs i d ≡ get_or xs i e
default_same [] i d e lt = absurd (omega (arith, lt))
default_same (x ∷ xs) zero d e lt = refl
default_same (x ∷ xs) (suc i) d e lt = default_same xs i d e (omega (arith, lt))

module _ (read xs : List Entry) (same : read ≡ xs) (i : ℕ) (d : Entry) (lt : i < length read) where
  below : i < length xs
  below = subst (λ (ys : List Entry). i < length ys) same lt

  here : get_or read i d ≡ get_or xs i (get_or read i d)
  here = ap (λ (ys : List Entry). get_or ys i d) same ∙ default_same xs i d (get_or read i d) below

  module _ (old : Seen) (far : AreSeen old (take i xs)) where
    pub seen_on : (new : Seen) → ((q : ℕ × ℕ) → is_seen new q ≡ (is_seen old q || stands_at q (get_or read i d))) → AreSeen new (take (i + 1) xs)
    seen_on new more = seen_more xs i (get_or read i d) below here old new far more

    module _ (firsts : List Entry) (so_far : firsts ≡ fields_among [] (take i xs)) (is_new : Bool) (n : is_new ≡ not (is_seen old (spot_of (get_or read i d)))) where
      pub first_on : is_new ≡ true → (new : List Entry) → new ≡ firsts ++ get_or read i d ∷ [] → new ≡ fields_among [] (take (i + 1) xs)
      first_on t new added = added ∙ new_first xs i (get_or read i d) below here old far firsts so_far (sym t ∙ n)

      pub none_on : is_new ≡ false → firsts ≡ fields_among [] (take (i + 1) xs)
      none_on f = no_first xs i (get_or read i d) below here old far firsts so_far (sym f ∙ n)
