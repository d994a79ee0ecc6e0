-- A kept cell that isn't attached has a holder.
use Rattle.std.proofs.Common.{◌≡◌, refl, sym, ◌∙◌, ap, subst, ℕ, ◌⊎◌, inl, inr, Bool, true, false, List, [], ◌∷◌, true≢false, ◌↔◌}
use Rattle.std.specs.Prelude.{All, Option, Some, None, find, is_some, option_map, ◌==◌, ◌&&◌, not, IsTrue, if◌then◌else◌}
use Rattle.std.specs.List.{list_any}
use Rattle.std.proofs.lemmas.Bool.{or_cases, eqb-true, and_from}
use Rattle.cell_num.specs.Lists.{holds, or_else, In}
use Rattle.cell_world.specs.declared.refusal.Refusal.{Refusal}
use Rattle.cell_world.specs.Kept.{Holding, Claim, Leads, IsKept, reaches, kept_in, is_held_directly, is_claimed_by, holder_in, holding_task, holding_cell}
use Rattle.cell_world.specs.Commands.UnloadCommand.{held_refusal, first_held}
use Rattle.cell_num.proofs.Elements.{Has, All-In, In-All, any-Has, find_there, some_has, or_else_parts}
use Rattle.cell_lemmas.proofs.Holding.KeptPaths.{In-holds, holds-In, kept_complete, kept_on, kept_sound}

some_map : {X Y : Type 0} (f : X → Y) (o : Option X) → Has o → is_some (option_map f o) ≡ true
some_map f o h = subst (λ p. is_some (option_map f p) ≡ true) (sym h.1) refl

some_left : {X : Type 0} (a b : Option X) → is_some a ≡ true → is_some (or_else a b) ≡ true
some_left None b h = absurd (true≢false (sym h))
some_left (Some x) b h = refl

some_right : {X : Type 0} (a b : Option X) → is_some b ≡ true → is_some (or_else a b) ≡ true
some_right None b h = h
some_right (Some x) b h = refl

module _ (h : Holding) where
  -- another kept cell leads into c
  abbrev Entered : ℕ → Type 0
  Entered c = (b : ℕ) × IsKept h b × ((b == c) ≡ false) × (reaches h b c ≡ true)

  -- a path ends where it begins, or with a step from another cell
  last_step : (a : ℕ) (path : List ℕ) (c : ℕ) → IsKept h a → Leads h a path c → (a ≡ c) ⊎ Entered c
  last_step a [] c k r = inl r
  last_step a (b ∷ path) c k r = go (last_step b path c (kept_on h a b k r.0 r.1) r.2) (a == c) refl
    where
      go : (b ≡ c) ⊎ Entered c → (t : Bool) → (a == c) ≡ t → (a ≡ c) ⊎ Entered c
      go (inr e) t s = inr e
      go (inl e) true s = inl (eqb-true a c s)
      go (inl e) false s = inr (a, k, s, subst (λ x. reaches h a x ≡ true) e r.1)

  by_task : (c : ℕ) → holds h.attached c ≡ false → is_held_directly h c ≡ true → is_some (holder_in h c) ≡ true
  by_task c d t = go (or_cases (holds h.attached c) (list_any (is_claimed_by h c) h.claims) t)
    where
      go : (holds h.attached c ≡ true) ⊎ (list_any (is_claimed_by h c) h.claims ≡ true) → is_some (holder_in h c) ≡ true
      go (inl s) = absurd (true≢false (sym s ∙ d))
      go (inr s) =
          let x : (u : Claim) × In u h.claims × (is_claimed_by h c u ≡ true) = any-Has (is_claimed_by h c) h.claims s in
          some_left (holding_task h c) (holding_cell h c) (some_map _ (find (is_claimed_by h c) h.claims) (find_there (is_claimed_by h c) h.claims x.0 x.1 x.2))

  by_cell : (c : ℕ) → Entered c → is_some (holder_in h c) ≡ true
  by_cell c e =
      some_right (holding_task h c) (holding_cell h c)
      (some_map _ (find (λ a. not (a == c) && reaches h a c) (kept_in h))
      (find_there (λ a. not (a == c) && reaches h a c) (kept_in h) e.0 (kept_complete h e.0 e.1)
      (and_from (not (e.0 == c)) (reaches h e.0 c) (ap not e.2) e.3)))

  pub has_holder : (c : ℕ) → holds h.attached c ≡ false → IsKept h c → IsTrue (is_some (holder_in h c))
  has_holder c d k = go (last_step k.0 k.1 c (k.0, [], k.2, k.3, refl) k.4)
    where
      go : (k.0 ≡ c) ⊎ Entered c → is_some (holder_in h c) ≡ true
      go (inl e) = by_task c d (subst (λ x. is_held_directly h x ≡ true) e k.3)
      go (inr e) = by_cell c e

  -- what the refusal of one cell says of it
  none_held : (c : ℕ) → holds h.attached c ≡ false → (if holds (kept_in h) c then held_refusal h c else None) ≡ None → holds (kept_in h) c ≡ false
  none_held c d e = go (holds (kept_in h) c) refl e
    where
      some_none : (o : Option Refusal) → is_some o ≡ true → o ≡ None → ⊥
      some_none None s n = true≢false (sym s)
      some_none (Some x) s n = cc

      go : (b : Bool) → holds (kept_in h) c ≡ b → (if b then held_refusal h c else None) ≡ None → b ≡ false
      go false t n = refl
      go true t n = absurd (some_none (held_refusal h c) (some_map _ (holder_in h c) (some_has (holder_in h c) (has_holder c d (kept_sound h c (holds-In (kept_in h) c t))))) n)

  pub none_kept : (cells : List ℕ) → ((c : ℕ) → In c cells → holds h.attached c ≡ false) → first_held h cells ≡ None → (c : ℕ) → In c cells → holds (kept_in h) c ≡ false
  none_kept [] d e c i = absurd i
  none_kept (x ∷ cells) d e c i = go (or_else_parts (if holds (kept_in h) x then held_refusal h x else None) (first_held h cells) e) (none_kept cells (λ y j. d y (inr j))) i
    where
      go : ((if holds (kept_in h) x then held_refusal h x else None) ≡ None) × (first_held h cells ≡ None) → (first_held h cells ≡ None → (y : ℕ) → In y cells → holds (kept_in h) y ≡ false) → (c ≡ x) ⊎ In c cells → holds (kept_in h) c ≡ false
      go p f (inl s) = subst (λ y. holds (kept_in h) y ≡ false) (sym s) (none_held x (d x (inl refl)) p.0)
      go p f (inr j) = f p.1 c j

  kept_none : (cells : List ℕ) → ((c : ℕ) → In c cells → holds (kept_in h) c ≡ false) → first_held h cells ≡ None
  kept_none [] f = refl
  kept_none (x ∷ cells) f =
      ap (λ b. or_else (if b then held_refusal h x else None) (first_held h cells)) (f x (inl refl)) ∙ kept_none cells (λ y j. f y (inr j))

  -- there is a refusal exactly where one of the cells is kept
  pub first_held_exact : (cells : List ℕ) → All (λ c. holds h.attached c ≡ false) cells → (first_held h cells ≡ None) ↔ All (λ c. IsKept h c → ⊥) cells
  first_held_exact cells d = (
    λ e. In-All (λ (c : ℕ). IsKept h c → ⊥) cells (λ c i k. true≢false (sym (In-holds (kept_in h) c (kept_complete h c k)) ∙ none_kept cells (All-In (λ (c : ℕ). holds h.attached c ≡ false) cells d) e c i)),
    λ f. kept_none cells (λ c i. not_kept c (All-In (λ (c : ℕ). IsKept h c → ⊥) cells f c i)),
  )
    where
      not_kept : (c : ℕ) → (IsKept h c → ⊥) → holds (kept_in h) c ≡ false
      not_kept c f = go (holds (kept_in h) c) refl
        where
          go : (b : Bool) → holds (kept_in h) c ≡ b → b ≡ false
          go true t = absurd (f (kept_sound h c (holds-In (kept_in h) c t)))
          go false t = refl
