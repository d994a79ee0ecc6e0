-- The kept cells that are computed are exactly those that paths keep, and they stand in the order of all cells.
use Rattle.std.proofs.Common.{◌≡◌, refl, sym, ◌∙◌, subst, ℕ, ◌⊎◌, inl, inr, Bool, true, false, ◌||◌, List, [], ◌∷◌, ◌++◌, length, true≢false, ◌↔◌}
use Rattle.std.specs.Prelude.{filter, ◌==◌, nat_lt, IsTrue}
use Rattle.std.proofs.lemmas.Bool.{or_cases, or_left, eqb-true, eq-eqb}
use Rattle.std.proofs.Math.Bool.{or-true}
use Rattle.cell_num.specs.Lists.{holds, each_pair, In}
use Rattle.cell_world.specs.Kept.{Holding, Leads, IsKept, reaches, leads_to, kept_in, is_held_directly}
use Rattle.cell_num.proofs.Elements.{any-In, any-Has, filter-In, In-filtered, filter-Passes}
use Rattle.cell_num.proofs.Sublists.{filter_same, pairs-filter}
use Rattle.cell_lemmas.proofs.Holding.Closures.{Path, IsReached, closure_complete, closure_sound, steps_part}

pub In-holds : (xs : List ℕ) (n : ℕ) → In n xs → holds xs n ≡ true
In-holds xs n i = any-In (λ y. y == n) xs n i (eq-eqb n n refl)

pub holds-In : (xs : List ℕ) (n : ℕ) → holds xs n ≡ true → In n xs
holds-In xs n h = let r : (y : ℕ) × In y xs × ((y == n) ≡ true) = any-Has (λ y. y == n) xs h in subst (λ m. In m xs) (eqb-true r.0 n r.2) r.1

module _ (h : Holding) where
  -- a path of the closure is a path that keeps, without the steps that stay
  leads_of_path : (a : ℕ) (path : List ℕ) (c : ℕ) → Path (leads_to h) h.cells a path c → (short : List ℕ) × Leads h a short c
  leads_of_path a [] c r = ([], r)
  leads_of_path a (b ∷ path) c r = go (or_cases (a == b) (reaches h a b) r.1) (leads_of_path b path c r.2)
    where
      go : ((a == b) ≡ true) ⊎ (reaches h a b ≡ true) → (short : List ℕ) × Leads h b short c → (short : List ℕ) × Leads h a short c
      go (inl e) s = subst (λ x. (short : List ℕ) × Leads h x short c) (sym (eqb-true a b e)) s
      go (inr t) s = (b ∷ s.0, (In-holds h.cells b r.0, t, s.1))

  path_of_leads : (a : ℕ) (path : List ℕ) (c : ℕ) → Leads h a path c → Path (leads_to h) h.cells a path c
  path_of_leads a [] c r = r
  path_of_leads a (b ∷ path) c r =
      (holds-In h.cells b r.0, subst (λ v. (a == b || v) ≡ true) (sym r.1) (or-true (a == b)), path_of_leads b path c r.2)

  leads_to_itself : (a : ℕ) → leads_to h a a ≡ true
  leads_to_itself a = or_left (a == a) (reaches h a a) (eq-eqb a a refl)

  pub kept_complete : (c : ℕ) → IsKept h c → In c (kept_in h)
  kept_complete c k =
      closure_complete (leads_to h) h.cells leads_to_itself (is_held_directly h) k.0 k.1 c
      (holds-In h.cells k.0 k.2) k.3 (path_of_leads k.0 k.1 c k.4)

  pub kept_sound : (c : ℕ) → In c (kept_in h) → IsKept h c
  kept_sound c i =
      let r : IsReached (leads_to h) h.cells (is_held_directly h) c = closure_sound (leads_to h) h.cells leads_to_itself (is_held_directly h) c i in
      let s : (short : List ℕ) × Leads h r.0 short c = leads_of_path r.0 r.1 c r.4 in
      (r.0, s.0, In-holds h.cells r.0 r.2, r.3, s.1)

  -- the test is that of paths
  pub kept_by_paths : (c : ℕ) → IsTrue (holds (kept_in h) c) ↔ IsKept h c
  kept_by_paths c = (λ t. kept_sound c (holds-In (kept_in h) c t), λ k. In-holds (kept_in h) c (kept_complete c k))

  abbrev part : (q : ℕ → Bool) × (kept_in h ≡ filter q h.cells)
  part = steps_part (leads_to h) h.cells (length h.cells) (is_held_directly h)

  -- the kept cells in the order of the cells
  pub kept_order : kept_in h ≡ filter (holds (kept_in h)) h.cells
  kept_order = part.1 ∙ filter_same part.0 (holds (kept_in h)) h.cells same
    where
      same : (x : ℕ) → In x h.cells → part.0 x ≡ holds (kept_in h) x
      same x i = go (part.0 x) refl (holds (kept_in h) x) refl
        where
          go : (a : Bool) → part.0 x ≡ a → (b : Bool) → holds (kept_in h) x ≡ b → a ≡ b
          go true s true t = refl
          go false s false t = refl
          go true s false t = absurd (true≢false (sym (In-holds (kept_in h) x (subst (λ xs. In x xs) (sym part.1) (filter-In part.0 h.cells x i s))) ∙ t))
          go false s true t = absurd (true≢false (sym (filter-Passes part.0 h.cells x (subst (λ xs. In x xs) part.1 (holds-In (kept_in h) x t))) ∙ s))

  pub kept_rises : IsTrue (each_pair nat_lt h.cells) → IsTrue (each_pair nat_lt (kept_in h))
  kept_rises r = subst (λ xs. each_pair nat_lt xs ≡ true) (sym part.1) (pairs-filter nat_lt part.0 h.cells r)

  pub kept_present : (c : ℕ) → IsKept h c → In c h.cells
  kept_present c k = In-filtered part.0 h.cells c (subst (λ xs. In c xs) part.1 (kept_complete c k))

  leads_on : (a : ℕ) (path : List ℕ) (b c : ℕ) → Leads h a path b → holds h.cells c ≡ true → reaches h b c ≡ true → Leads h a (path ++ c ∷ []) c
  leads_on a [] b c r i t = (i, subst (λ x. reaches h x c ≡ true) (sym r) t, refl)
  leads_on a (d ∷ path) b c r i t = (r.0, r.1, leads_on d path b c r.2 i t)

  -- what a kept cell reaches is kept
  pub kept_on : (a b : ℕ) → IsKept h a → holds h.cells b ≡ true → reaches h a b ≡ true → IsKept h b
  kept_on a b k i t = (k.0, k.1 ++ b ∷ [], k.2, k.3, leads_on k.0 k.1 a b k.4 i t)

pub directly_kept : (h : Holding) (c : ℕ) → holds h.cells c ≡ true → is_held_directly h c ≡ true → IsKept h c
directly_kept h c i d = (c, [], i, d, refl)
