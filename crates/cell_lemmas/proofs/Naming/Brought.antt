-- What holds of a world goes on to hold while cells are brought, and in the end nothing is lacking.
use Rattle.std.proofs.Common.{◌≡◌, refl, sym, ap, subst, arith, ℕ, zero, suc, ◌+◌, ◌≤◌, ◌<◌, ◌⊎◌, inl, inr, Bool, true, false, cond, not, ◌&&◌, List, [], ◌∷◌, length, Option, Some, None, Ok, length-append}
use Rattle.std.specs.Prelude.{fold, slice_get, is_some}
use Rattle.std.proofs.lemmas.Bool.{ltb-true}
use Rattle.cell_world.specs.declared.refusal.Refusal.{Refusal}
use Rattle.cell_world.specs.declared.state.Namespace.{Namespace}
use Rattle.cell_num.specs.Lists.{equals, is_before, In}
use Rattle.cell_world.specs.World.{World}
use Rattle.cell_world.specs.Names.{chain, chain_within, crate_of}
use Rattle.cell_world.specs.Gather.{Source, Need, with_source, depot_files, one_file, name_of_ns, ns_of_file, stem_of_file, append_cell, first_lack, missing, has_stem_in, nearest_file, bring_one, fresh_cells, bring_within}
use Rattle.cell_world.specs.Outcome.{Outcome, ◌>>=◌, need, found}
use Rattle.cell_num.proofs.Elements.{In-filtered}
use Rattle.cell_lemmas.proofs.Outcomes.{bind_ok, then_ok}
use Rattle.cell_lemmas.proofs.Naming.Appended.{Appended, append_ok, ok_same}

In-with : (f x : Source) (files : List Source) → In x (with_source f files) → (x ≡ f) ⊎ In x files
In-with f x [] (inl e) = inl e
In-with f x [] (inr h) = absurd h
In-with f x (g ∷ files) h = go (is_before f.name g.name) h (In-with f x files)
  where
    later : (x ≡ f) ⊎ In x files → (x ≡ f) ⊎ ((x ≡ g) ⊎ In x files)
    later (inl e) = inl e
    later (inr k) = inr (inr k)

    go : (b : Bool) → In x (cond b (f ∷ g ∷ files) (g ∷ with_source f files)) → (In x (with_source f files) → (x ≡ f) ⊎ In x files) → (x ≡ f) ⊎ ((x ≡ g) ⊎ In x files)
    go true k ih = k
    go false (inl e) ih = inr (inl e)
    go false (inr k) ih = later (ih k)

In-sorted : (x : Source) (fs sorted : List Source) → In x (fold (λ s f. with_source f s) sorted fs) → In x sorted ⊎ In x fs
In-sorted x [] sorted h = inl h
In-sorted x (f ∷ fs) sorted h = go (In-sorted x fs (with_source f sorted) h)
  where
    again : (x ≡ f) ⊎ In x sorted → In x sorted ⊎ ((x ≡ f) ⊎ In x fs)
    again (inl e) = inr (inl e)
    again (inr k) = inl k

    go : In x (with_source f sorted) ⊎ In x fs → In x sorted ⊎ ((x ≡ f) ⊎ In x fs)
    go (inl k) = again (In-with f x sorted k)
    go (inr k) = inr (inr k)

-- a file of the depot is one of the folder's
pub In-depot : (sources : List Source) (ns stem : List ℕ) (x : Source) → In x (depot_files sources ns stem) → In x sources
In-depot sources ns stem x h = In-filtered (λ f. equals (ns_of_file f.name) ns && equals (stem_of_file f.name) stem) sources x (go (In-sorted x _ [] h))
  where
    go : {A : Type 0} → ⊥ ⊎ A → A
    go (inl k) = absurd k
    go (inr k) = k

pub one_file-In : (files : List Source) (r : Refusal) (f : Source) → one_file files r ≡ Ok f → In f files
one_file-In [] r f h = cc
one_file-In (g ∷ []) r f h = inl (sym (ok_same g f h))
one_file-In (g ∷ k ∷ rest) r f h = cc

module _ (w : World) (sources : List Source) (stem : List ℕ) (lacking : Refusal) where
  nearest-In : (spaces : List ℕ) (n : ℕ × Source) → nearest_file w sources spaces stem lacking ≡ Ok n → In n.0 spaces × In n.1 sources
  nearest-In [] n h = cc
  nearest-In (ns ∷ spaces) n h = go (depot_files sources (name_of_ns w ns) stem) (λ x k. In-depot sources (name_of_ns w ns) stem x k) h (nearest-In spaces n)
    where
      go : (fs : List Source) → ((x : Source) → In x fs → In x sources)
          → elim fs as (λ _. Outcome (ℕ × Source)) [ [] ↦ nearest_file w sources spaces stem lacking | f ∷ files ↦ one_file (f ∷ files) lacking >>= (λ file. Ok (ns, file)) ] ≡ Ok n
          → (nearest_file w sources spaces stem lacking ≡ Ok n → In n.0 spaces × In n.1 sources)
          → In n.0 (ns ∷ spaces) × In n.1 sources
      go [] s k ih = let r : In n.0 spaces × In n.1 sources = ih k in (inr r.0, r.1)
      go (f ∷ files) s k ih =
          let b = bind_ok (one_file (f ∷ files) lacking) (λ file. Ok (ns, file)) n k in
          let e : (ns, b.0) ≡ n = ok_same _ _ b.2 in
          (inl (sym (ap (λ (p : ℕ × Source). p.0) e)), subst (λ (p : ℕ × Source). In p.1 sources) e (s b.0 (one_file-In (f ∷ files) lacking b.0 b.1)))

-- the namespaces of a chain are there
pub chain-There : (n : ℕ) (spaces : List Namespace) (ns m : ℕ) → In m (chain_within n spaces ns) → is_some (slice_get spaces m) ≡ true
chain-There zero spaces ns m h = absurd h
chain-There (suc n) spaces ns m h = go (slice_get spaces ns) refl h (λ p. chain-There n spaces p m)
  where
    at : (space : Namespace) → slice_get spaces ns ≡ Some space → m ≡ ns → is_some (slice_get spaces m) ≡ true
    at space e k = subst (λ (i : ℕ). is_some (slice_get spaces i) ≡ true) (sym k) (subst (λ o. is_some o ≡ true) (sym e) refl)

    up : (space : Namespace) → slice_get spaces ns ≡ Some space → (o : Option ℕ) → In m (elim o as (λ _. List ℕ) [ None ↦ ns ∷ [] | Some parent ↦ ns ∷ chain_within n spaces parent ]) → ((p : ℕ) → In m (chain_within n spaces p) → is_some (slice_get spaces m) ≡ true) → is_some (slice_get spaces m) ≡ true
    up space e None (inl k) ih = at space e k
    up space e None (inr k) ih = absurd k
    up space e (Some p) (inl k) ih = at space e k
    up space e (Some p) (inr k) ih = ih p k

    go : (o : Option Namespace) → slice_get spaces ns ≡ o → In m (elim o as (λ _. List ℕ) [ None ↦ [] | Some space ↦ elim space.parent as (λ _. List ℕ) [ None ↦ ns ∷ [] | Some parent ↦ ns ∷ chain_within n spaces parent ] ]) → ((p : ℕ) → In m (chain_within n spaces p) → is_some (slice_get spaces m) ≡ true) → is_some (slice_get spaces m) ≡ true
    go None e k ih = absurd k
    go (Some space) e k ih = up space e space.parent k ih

module _ (sources : List Source) (from : ℕ) (P : World → Type 0)
    (step : (w : World) (f : Source) (ns : ℕ) (w' : World) → In f sources → is_some (slice_get w.namespaces ns) ≡ true → append_cell w f ns ≡ Ok w' → P w → P w') where
  one-Keeps : (w : World) (lack : Need) (w' : World) → bring_one sources w lack ≡ Ok w' → P w → P w' × (length w'.cells ≡ length w.cells + 1) × (length w.cells < 1024)
  one-Keeps w lack w' h p =
      let a = bind_ok (found (crate_of lack.name) (missing lack)) _ w' h in
      let b = then_ok (need (not (has_stem_in w (chain w.namespaces lack.cell.ns) a.0)) (missing lack)) _ w' a.2 in
      let c = bind_ok (nearest_file w sources (chain w.namespaces lack.cell.ns) a.0 (missing lack)) _ w' b.2 in
      let n : In c.0.0 (chain w.namespaces lack.cell.ns) × In c.0.1 sources = nearest-In w sources a.0 (missing lack) (chain w.namespaces lack.cell.ns) c.0 c.1 in
      let app : Appended w c.0.1 c.0.0 w' = append_ok w c.0.1 c.0.0 w' c.2 in (
        step w c.0.1 c.0.0 w' n.1 (chain-There (length w.namespaces) w.namespaces lack.cell.ns c.0.0 n.0) c.2 p,
        subst (λ (v : World). length v.cells ≡ length w.cells + 1) app.is (length-append w.cells (_ ∷ [])),
        ltb-true (length w.cells) 1024 app.room,
      )

  -- 1025 turns are enough
  pub brought : (n : ℕ) (w w' : World) → length w.cells ≤ 1024 → 1024 < n + length w.cells → bring_within n sources from w ≡ Ok w' → P w → P w' × (first_lack w' (fresh_cells from w') ≡ None)
  brought zero w w' l m h p = absurd (omega arith)
  brought (suc n) w w' l m h p = go (first_lack w (fresh_cells from w)) refl h (λ v. brought n v w')
    where
      go : (o : Option Need) → first_lack w (fresh_cells from w) ≡ o
          → elim o as (λ _. Outcome World) [ None ↦ Ok w | Some lack ↦ bring_one sources w lack >>= (λ more. bring_within n sources from more) ] ≡ Ok w'
          → ((v : World) → length v.cells ≤ 1024 → 1024 < n + length v.cells → bring_within n sources from v ≡ Ok w' → P v → P w' × (first_lack w' (fresh_cells from w') ≡ None))
          → P w' × (first_lack w' (fresh_cells from w') ≡ None)
      go None e k ih = let s : w ≡ w' = ok_same w w' k in (subst P s p, subst (λ (v : World). first_lack v (fresh_cells from v) ≡ None) s e)
      go (Some lack) e k ih =
          let b = bind_ok (bring_one sources w lack) (λ more. bring_within n sources from more) w' k in
          let r : P b.0 × (length b.0.cells ≡ length w.cells + 1) × (length w.cells < 1024) = one-Keeps w lack b.0 b.1 p in
          ih b.0 (omega arith) (omega arith) b.2 r.0
