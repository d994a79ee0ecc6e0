-- The chains of a namespace, of its parent, and of a sibling that is added.
use Rattle.std.proofs.Common.{◌≡◌, refl, sym, ◌∙◌, ap, subst, arith, ℕ, zero, suc, ◌≤◌, ◌<◌, ◌⊎◌, inl, inr, List, [], ◌∷◌, ◌++◌, length, Option, Some, None, length-append}
use Rattle.std.specs.Prelude.{slice_get, option_and_then}
use Rattle.std.proofs.lemmas.List.{append-nil}
use Rattle.cell_num.specs.Lists.{In}
use Rattle.cell_world.specs.declared.state.Namespace.{Namespace}
use Rattle.cell_world.specs.Names.{chain, chain_within}
use Rattle.cell_lemmas.proofs.Naming.Chains.{Lower, chain_same}

pub get_last : {X : Type 0} (xs : List X) (x : X) → slice_get (xs ++ x ∷ []) (length xs) ≡ Some x
get_last [] x = refl
get_last (y ∷ xs) x = get_last xs x

abbrev Above : ℕ → List Namespace → ℕ → Option ℕ → List ℕ
Above n spaces ns o = elim o as (λ _. List ℕ) [ None ↦ ns ∷ [] | Some parent ↦ ns ∷ chain_within n spaces parent ]

abbrev From : ℕ → List Namespace → ℕ → Option Namespace → List ℕ
From n spaces ns o = elim o as (λ _. List ℕ) [ None ↦ [] | Some space ↦ Above n spaces ns space.parent ]

-- one step up
step_up : (n : ℕ) (spaces : List Namespace) (ns parent : ℕ) → option_and_then (λ space. space.parent) (slice_get spaces ns) ≡ Some parent → chain_within (suc n) spaces ns ≡ ns ∷ chain_within n spaces parent
step_up n spaces ns parent e = go (slice_get spaces ns) e
  where
    up : (o : Option ℕ) → o ≡ Some parent → Above n spaces ns o ≡ ns ∷ chain_within n spaces parent
    up o e = ap (Above n spaces ns) e

    go : (o : Option Namespace) → option_and_then (λ space. space.parent) o ≡ Some parent → From n spaces ns o ≡ ns ∷ chain_within n spaces parent
    go None e = absurd cc
    go (Some space) e = up space.parent e

module _ (spaces : List Namespace) (lower : Lower spaces) where
  pub same_budget : (n m ns : ℕ) → ns < n → ns < m → ns < length spaces → chain_within n spaces ns ≡ chain_within m spaces ns
  same_budget n m ns a b c = subst (λ (xs : List Namespace). chain_within n xs ns ≡ chain_within m spaces ns) (append-nil spaces) (chain_same spaces [] lower n m ns a b c)

  pub parent_lower : (ns parent : ℕ) → option_and_then (λ (space : Namespace). space.parent) (slice_get spaces ns) ≡ Some parent → parent < ns
  parent_lower ns parent e = go (slice_get spaces ns) refl e
    where
      go : (o : Option Namespace) → slice_get spaces ns ≡ o → option_and_then (λ (space : Namespace). space.parent) o ≡ Some parent → parent < ns
      go None f k = absurd cc
      go (Some space) f k = lower ns space parent f k

  -- the chain of a namespace that has a parent
  pub chain_up : (ns parent : ℕ) → ns < length spaces → option_and_then (λ (space : Namespace). space.parent) (slice_get spaces ns) ≡ Some parent → chain spaces ns ≡ ns ∷ chain spaces parent
  chain_up ns parent k e = go (length spaces) refl
    where
      go : (n : ℕ) → length spaces ≡ n → chain_within n spaces ns ≡ ns ∷ chain_within n spaces parent
      go zero q = absurd (omega (arith, k, q))
      go (suc n) q =
          let l : parent < ns = parent_lower ns parent e in
          step_up n spaces ns parent e ∙ ap (λ (xs : List ℕ). ns ∷ xs) (same_budget n (suc n) parent (omega (arith, l, k, q)) (omega (arith, l, k, q)) (omega (arith, l, k)))

  -- the chain of a namespace that is added under another
  pub chain_added : (name : List ℕ) (parent : ℕ) → parent < length spaces → chain (spaces ++ record { name = name; parent = Some parent } ∷ []) (length spaces) ≡ length spaces ∷ chain spaces parent
  chain_added name parent k =
      let child : Namespace = record { name = name; parent = Some parent } in
      let n : length (spaces ++ child ∷ []) ≡ suc (length spaces) = omega (arith, length-append spaces (child ∷ [])) in
      ap (λ m. chain_within m (spaces ++ child ∷ []) (length spaces)) n
      ∙ (step_up (length spaces) (spaces ++ child ∷ []) (length spaces) parent (ap (option_and_then (λ (space : Namespace). space.parent)) (get_last spaces child))
      ∙ ap (λ (xs : List ℕ). length spaces ∷ xs) (chain_same spaces (child ∷ []) lower (length spaces) (length spaces) parent k k k))

  chain_low : (n ns x : ℕ) → In x (chain_within n spaces ns) → x ≤ ns
  chain_low zero ns x i = absurd i
  chain_low (suc n) ns x i = go (slice_get spaces ns) refl i (λ p j. chain_low n p x j)
    where
      up : (o : Option ℕ) → ((p : ℕ) → o ≡ Some p → p < ns) → In x (Above n spaces ns o) → ((p : ℕ) → In x (chain_within n spaces p) → x ≤ p) → x ≤ ns
      up None l (inl e) ih = omega (arith, e)
      up None l (inr j) ih = absurd j
      up (Some p) l (inl e) ih = omega (arith, e)
      up (Some p) l (inr j) ih = omega (arith, l p refl, ih p j)

      go : (o : Option Namespace) → slice_get spaces ns ≡ o → In x (From n spaces ns o) → ((p : ℕ) → In x (chain_within n spaces p) → x ≤ p) → x ≤ ns
      go None e j ih = absurd j
      go (Some space) e j ih = up space.parent (λ p f. lower ns space p e f) j ih

  -- a chain goes down in numbers
  pub chain_below : (ns x : ℕ) → In x (chain spaces ns) → x ≤ ns
  chain_below ns x i = chain_low (length spaces) ns x i

  -- the chain of a namespace of a chain is in that chain
  on_within : (n ns m x : ℕ) → ns < n → ns < length spaces → In m (chain_within n spaces ns) → In x (chain spaces m) → In x (chain_within n spaces ns)
  on_within zero ns m x a b i j = absurd (omega (arith, a))
  on_within (suc n) ns m x a b i j = pick (λ p k y q. on_within n p m x k y q j) (first_or_later i)
    where
      up : (space : Namespace) → slice_get spaces ns ≡ Some space → (o : Option ℕ) → space.parent ≡ o → In m (Above n spaces ns o) → (m ≡ ns) ⊎ ((p : ℕ) × (p < ns) × (chain_within (suc n) spaces ns ≡ ns ∷ chain_within n spaces p) × In m (chain_within n spaces p))
      up space e None f (inl q) = inl q
      up space e None f (inr k) = absurd k
      up space e (Some p) f (inl q) = inl q
      up space e (Some p) f (inr k) = inr (p, lower ns space p e f, step_up n spaces ns p (ap (option_and_then (λ (s : Namespace). s.parent)) e ∙ f), k)

      go : (o : Option Namespace) → slice_get spaces ns ≡ o → In m (From n spaces ns o) → (m ≡ ns) ⊎ ((p : ℕ) × (p < ns) × (chain_within (suc n) spaces ns ≡ ns ∷ chain_within n spaces p) × In m (chain_within n spaces p))
      go None e k = absurd k
      go (Some space) e k = up space e space.parent refl k

      first_or_later : In m (chain_within (suc n) spaces ns) → (m ≡ ns) ⊎ ((p : ℕ) × (p < ns) × (chain_within (suc n) spaces ns ≡ ns ∷ chain_within n spaces p) × In m (chain_within n spaces p))
      first_or_later k = go (slice_get spaces ns) refl k

      pick : ((p : ℕ) → p < n → p < length spaces → In m (chain_within n spaces p) → In x (chain_within n spaces p)) → (m ≡ ns) ⊎ ((p : ℕ) × (p < ns) × (chain_within (suc n) spaces ns ≡ ns ∷ chain_within n spaces p) × In m (chain_within n spaces p)) → In x (chain_within (suc n) spaces ns)
      pick rec (inl e) = subst (In x) (same_budget (length spaces) (suc n) ns b a b) (subst (λ k. In x (chain spaces k)) e j)
      pick rec (inr r) = subst (In x) (sym r.2) (inr (rec r.0 (omega (arith, r.1, a)) (omega (arith, r.1, b)) r.3))

  pub chain_on : (ns m x : ℕ) → ns < length spaces → In m (chain spaces ns) → In x (chain spaces m) → In x (chain spaces ns)
  chain_on ns m x k i j = on_within (length spaces) ns m x k k i j
