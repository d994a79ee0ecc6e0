-- Two namespaces of one chain are on one path.
use Rattle.std.proofs.Common.{◌≡◌, refl, sym, subst, arith, ℕ, zero, suc, ◌<◌, ◌⊎◌, inl, inr, true, ◌||◌, List, [], ◌∷◌, length, Option, Some, None}
use Rattle.std.specs.Prelude.{slice_get}
use Rattle.std.proofs.lemmas.Bool.{or_left}
use Rattle.std.proofs.Math.Bool.{or-true}
use Rattle.cell_num.specs.Lists.{holds, In}
use Rattle.cell_world.specs.declared.state.Namespace.{Namespace}
use Rattle.cell_world.specs.Names.{chain, chain_within, are_on_one_path}
use Rattle.cell_num.proofs.Elements.{below_there, some_has}
use Rattle.cell_lemmas.proofs.Holding.KeptPaths.{In-holds, holds-In}

module _ (spaces : List Namespace) where
  abbrev Above : ℕ → ℕ → Option ℕ → List ℕ
  Above n ns o = elim o as (λ _. List ℕ) [ None ↦ ns ∷ [] | Some parent ↦ ns ∷ chain_within n spaces parent ]

  abbrev From : ℕ → ℕ → Option Namespace → List ℕ
  From n ns o = elim o as (λ _. List ℕ) [ None ↦ [] | Some space ↦ Above n ns space.parent ]

  -- one more step loses nothing
  one_more : (n ns a : ℕ) → In a (chain_within n spaces ns) → In a (chain_within (suc n) spaces ns)
  one_more zero ns a i = absurd i
  one_more (suc n) ns a i = go (slice_get spaces ns) i (λ p x. one_more n p a x)
    where
      up : (o : Option ℕ) → In a (Above n ns o) → ((p : ℕ) → In a (chain_within n spaces p) → In a (chain_within (suc n) spaces p)) → In a (Above (suc n) ns o)
      up None x ih = x
      up (Some p) (inl x) ih = inl x
      up (Some p) (inr x) ih = inr (ih p x)

      go : (o : Option Namespace) → In a (From n ns o) → ((p : ℕ) → In a (chain_within n spaces p) → In a (chain_within (suc n) spaces p)) → In a (From (suc n) ns o)
      go None x ih = absurd x
      go (Some space) x ih = up space.parent x ih

  -- of the two, one is in the other's chain of so many steps
  abbrev Meets : ℕ → ℕ → ℕ → Type 0
  Meets n a b = In b (chain_within n spaces a) ⊎ In a (chain_within n spaces b)

  in_one_chain : (n ns a b : ℕ) → In a (chain_within n spaces ns) → In b (chain_within n spaces ns) → Meets n a b
  in_one_chain zero ns a b i j = absurd i
  in_one_chain (suc n) ns a b i j = go (slice_get spaces ns) i j (λ p x y. in_one_chain n p a b x y)
    where
      first_a : a ≡ ns → Meets (suc n) a b
      first_a e = inl (subst (λ m. In b (chain_within (suc n) spaces m)) (sym e) j)

      first_b : b ≡ ns → Meets (suc n) a b
      first_b e = inr (subst (λ m. In a (chain_within (suc n) spaces m)) (sym e) i)

      more : Meets n a b → Meets (suc n) a b
      more (inl x) = inl (one_more n a b x)
      more (inr x) = inr (one_more n b a x)

      up : (o : Option ℕ) → In a (Above n ns o) → In b (Above n ns o) → ((p : ℕ) → In a (chain_within n spaces p) → In b (chain_within n spaces p) → Meets n a b) → Meets (suc n) a b
      up None (inl x) y ih = first_a x
      up None (inr x) y ih = absurd x
      up (Some p) (inl x) y ih = first_a x
      up (Some p) (inr x) (inl y) ih = first_b y
      up (Some p) (inr x) (inr y) ih = more (ih p x y)

      go : (o : Option Namespace) → In a (From n ns o) → In b (From n ns o) → ((p : ℕ) → In a (chain_within n spaces p) → In b (chain_within n spaces p) → Meets n a b) → Meets (suc n) a b
      go None x y ih = absurd x
      go (Some space) x y ih = up space.parent x y ih

  pub on_one_path : (ns a b : ℕ) → holds (chain spaces ns) a ≡ true → holds (chain spaces ns) b ≡ true → are_on_one_path spaces a b ≡ true
  on_one_path ns a b x y = go (in_one_chain (length spaces) ns a b (holds-In (chain spaces ns) a x) (holds-In (chain spaces ns) b y))
    where
      go : In b (chain spaces a) ⊎ In a (chain spaces b) → (holds (chain spaces a) b || holds (chain spaces b) a) ≡ true
      go (inl h) = or_left (holds (chain spaces a) b) (holds (chain spaces b) a) (In-holds (chain spaces a) b h)
      go (inr h) = subst (λ v. (holds (chain spaces a) b || v) ≡ true) (sym (In-holds (chain spaces b) a h)) (or-true (holds (chain spaces a) b))

  -- a chain begins with the namespace itself
  pub in_own_chain : (ns : ℕ) → ns < length spaces → holds (chain spaces ns) ns ≡ true
  in_own_chain ns k = In-holds (chain spaces ns) ns (begins (length spaces) k)
    where
      up : (n : ℕ) (o : Option ℕ) → In ns (Above n ns o)
      up n None = inl refl
      up n (Some p) = inl refl

      begins : (n : ℕ) → ns < n → In ns (chain_within n spaces ns)
      begins zero h = absurd (omega (arith, h))
      begins (suc n) h =
          let s = some_has (slice_get spaces ns) (below_there spaces ns k) in
          subst (λ o. In ns (From n ns o)) (sym s.1) (up n s.0.parent)
