-- Each namespace of a chain is there.
use Rattle.std.proofs.Common.{◌≡◌, refl, ℕ, zero, suc, ◌<◌, List, [], ◌∷◌, length, arith}
use Rattle.std.specs.Prelude.{Option, Some, None, All, slice_get}
use Rattle.std.proofs.lemmas.List.Elements.{All-nil, All-cons}
use Rattle.cell_world.specs.declared.state.Namespace.{Namespace}
use Rattle.cell_world.specs.Names.{chain, chain_within}

within : {X : Type 0} (xs : List X) (k : ℕ) (x : X) → slice_get xs k ≡ Some x → k < length xs
within [] k x e = absurd (cc e)
within (y ∷ xs) zero x e = omega arith
within (y ∷ xs) (suc k) x e = let h = within xs k x e in omega arith

module _ (spaces : List Namespace) where
  abbrev Inside : ℕ → Type 0
  Inside n = n < length spaces

  above : (ns : ℕ) (o : Option ℕ) (more : ℕ → List ℕ) → Inside ns → ((p : ℕ) → All Inside (more p)) → All Inside (elim o as (λ _. List ℕ) [ None ↦ ns ∷ [] | Some parent ↦ ns ∷ more parent ])
  above ns None more lt rest = All-cons Inside ns [] lt (All-nil Inside)
  above ns (Some parent) more lt rest = All-cons Inside ns (more parent) lt (rest parent)

  climb : (steps ns : ℕ) (o : Option Namespace) → slice_get spaces ns ≡ o → ((p : ℕ) → All Inside (chain_within steps spaces p))
      → All Inside (elim o as (λ _. List ℕ) [ None ↦ [] | Some space ↦ elim space.parent as (λ _. List ℕ) [ None ↦ ns ∷ [] | Some parent ↦ ns ∷ chain_within steps spaces parent ] ])
  climb steps ns None e rest = All-nil Inside
  climb steps ns (Some space) e rest = above ns space.parent (chain_within steps spaces) (within spaces ns space e) rest

  within_inside : (steps ns : ℕ) → All Inside (chain_within steps spaces ns)
  within_inside zero ns = All-nil Inside
  within_inside (suc steps) ns = climb steps ns (slice_get spaces ns) refl (λ p. within_inside steps p)

  -- each namespace of a chain is there
  pub chain_inside : (ns : ℕ) → All Inside (chain spaces ns)
  chain_inside ns = within_inside (length spaces) ns
