-- The chain of a namespace, step by step.
use Rattle.std.proofs.Common.{◌≡◌, refl, sym, ◌∙◌, ap, arith, ℕ, zero, suc, ◌+◌, ◌-◌, ◌<◌, ◌≤◌, List, [], ◌∷◌, ◌++◌, length, append_assoc, append-nil}
use Rattle.std.specs.Prelude.{Option, Some, None, slice_get}
use Rattle.cell_world.specs.Names.{chain, chain_within}
use Rattle.cell_world.specs.declared.state.Namespace.{Namespace}

abbrev pub onward : List Namespace → ℕ → Option ℕ → List ℕ
onward spaces steps None = []
onward spaces steps (Some ns) = chain_within steps spaces ns

pub absent : {X : Type 0} (xs : List X) (i : ℕ) → length xs ≤ i → slice_get xs i ≡ None
absent [] i le = refl
absent (y ∷ ys) zero le = absurd (omega (arith, le))
absent (y ∷ ys) (suc i) le = absent ys i (omega (arith, le))

module _ (spaces : List Namespace) where
  pub begun : (ns : ℕ) → [] ++ onward spaces (length spaces - 0) (Some ns) ≡ chain spaces ns
  begun ns = let n : length spaces - 0 ≡ length spaces = omega arith in ap (λ (k : ℕ). chain_within k spaces ns) n

  step : (steps ns : ℕ) (space : Namespace) → slice_get spaces ns ≡ Some space → chain_within (suc steps) spaces ns ≡ ns ∷ onward spaces steps space.parent
  step steps ns space e =
      ap (λ (o : Option Namespace). elim o [ None ↦ [] | Some space ↦ elim space.parent [ None ↦ ns ∷ [] | Some parent ↦ ns ∷ chain_within steps spaces parent ] ]) e
      ∙ go space.parent
    where
      go : (o : Option ℕ) → elim o as (λ _. List ℕ) [ None ↦ ns ∷ [] | Some parent ↦ ns ∷ chain_within steps spaces parent ] ≡ ns ∷ onward spaces steps o
      go None = refl
      go (Some parent) = refl

  pub one_more : (done new all : List ℕ) (count ns : ℕ) (space : Namespace) → count < length spaces → slice_get spaces ns ≡ Some space → new ≡ done ++ ns ∷ []
      → done ++ onward spaces (length spaces - count) (Some ns) ≡ all → new ++ onward spaces (length spaces - (count + 1)) space.parent ≡ all
  one_more done new all count ns space lt e n far =
      let less : length spaces - count ≡ suc (length spaces - (count + 1)) = omega (arith, lt) in
      ap (λ (xs : List ℕ). xs ++ onward spaces (length spaces - (count + 1)) space.parent) n
      ∙ (append_assoc done (ns ∷ []) (onward spaces (length spaces - (count + 1)) space.parent)
      ∙ (ap (λ (xs : List ℕ). done ++ xs) (sym (ap (λ (k : ℕ). chain_within k spaces ns) less ∙ step (length spaces - (count + 1)) ns space e)) ∙ far))

  pub none_left : (done all : List ℕ) (steps : ℕ) → done ++ onward spaces steps None ≡ all → done ≡ all
  none_left done all steps far = sym (append-nil done) ∙ far

  nowhere : (steps ns : ℕ) → slice_get spaces ns ≡ None → chain_within steps spaces ns ≡ []
  nowhere zero ns e = refl
  nowhere (suc steps) ns e =
      ap (λ (o : Option Namespace). elim o as (λ _. List ℕ) [ None ↦ [] | Some space ↦ elim space.parent [ None ↦ ns ∷ [] | Some parent ↦ ns ∷ chain_within steps spaces parent ] ]) e

  pub none_there : (done all : List ℕ) (steps ns : ℕ) → slice_get spaces ns ≡ None → done ++ onward spaces steps (Some ns) ≡ all → done ≡ all
  none_there done all steps ns e far = sym (append-nil done) ∙ (ap (λ (xs : List ℕ). done ++ xs) (sym (nowhere steps ns e)) ∙ far)

  pub all_steps : (done all : List ℕ) (steps : ℕ) (next : Option ℕ) → steps ≡ 0 → done ++ onward spaces steps next ≡ all → done ≡ all
  all_steps done all steps None e far = sym (append-nil done) ∙ far
  all_steps done all steps (Some ns) e far = sym (append-nil done) ∙ (ap (λ (k : ℕ). done ++ chain_within k spaces ns) (sym e) ∙ far)
