-- A namespace that is added changes no chain of those before it.
use Rattle.std.proofs.Common.{◌≡◌, refl, sym, ap, subst, arith, ℕ, zero, suc, ◌<◌, Bool, true, List, [], ◌∷◌, ◌++◌, length, Option, Some, None, length-append}
use Rattle.std.specs.Prelude.{slice_get, nat_lt, ◌==◌}
use Rattle.std.specs.List.{list_all}
use Rattle.std.proofs.lemmas.Bool.{ltb-true}
use Rattle.cell_world.specs.declared.state.Namespace.{Namespace}
use Rattle.cell_num.specs.Lists.{numbered}
use Rattle.cell_world.specs.Names.{chain, chain_within}
use Rattle.cell_world.specs.Coherent.{is_sound_parent}
use Rattle.cell_num.proofs.Elements.{all-In, numbered-In}

get_more : {X : Type 0} (xs ys : List X) (n : ℕ) → n < length xs → slice_get (xs ++ ys) n ≡ slice_get xs n
get_more [] ys n h = absurd (omega (arith, h))
get_more (x ∷ xs) ys zero h = refl
get_more (x ∷ xs) ys (suc n) h = get_more xs ys n (omega (arith, h))

-- a parent has a lower number
abbrev pub Lower : List Namespace → Type 0
Lower spaces = (ns : ℕ) (space : Namespace) (p : ℕ) → slice_get spaces ns ≡ Some space → space.parent ≡ Some p → p < ns

pub lower_parents : (spaces : List Namespace) → list_all is_sound_parent (numbered spaces) ≡ true → Lower spaces
lower_parents spaces h ns space p e f =
    let k : is_sound_parent (ns, space) ≡ true = all-In is_sound_parent (numbered spaces) h (ns, space) (numbered-In spaces 0 ns ns space e (omega arith)) in
    ltb-true p ns (go space.parent f k)
  where
    go : (o : Option ℕ) → o ≡ Some p → elim o as (λ _. Bool) [ None ↦ ns == 0 | Some parent ↦ nat_lt parent ns ] ≡ true → nat_lt p ns ≡ true
    go o f k = subst (λ o. elim o as (λ _. Bool) [ None ↦ ns == 0 | Some parent ↦ nat_lt parent ns ] ≡ true) f k

pub chain_same : (spaces more : List Namespace) → Lower spaces → (n m ns : ℕ) → ns < n → ns < m → ns < length spaces → chain_within n (spaces ++ more) ns ≡ chain_within m spaces ns
chain_same spaces more l zero m ns a b c = absurd (omega (arith, a))
chain_same spaces more l (suc n) zero ns a b c = absurd (omega (arith, b))
chain_same spaces more l (suc n) (suc m) ns a b c =
    subst (λ o. elim o as (λ _. List ℕ) [ None ↦ [] | Some space ↦ elim space.parent as (λ _. List ℕ) [ None ↦ ns ∷ [] | Some parent ↦ ns ∷ chain_within n (spaces ++ more) parent ] ] ≡ chain_within (suc m) spaces ns) (sym (get_more spaces more ns c))
    (go (slice_get spaces ns) refl (λ p k. chain_same spaces more l n m p (omega (arith, k, a)) (omega (arith, k, b)) (omega (arith, k, c))))
  where
    up : (o : Option ℕ) → ((p : ℕ) → o ≡ Some p → p < ns) → ((p : ℕ) → p < ns → chain_within n (spaces ++ more) p ≡ chain_within m spaces p)
        → elim o as (λ _. List ℕ) [ None ↦ ns ∷ [] | Some parent ↦ ns ∷ chain_within n (spaces ++ more) parent ] ≡ elim o as (λ _. List ℕ) [ None ↦ ns ∷ [] | Some parent ↦ ns ∷ chain_within m spaces parent ]
    up None k f = refl
    up (Some p) k f = ap (λ (xs : List ℕ). ns ∷ xs) (f p (k p refl))

    go : (o : Option Namespace) → slice_get spaces ns ≡ o → ((p : ℕ) → p < ns → chain_within n (spaces ++ more) p ≡ chain_within m spaces p)
        → elim o as (λ _. List ℕ) [ None ↦ [] | Some space ↦ elim space.parent as (λ _. List ℕ) [ None ↦ ns ∷ [] | Some parent ↦ ns ∷ chain_within n (spaces ++ more) parent ] ]
        ≡ elim o as (λ _. List ℕ) [ None ↦ [] | Some space ↦ elim space.parent as (λ _. List ℕ) [ None ↦ ns ∷ [] | Some parent ↦ ns ∷ chain_within m spaces parent ] ]
    go None e f = refl
    go (Some space) e f = up space.parent (λ p k. l ns space p e k) f

pub chain_more : (spaces more : List Namespace) → list_all is_sound_parent (numbered spaces) ≡ true → (ns : ℕ) → nat_lt ns (length spaces) ≡ true → chain (spaces ++ more) ns ≡ chain spaces ns
chain_more spaces more h ns k =
    let l : ns < length spaces = ltb-true ns (length spaces) k in
    chain_same spaces more (lower_parents spaces h) (length (spaces ++ more)) (length spaces) ns (omega (arith, length-append spaces more, l)) l l
