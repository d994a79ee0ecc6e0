-- The way from a namespace up.
use Rattle.std.proofs.Common.{◌≡◌, ℕ, zero, suc, ◌<◌, List, [], ◌∷◌, Some, None, length, get_or, refl, ap, sym, ◌∙◌, arith}
use Rattle.std.specs.Prelude.{Option, slice_get}
use Rattle.cell_world.specs.declared.state.Namespace.{Namespace}
use Rattle.cell_world.specs.Names.{chain, chain_within}
use Rattle.cell_space.specs.Rooted.{AreRooted, IsOnTheWay, chain_from}

pub get_at : {X : Type 0} (xs : List X) (i : ℕ) (x : X) → i < length xs → x ≡ get_or xs i x → slice_get xs i ≡ Some x
get_at [] i x lt e = absurd (omega arith)
get_at (y ∷ xs) zero x lt e = ap (λ z. Some z) (sym e)
get_at (y ∷ xs) (suc i) x lt e = get_at xs i x (omega arith) e

-- the namespace, and what is above its parent in that many steps
abbrev above : List Namespace → ℕ → ℕ → Option ℕ → List ℕ
above spaces n ns None = ns ∷ []
above spaces n ns (Some parent) = ns ∷ chain_within n spaces parent

abbrev from_there : List Namespace → ℕ → ℕ → Option Namespace → List ℕ
from_there spaces n ns None = []
from_there spaces n ns (Some space) = above spaces n ns space.parent

same_above : (spaces : List Namespace) (n m ns : ℕ) (o : Option ℕ) → ((p : ℕ) → o ≡ Some p → chain_within n spaces p ≡ chain_within m spaces p) → above spaces n ns o ≡ above spaces m ns o
same_above spaces n m ns None h = refl
same_above spaces n m ns (Some p) h = ap (λ ps. ns ∷ ps) (h p refl)

same_from : (spaces : List Namespace) (n m ns : ℕ) (o : Option Namespace) → ((space : Namespace) (p : ℕ) → o ≡ Some space → space.parent ≡ Some p → chain_within n spaces p ≡ chain_within m spaces p)
    → from_there spaces n ns o ≡ from_there spaces m ns o
same_from spaces n m ns None h = refl
same_from spaces n m ns (Some space) h = same_above spaces n m ns space.parent (λ p e. h space p refl e)

-- enough steps are enough
same : (spaces : List Namespace) → AreRooted spaces → (n m ns : ℕ) → ns < n → ns < m → chain_within n spaces ns ≡ chain_within m spaces ns
same spaces rooted zero m ns a b = absurd (omega arith)
same spaces rooted (suc n) zero ns a b = absurd (omega arith)
same spaces rooted (suc n) (suc m) ns a b =
    same_from spaces n m ns (slice_get spaces ns) (λ space p e f.
    let lower = rooted.lower ns space p e f in
    same spaces rooted n m p (omega arith) (omega arith))

parent_chain : (spaces : List Namespace) → AreRooted spaces → (n ns : ℕ) (o : Option ℕ) → ((p : ℕ) → o ≡ Some p → p < n) → ((p : ℕ) → o ≡ Some p → p < length spaces) → above spaces n ns o ≡ ns ∷ chain_from spaces o
parent_chain spaces rooted n ns None low there = refl
parent_chain spaces rooted n ns (Some p) low there = ap (λ ps. ns ∷ ps) (same spaces rooted n (length spaces) p (low p refl) (there p refl))

pub chain_step : (spaces : List Namespace) (ns : ℕ) (space : Namespace) → AreRooted spaces → ns < length spaces → slice_get spaces ns ≡ Some space
    → chain spaces ns ≡ ns ∷ chain_from spaces space.parent
chain_step spaces ns space rooted lt at =
    same spaces rooted (length spaces) (suc (length spaces)) ns lt (omega arith)
    ∙ ap (from_there spaces (length spaces) ns) at
    ∙ parent_chain spaces rooted (length spaces) ns space.parent
    (λ p e. let lower = rooted.lower ns space p at e in omega arith)
    (λ p e. let lower = rooted.lower ns space p at e in omega arith)

-- one step up
pub stepped : (spaces : List Namespace) (next : Option ℕ) (ns : ℕ) (space : Namespace) (now : List ℕ) → IsOnTheWay spaces next → next ≡ Some ns → space ≡ get_or spaces ns space
    → chain_from spaces next ≡ now → now ≡ ns ∷ chain_from spaces (get_or spaces ns space).parent
stepped spaces next ns space now way e is view =
    sym view
    ∙ ap (chain_from spaces) e
    ∙ chain_step spaces ns space way.rooted (way.there ns e) (get_at spaces ns space (way.there ns e) is)
    ∙ ap (λ s. ns ∷ chain_from spaces s.parent) is
