-- Marks of the cells that use another one.
use Rattle.std.proofs.Common.{◌≡◌, inl, inr, ℕ, zero, suc, ◌+◌, take, ◌<◌, ◌&&◌, ◌||◌, Bool, true, false, cond, List, [], ◌∷◌, ◌++◌, length, get_or, replicate, refl, sym, ap, ◌∙◌, arith, Contains}
use Rattle.std.specs.Prelude.{◌==◌, filter}
use Rattle.std.specs.List.{list_any}
use Rattle.std.proofs.lemmas.List.Folds.{list_any_more}
use Rattle.slab.proofs.SlabLemmas.{Contains-cons, Contains-cons_cases}
use Rattle.cell_world.specs.declared.state.LinkRow.{LinkRow}
use Rattle.cell_graph.specs.declared.order.SectionPlace.{SectionPlace}
use Rattle.cell_graph.specs.Links.{is_same}
use Rattle.cell_graph.specs.Users.{is_marked, is_user_of, leads_to}
use Rattle.cell_graph.proofs.Rising.{Contains-head, no_element}
use Rattle.cell_graph.proofs.Sights.{same_key, key_same}

-- no mark stands behind the end
pub unmarked : (n q : ℕ) → is_marked (replicate n false) q ≡ false
unmarked zero q = refl
unmarked (suc n) zero = refl
unmarked (suc n) (suc q) = unmarked n q

-- what a list grows by is unmarked
pub longer : (marks : List Bool) (n q : ℕ) → is_marked (marks ++ replicate n false) q ≡ is_marked marks q
longer [] n q = unmarked n q
longer (b ∷ marks) n zero = refl
longer (b ∷ marks) n (suc q) = longer marks n q

module _ {X : Type 0} where
  pub any_filter : (p q : X → Bool) (xs : List X) → list_any q (filter p xs) ≡ list_any (λ x. p x && q x) xs
  any_filter p q [] = refl
  any_filter p q (x ∷ xs) = go (p x) (any_filter p q xs)
    where
      go : (b : Bool) → list_any q (filter p xs) ≡ list_any (λ x. p x && q x) xs → list_any q (cond b (x ∷ filter p xs) (filter p xs)) ≡ ((b && q x) || list_any (λ x. p x && q x) xs)
      go true later = ap (λ b. q x || b) later
      go false later = later

  pub any_found : (p : X → Bool) (xs : List X) → list_any p xs ≡ true → (x : X) × Contains xs x × (p x ≡ true)
  any_found p [] h = absurd cc
  any_found p (x ∷ xs) h = go (p x) refl (any_found p xs) h
    where
      go : (b : Bool) → p x ≡ b → (list_any p xs ≡ true → (y : X) × Contains xs y × (p y ≡ true)) → (b || list_any p xs) ≡ true → (y : X) × Contains (x ∷ xs) y × (p y ≡ true)
      go true e later h = (x, Contains-head x xs, e)
      go false e later h = let w = later h in (w.0, Contains-cons x w.0 xs w.1, w.2)

  pub any_of : (p : X → Bool) (xs : List X) (x : X) → Contains xs x → p x ≡ true → list_any p xs ≡ true
  any_of p [] x has passes = absurd (no_element x has)
  any_of p (y ∷ xs) x has passes =
      elim (Contains-cons_cases y x xs has) [
        | inl here ↦ rw (ap p here ∙ passes) refl
        | inr later ↦ rest (p y) (any_of p xs x later passes)
      ]
    where
      rest : (a : Bool) → list_any p xs ≡ true → (a || list_any p xs) ≡ true
      rest true h = refl
      rest false h = h

pub alike : (a b : Bool) → (a ≡ true → b ≡ true) → (b ≡ true → a ≡ true) → a ≡ b
alike true b to from = sym (to refl)
alike false true to from = from refl
alike false false to from = refl

pub both : (a b : Bool) → (a && b) ≡ true → (a ≡ true) × (b ≡ true)
both true b h = (refl, h)
both false b h = absurd cc

pub and_yes : (a b : Bool) → a ≡ true → b ≡ true → (a && b) ≡ true
and_yes true b h k = k
and_yes false b h k = absurd cc

test_of : (a b : ℕ) → (a == b) ≡ true → a ≡ b
test_of a b h = grind (arith)

same_test : (a b : ℕ) → a ≡ b → (a == b) ≡ true
same_test a b h = grind (arith)

-- the links into a cell are those to its sections
pub users_by_sections : (cell : ℕ) (rows : List LinkRow) (part : List SectionPlace) → ((s : SectionPlace) → Contains part s → s.key.cell.0 ≡ cell)
    → ((r : LinkRow) → Contains rows r → r.target.cell.0 ≡ cell → (s : SectionPlace) × Contains part s × (s.key ≡ r.target)) → (n : ℕ)
    → list_any (λ s. leads_to s.key rows n) part ≡ is_user_of cell rows n
users_by_sections cell rows part own all n =
    alike (list_any (λ s. leads_to s.key rows n) part) (is_user_of cell rows n)
    (λ h.
    let s = any_found (λ s. leads_to s.key rows n) part h in
    let r = any_found (λ r. is_same r.target s.0.key && r.user.cell.0 == n) rows s.2 in
    let tests = both (is_same r.0.target s.0.key) (r.0.user.cell.0 == n) r.2 in
    any_of (λ r. r.target.cell.0 == cell && r.user.cell.0 == n) rows r.0 r.1
    (and_yes (r.0.target.cell.0 == cell) (r.0.user.cell.0 == n) (same_test r.0.target.cell.0 cell (ap (λ k. k.cell.0) (same_key r.0.target s.0.key tests.0) ∙ own s.0 s.1)) tests.1))
    (λ h.
    let r = any_found (λ r. r.target.cell.0 == cell && r.user.cell.0 == n) rows h in
    let tests = both (r.0.target.cell.0 == cell) (r.0.user.cell.0 == n) r.2 in
    let s = all r.0 r.1 (test_of r.0.target.cell.0 cell tests.0) in
    any_of (λ s. leads_to s.key rows n) part s.0 s.1
    (any_of (λ r. is_same r.target s.0.key && r.user.cell.0 == n) rows r.0 r.1 (and_yes (is_same r.0.target s.0.key) (r.0.user.cell.0 == n) (key_same r.0.target s.0.key (sym s.2)) tests.1)))

or_assoc : (a b c : Bool) → ((a || b) || c) ≡ (a || (b || c))
or_assoc true b c = refl
or_assoc false b c = refl

-- marks of one section more
pub marked_more : (rows : List LinkRow) (part : List SectionPlace) (i n : ℕ) (d : SectionPlace) (old now next : Bool) → i < length part → next ≡ (now || leads_to (get_or part i d).key rows n)
    → now ≡ (old || list_any (λ s. leads_to s.key rows n) (take i part)) → next ≡ (old || list_any (λ s. leads_to s.key rows n) (take (i + 1) part))
marked_more rows part i n d old now next below step so =
    step
    ∙ (ap (λ b. b || leads_to (get_or part i d).key rows n) so
    ∙ (or_assoc old (list_any (λ s. leads_to s.key rows n) (take i part)) (leads_to (get_or part i d).key rows n)
    ∙ ap (λ b. old || b) (sym (list_any_more (λ (s : SectionPlace). leads_to s.key rows n) part i d below))))
