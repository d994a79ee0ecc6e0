-- What is asked of present cells and of new ones behind them.
use Rattle.std.proofs.Common.{◌≡◌, ℕ, Bool, true, false, cond, List, [], ◌∷◌, ◌++◌, Some, None, refl, ap, sym, ◌∙◌}
use Rattle.std.specs.Prelude.{All, Option, find, filter, filter_map, option_map, is_some, ◌&&◌, ◌||◌, ◌==◌}
use Rattle.std.specs.List.{list_any}
use Rattle.std.specs.Option.{option_or}
use Rattle.std.proofs.lemmas.List.Elements.{All-head, All-tail, filter_map-append, filter-append}
use Rattle.std.proofs.lemmas.List.Folds.{find-append}
use Rattle.std.proofs.lemmas.Bool.Decides.{nat_tests}
use Rattle.std.proofs.Common.{arith}
use Rattle.cell_num.specs.Lists.{first, equals, holds, or_else}
use Rattle.cell_world.specs.World.{Standing}
use Rattle.cell_world.specs.declared.state.Standing.TheVariants.{Attached, Detached}
use Rattle.cell_space.specs.declared.cell.SpaceCell.{SpaceCell}
use Rattle.cell_space.specs.Named.{is_in, is_state, provider_at, first_provider, strong_provider, cell_at, number_of}
use Rattle.cell_space.specs.Ahead.{has_stem_in, is_there_in}

pub first-append : {X : Type 0} (xs ys : List X) → first (xs ++ ys) ≡ or_else (first xs) (first ys)
first-append [] ys = refl
first-append (x ∷ xs) ys = refl

pub first_provider-append : (spaces : List ℕ) (state : Standing) (name : List ℕ) (xs ys : List SpaceCell)
    → first_provider spaces state name (xs ++ ys) ≡ or_else (first_provider spaces state name xs) (first_provider spaces state name ys)
first_provider-append spaces state name xs ys =
    let in_spaces : SpaceCell → Bool = λ c. holds spaces c.ns in
    let left = filter (is_in state) xs in
    let right = filter (is_in state) ys in
    ap (λ cs. first (filter_map (provider_at name) (filter in_spaces cs))) (filter-append (is_in state) xs ys)
    ∙ ap (λ cs. first (filter_map (provider_at name) cs)) (filter-append in_spaces left right)
    ∙ ap first (filter_map-append (provider_at name) (filter in_spaces left) (filter in_spaces right))
    ∙ first-append (filter_map (provider_at name) (filter in_spaces left)) (filter_map (provider_at name) (filter in_spaces right))

-- no attached cell is put aside
none_aside : (spaces : List ℕ) (k : ℕ) (name : List ℕ) (cells : List SpaceCell) → All (λ c. is_in Attached c ≡ true) cells → first_provider spaces (Detached k) name cells ≡ None
none_aside spaces k name [] all = refl
none_aside spaces k name (c ∷ cells) all =
    ap (λ b. first (filter_map (provider_at name) (filter (λ (d : SpaceCell). holds spaces d.ns) (cond b (c ∷ filter (is_in (Detached k)) cells) (filter (is_in (Detached k)) cells)))))
    (other c.state (All-head (λ (d : SpaceCell). is_in Attached d ≡ true) c cells all))
    ∙ none_aside spaces k name cells (All-tail (λ (d : SpaceCell). is_in Attached d ≡ true) c cells all)
  where
    other : (state : Standing) → is_state Attached state ≡ true → is_state (Detached k) state ≡ false
    other Attached on = refl
    other (Detached l) on = absurd (cc on)

or_assoc : {X : Type 0} (a b c d : Option X) → b ≡ None → or_else (or_else a b) (or_else c d) ≡ or_else (or_else a c) d
or_assoc None b None d e = ap (λ o. or_else o d) e
or_assoc None b (Some y) d e = ap (λ o. or_else o (Some y)) e
or_assoc (Some x) b c d e = refl

-- the new cells are attached
pub strong_provider-append : (spaces : List ℕ) (state : Standing) (name : List ℕ) (xs ys : List SpaceCell) → All (λ c. is_in Attached c ≡ true) ys
    → strong_provider spaces state name (xs ++ ys) ≡ or_else (strong_provider spaces state name xs) (strong_provider spaces Attached name ys)
strong_provider-append spaces Attached name xs ys on = first_provider-append spaces Attached name xs ys
strong_provider-append spaces (Detached k) name xs ys on =
    ap (λ o. or_else o (first_provider spaces Attached name (xs ++ ys))) (first_provider-append spaces (Detached k) name xs ys)
    ∙ ap (or_else (or_else (first_provider spaces (Detached k) name xs) (first_provider spaces (Detached k) name ys))) (first_provider-append spaces Attached name xs ys)
    ∙ or_assoc (first_provider spaces (Detached k) name xs) (first_provider spaces (Detached k) name ys) (first_provider spaces Attached name xs) (first_provider spaces Attached name ys) (none_aside spaces k name ys on)

found_number : (a b : Option SpaceCell) → number_of (option_or a b) ≡ or_else (number_of a) (number_of b)
found_number None b = refl
found_number (Some c) b = refl

module _ (test : SpaceCell → Bool) where
  pub number-append : (xs ys : List SpaceCell) → number_of (find test (xs ++ ys)) ≡ or_else (number_of (find test xs)) (number_of (find test ys))
  number-append xs ys = ap number_of (find-append test xs ys) ∙ found_number (find test xs) (find test ys)

  pub rival-append : (q : SpaceCell → Bool) (xs ys : List SpaceCell)
      → number_of (find test (filter q (xs ++ ys))) ≡ or_else (number_of (find test (filter q xs))) (number_of (find test (filter q ys)))
  rival-append q xs ys = ap (λ cs. number_of (find test cs)) (filter-append q xs ys) ∙ number-append (filter q xs) (filter q ys)

-- the first answer counts, and else the second
pub answered_first : {X Y : Type 0} (f : X → Y) (x : X) (a b all : Option Y) → all ≡ or_else a b → Some (f x) ≡ a → Some (f x) ≡ all
answered_first f x a b all e is = ap (λ o. or_else o b) is ∙ sym e

pub answered_next : {X Y : Type 0} (f : X → Y) (r : Option X) (a b all : Option Y) → all ≡ or_else a b → None ≡ a → option_map f r ≡ b → option_map f r ≡ all
answered_next f r a b all e none is = is ∙ ap (λ o. or_else o b) none ∙ sym e

module _ (stem : List ℕ) where
  abbrev stands_at : ℕ → SpaceCell → Bool
  stands_at ns c = is_in Attached c && c.ns == ns && equals c.stem stem

  abbrev stands_in : List ℕ → SpaceCell → Bool
  stands_in spaces c = is_in Attached c && holds spaces c.ns && equals c.stem stem

  is_some_number : (o : Option SpaceCell) → is_some (number_of o) ≡ is_some o
  is_some_number None = refl
  is_some_number (Some c) = refl

  found_any : (test : SpaceCell → Bool) (cells : List SpaceCell) → is_some (find test cells) ≡ list_any test cells
  found_any test [] = refl
  found_any test (c ∷ cells) = go (test c) (found_any test cells)
    where
      go : (b : Bool) → is_some (find test cells) ≡ list_any test cells → is_some (cond b (Some c) (find test cells)) ≡ (b || list_any test cells)
      go true e = refl
      go false e = e

  one_there : (ns : ℕ) (cells : List SpaceCell) → is_some (cell_at ns stem cells) ≡ list_any (stands_at ns) cells
  one_there ns cells = is_some_number (find (stands_at ns) cells) ∙ found_any (stands_at ns) cells

  nowhere : (cells : List SpaceCell) → false ≡ list_any (stands_in []) cells
  nowhere [] = refl
  nowhere (c ∷ cells) = go (is_in Attached c) (nowhere cells)
    where
      go : (b : Bool) → false ≡ list_any (stands_in []) cells → false ≡ ((b && false && equals c.stem stem) || list_any (stands_in []) cells)
      go true e = e
      go false e = e

  one_more : (a e s h : Bool) (x y : Bool) → ((a && e && s || x) || (a && h && s || y)) ≡ (a && (e || h) && s || (x || y))
  one_more true true true h x y = refl
  one_more true true false true x y = refl
  one_more true true false false x y = refl
  one_more true false true true true y = refl
  one_more true false true true false y = refl
  one_more true false true false x y = refl
  one_more true false false true x y = refl
  one_more true false false false x y = refl
  one_more false e s h x y = refl

  same_number : (a b : ℕ) → (a == b) ≡ (b == a)
  same_number a b = grind (arith, nat_tests)

  split : (ns : ℕ) (spaces : List ℕ) (cells : List SpaceCell) → (list_any (stands_at ns) cells || list_any (stands_in spaces) cells) ≡ list_any (stands_in (ns ∷ spaces)) cells
  split ns spaces [] = refl
  split ns spaces (c ∷ cells) =
      one_more (is_in Attached c) (c.ns == ns) (equals c.stem stem) (holds spaces c.ns) (list_any (stands_at ns) cells) (list_any (stands_in spaces) cells)
      ∙ ap (λ b. is_in Attached c && (b || holds spaces c.ns) && equals c.stem stem || (list_any (stands_at ns) cells || list_any (stands_in spaces) cells)) (same_number c.ns ns)
      ∙ ap (λ b. is_in Attached c && (ns == c.ns || holds spaces c.ns) && equals c.stem stem || b) (split ns spaces cells)

  -- one namespace after the other, or all at once
  pub climbing : (spaces : List ℕ) (cells : List SpaceCell) → is_there_in spaces stem cells ≡ has_stem_in spaces stem cells
  climbing [] cells = nowhere cells
  climbing (ns ∷ spaces) cells =
      ap (λ b. b || is_there_in spaces stem cells) (one_there ns cells)
      ∙ ap (λ b. list_any (stands_at ns) cells || b) (climbing spaces cells)
      ∙ split ns spaces cells
