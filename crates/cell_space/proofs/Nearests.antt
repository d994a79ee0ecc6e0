-- The nearest weak holder, one namespace after the other, and as the rules on names say it.
use Rattle.std.proofs.Common.{◌≡◌, ℕ, Bool, true, false, cond, List, [], ◌∷◌, ◌++◌, Some, None, refl, ap, ap₂, sym, ◌∙◌}
use Rattle.std.specs.Prelude.{All, Option, find, filter, filter_map, option_and_then, option_map, is_some, ◌&&◌, ◌==◌}
use Rattle.std.specs.List.{cons_option}
use Rattle.std.proofs.lemmas.List.Elements.{All-head, All-tail, filter_map-append}
use Rattle.cell_num.specs.Lists.{first, or_else}
use Rattle.cell_world.specs.World.{Standing}
use Rattle.cell_world.specs.declared.state.Standing.TheVariants.{Attached, Detached}
use Rattle.cell_world.specs.Names.{Provider, by_spaces_by, has_name, nearest_provider_by, symbol_in}
use Rattle.cell_space.specs.declared.cell.SpaceCell.{SpaceCell}
use Rattle.cell_space.specs.declared.word.WordKind.TheVariants.{Weak}
use Rattle.cell_space.specs.Index.{is_at}
use Rattle.cell_space.specs.Named.{is_in, is_state, of_called, provider_for, strong_provider, weak_provider}
use Rattle.cell_space.specs.Nearest.{nearest_aside, nearest_in, weak_at, weak_in, weak_offer}
use Rattle.cell_space.proofs.Layered.{first-append, first_provider-append}
use Rattle.cell_space.proofs.NameTables.{is_some_symbol}
use Rattle.cell_space.proofs.Searches.{filter-filter, filter_map-filter}

or_none : {X : Type 0} (a b : Option X) → b ≡ None → or_else a b ≡ a
or_none None b e = e
or_none (Some x) b e = refl

module _ (state : Standing) (name : List ℕ) where
  one_space : (ns : ℕ) (cells : List SpaceCell) → first (filter_map (weak_at name) (filter (λ c. c.ns == ns) (filter (is_in state) cells))) ≡ weak_in ns state name cells
  one_space ns cells =
      ap first
      (ap (filter_map (weak_at name)) (filter-filter (is_in state) (λ c. c.ns == ns) cells)
      ∙ filter_map-filter (weak_at name) (λ c. is_in state c && c.ns == ns) cells)

  -- the cells by the order of the namespaces, or one namespace after the other
  pub nearest_is : (spaces : List ℕ) (cells : List SpaceCell) → nearest_provider_by of_called spaces name (filter (is_in state) cells) ≡ nearest_in spaces state name cells
  nearest_is [] cells = refl
  nearest_is (ns ∷ spaces) cells =
      let here : List SpaceCell = filter (λ c. c.ns == ns) (filter (is_in state) cells) in
      let rest : List SpaceCell = by_spaces_by of_called spaces (filter (is_in state) cells) in
      ap first (filter_map-append (weak_at name) here rest)
      ∙ first-append (filter_map (weak_at name) here) (filter_map (weak_at name) rest)
      ∙ ap₂ (λ (a b : Option Provider). or_else a b) (one_space ns cells) (nearest_is spaces cells)

  -- present cells, and new ones behind them
  pub weak_in-append : (ns : ℕ) (xs ys : List SpaceCell) → weak_in ns state name (xs ++ ys) ≡ or_else (weak_in ns state name xs) (weak_in ns state name ys)
  weak_in-append ns xs ys =
      ap first (filter_map-append (weak_offer ns state name) xs ys)
      ∙ first-append (filter_map (weak_offer ns state name) xs) (filter_map (weak_offer ns state name) ys)

-- the weak holder that the rules name
pub weak_provider_is : (spaces : List ℕ) (state : Standing) (name : List ℕ) (cells : List SpaceCell)
    → weak_provider spaces state name cells ≡ or_else (nearest_aside spaces state name cells) (nearest_in spaces Attached name cells)
weak_provider_is spaces Attached name cells = nearest_is Attached name spaces cells
weak_provider_is spaces (Detached k) name cells = ap₂ (λ (a b : Option Provider). or_else a b) (nearest_is (Detached k) name spaces cells) (nearest_is Attached name spaces cells)

module _ (k : ℕ) (name : List ℕ) where
  -- no attached cell is put aside
  none_in : (ns : ℕ) (cells : List SpaceCell) → All (λ c. is_in Attached c ≡ true) cells → weak_in ns (Detached k) name cells ≡ None
  none_in ns [] all = refl
  none_in ns (c ∷ cells) all =
      ap (λ b. first (cons_option (cond (b && c.ns == ns) (weak_at name c) None) (filter_map (weak_offer ns (Detached k) name) cells)))
      (other c.state (All-head (λ (d : SpaceCell). is_in Attached d ≡ true) c cells all))
      ∙ none_in ns cells (All-tail (λ (d : SpaceCell). is_in Attached d ≡ true) c cells all)
    where
      other : (state : Standing) → is_state Attached state ≡ true → is_state (Detached k) state ≡ false
      other Attached on = refl
      other (Detached l) on = absurd (cc on)

  group_present : (spaces : List ℕ) (xs ys : List SpaceCell) → All (λ c. is_in Attached c ≡ true) ys → nearest_in spaces (Detached k) name (xs ++ ys) ≡ nearest_in spaces (Detached k) name xs
  group_present [] xs ys on = refl
  group_present (ns ∷ spaces) xs ys on =
      ap₂ (λ (a b : Option Provider). or_else a b)
      (weak_in-append (Detached k) name ns xs ys ∙ or_none (weak_in ns (Detached k) name xs) (weak_in ns (Detached k) name ys) (none_in ns ys on))
      (group_present spaces xs ys on)

-- the new cells are in no group
pub aside_present : (spaces : List ℕ) (state : Standing) (name : List ℕ) (xs ys : List SpaceCell) → All (λ c. is_in Attached c ≡ true) ys
    → nearest_aside spaces state name (xs ++ ys) ≡ nearest_aside spaces state name xs
aside_present spaces Attached name xs ys on = refl
aside_present spaces (Detached k) name xs ys on = group_present k name spaces xs ys on

-- what the index finds in a namespace
module _ (ns : ℕ) (name : List ℕ) where
  abbrev pub held_weakly : SpaceCell → ℕ → Provider
  held_weakly c symbol = record { cell = c.cell.0; symbol = symbol }

  one_found : (h b : Bool) (o : Option ℕ) (c : SpaceCell) (cells : List SpaceCell) (found : Option SpaceCell) → symbol_in c.weak name ≡ o → is_some o ≡ b
      → weak_in ns Attached name cells ≡ option_and_then (weak_at name) found
      → first (cons_option (cond h (option_map (held_weakly c) o) None) (filter_map (weak_offer ns Attached name) cells)) ≡ option_and_then (weak_at name) (cond (h && b) (Some c) found)
  one_found true true None c cells found is e rest = absurd (cc e)
  one_found true false None c cells found is e rest = rest
  one_found true true (Some s) c cells found is e rest = sym (ap (option_map (held_weakly c)) is)
  one_found true false (Some s) c cells found is e rest = absurd (cc e)
  one_found false b o c cells found is e rest = rest

  pub weak_found : (cells : List SpaceCell) → weak_in ns Attached name cells ≡ option_and_then (weak_at name) (find (is_at ns Weak name) cells)
  weak_found [] = refl
  weak_found (c ∷ cells) =
      one_found (is_in Attached c && c.ns == ns) (has_name c.weak name) (symbol_in c.weak name) c cells (find (is_at ns Weak name) cells) refl (is_some_symbol c.weak name) (weak_found cells)

some_first : (a b : Option Provider) → is_some a ≡ true → is_some (or_else a b) ≡ true
some_first (Some p) b e = refl
some_first None b e = absurd (cc e)

either_more : (a b c d : Option Provider) → (is_some a ≡ true → is_some c ≡ true) → (is_some b ≡ true → is_some d ≡ true) → is_some (or_else a b) ≡ true → is_some (or_else c d) ≡ true
either_more (Some p) b c d f g e = some_first c d (f refl)
either_more None b (Some q) d f g e = refl
either_more None b None d f g e = g e

weak_more : (spaces : List ℕ) (state : Standing) (name : List ℕ) (xs ys : List SpaceCell) → is_some (nearest_in spaces state name xs) ≡ true → is_some (nearest_in spaces state name (xs ++ ys)) ≡ true
weak_more [] state name xs ys e = e
weak_more (ns ∷ spaces) state name xs ys e =
    either_more (weak_in ns state name xs) (nearest_in spaces state name xs) (weak_in ns state name (xs ++ ys)) (nearest_in spaces state name (xs ++ ys))
    (λ some. ap is_some (weak_in-append state name ns xs ys) ∙ some_first (weak_in ns state name xs) (weak_in ns state name ys) some)
    (weak_more spaces state name xs ys) e

-- what attached cells are provided with, they are provided with where there are more cells
pub provided_more : (spaces : List ℕ) (name : List ℕ) (xs ys : List SpaceCell) → is_some (provider_for spaces Attached name xs) ≡ true → is_some (provider_for spaces Attached name (xs ++ ys)) ≡ true
provided_more spaces name xs ys e =
    either_more (strong_provider spaces Attached name xs) (weak_provider spaces Attached name xs) (strong_provider spaces Attached name (xs ++ ys)) (weak_provider spaces Attached name (xs ++ ys))
    (λ some. ap is_some (first_provider-append spaces Attached name xs ys) ∙ some_first (strong_provider spaces Attached name xs) (strong_provider spaces Attached name ys) some)
    (λ some. ap is_some (nearest_is Attached name spaces (xs ++ ys)) ∙ weak_more spaces Attached name xs ys (sym (ap is_some (nearest_is Attached name spaces xs)) ∙ some))
    e
