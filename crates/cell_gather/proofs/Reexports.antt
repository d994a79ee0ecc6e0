-- The names that new cells take on, as the definitions say it of a machine and as the spaces do.
use Rattle.std.proofs.Common.{◌≡◌, refl, sym, ◌∙◌, ap, ap₂, arith, ℕ, suc, ◌+◌, ◌<◌, ◌≤◌, Bool, true, false, cond, List, [], ◌∷◌, ◌++◌, length, map}
use Rattle.std.specs.Prelude.{All, Option, Some, None, ◌==◌, find, fold, is_some, option_and_then, option_map}
use Rattle.std.specs.List.{cons_option}
use Rattle.std.specs.Option.{option_or}
use Rattle.std.proofs.lemmas.Bool.Decides.{nat_tests}
use Rattle.std.proofs.lemmas.List.{length-map, map-append}
use Rattle.std.proofs.lemmas.List.Elements.{All-head, All-same, All-tail}
use Rattle.std.proofs.lemmas.List.Folds.{find-append}
use Rattle.cell_num.specs.declared.ids.CellId.{CellId}
use Rattle.cell_world.specs.Reexport.{Exchange, heir_of, successor_of, take_on, with_alias, with_reexports}
use Rattle.cell_world.specs.World.{World, Alias, Cell, cell_of}
use Rattle.cell_world.specs.Names.{names_of, weak_symbol_named}
use Rattle.cell_space.specs.declared.cell.SpaceCell.{SpaceCell}
use Rattle.cell_space.specs.Machine.{called}
use Rattle.cell_space.specs.Named.{cell_numbered}
use Rattle.cell_space.specs.Spaces.{SpacesState}
use Rattle.cell_gather.specs.declared.want.Want.{Want}
use Rattle.cell_world.specs.Gather.{grown}
use Rattle.cell_gather.specs.Gathering.{IsOf, exchanges_from, renamed}
use Rattle.cell_gather.specs.Growing.{with_new}
use Rattle.cell_gather.specs.Renaming.{hand_on_now, heir_now, new_numbered, renamed_now, take_all_now, take_now}
use Rattle.cell_gather.proofs.Worlds.{clash_name_is, grown_is, remade}

and_then_same : {X Y : Type 0} (f g : X → Option Y) → ((x : X) → f x ≡ g x) → (o : Option X) → option_and_then f o ≡ option_and_then g o
and_then_same f g e None = refl
and_then_same f g e (Some x) = e x

lower_differs : (a b : ℕ) → a < b → (a == b) ≡ false
lower_differs a b lt = grind (arith, nat_tests)

-- cells of lower numbers
module _ (n : ℕ) where
  none_lower : (cells : List Cell) → All (λ c. c.cell.0 < n) (map called cells) → find (λ c. c.id.0 == n) cells ≡ None
  none_lower [] all = refl
  none_lower (c ∷ cells) all =
      ap (λ b. cond b (Some c) (find (λ d. d.id.0 == n) cells)) (lower_differs c.id.0 n (All-head (λ (s : SpaceCell). s.cell.0 < n) (called c) (map called cells) all))
      ∙ none_lower cells (All-tail (λ (s : SpaceCell). s.cell.0 < n) (called c) (map called cells) all)

  lower_stay : (a : Alias) (cells : List Cell) → All (λ c. c.cell.0 < n) (map called cells) → map (with_alias n a) cells ≡ cells
  lower_stay a [] all = refl
  lower_stay a (c ∷ cells) all =
      ap (λ b. cond b (record c { aliases = c.aliases ++ a ∷ [] }) c ∷ map (with_alias n a) cells) (lower_differs c.id.0 n (All-head (λ (s : SpaceCell). s.cell.0 < n) (called c) (map called cells) all))
      ∙ ap (λ (rest : List Cell). c ∷ rest) (lower_stay a cells (All-tail (λ (s : SpaceCell). s.cell.0 < n) (called c) (map called cells) all))

below_more : (a b : ℕ) (cells : List SpaceCell) → a ≤ b → All (λ c. c.cell.0 < a) cells → All (λ c. c.cell.0 < b) cells
below_more a b cells le all = λ k d lt. let h = all k d lt in omega (arith, h, le)

number_called : (id : ℕ) (cells : List Cell) → cell_numbered (map called cells) id ≡ option_map called (find (λ c. c.id.0 == id) cells)
number_called id [] = refl
number_called id (c ∷ cells) = by (c.id.0 == id) (number_called id cells)
  where
    by : (b : Bool) → cell_numbered (map called cells) id ≡ option_map called (find (λ d. d.id.0 == id) cells) → cond b (Some (called c)) (cell_numbered (map called cells) id) ≡ option_map called (cond b (Some c) (find (λ d. d.id.0 == id) cells))
    by true e = refl
    by false e = e

module _ (spaces : SpacesState) (next : ℕ) (given : All (λ c. c.cell.0 < next) spaces.cells) (w : World) (is : IsOf spaces next w) where
  module _ (n : ℕ) (high : next ≤ n) where
    below : All (λ c. c.cell.0 < n) (map called w.cells)
    below = below_more next n (map called w.cells) high (All-same (λ (c : SpaceCell). c.cell.0 < next) (map called w.cells) spaces.cells is.cells given)

    cell_is : (cells : List Cell) → cell_of (grown w cells) n ≡ new_numbered cells n
    cell_is cells = find-append (λ (c : Cell). c.id.0 == n) w.cells cells ∙ ap (λ (o : Option Cell). option_or o (new_numbered cells n)) (none_lower n w.cells below)

    heir_is : (cells : List Cell) (name : List ℕ) (c : Cell) → heir_of (grown w cells) c name ≡ heir_now spaces cells c name
    heir_is cells name c =
        ap (λ (o : Option ℕ). cond (is_some (weak_symbol_named c name)) None (elim o as (λ _. Option ℕ) [ None ↦ successor_of c name | Some holder ↦ None ]))
        (clash_name_is (with_new spaces cells) (next + length cells) (grown w cells) (grown_is spaces next w is cells) c.ns name)

    changed : (a : Alias) (cells : List Cell) → (let v : World = record (grown w cells) { cells = map (with_alias n a) (w.cells ++ cells) } in v) ≡ grown w (map (with_alias n a) cells)
    changed a cells =
        ap₂ (λ (cs : List Cell) (m : ℕ). remade w cs m)
        (map-append (with_alias n a) w.cells cells ∙ ap (λ (front : List Cell). front ++ map (with_alias n a) cells) (lower_stay n a w.cells below))
        (ap (λ (m : ℕ). w.next_cell + m) (sym (length-map cells (with_alias n a))))

    abbrev takes : List Cell → List ℕ → Option ℕ → World
    takes cells name o = elim o as (λ _. World) [ None ↦ grown w cells | Some symbol ↦ record (grown w cells) { cells = map (with_alias n (record { name = name; symbol = symbol })) (w.cells ++ cells) } ]

    taken : (cells : List Cell) (name : List ℕ) (o : Option ℕ) → takes cells name o ≡ grown w (elim o as (λ _. List Cell) [ None ↦ cells | Some symbol ↦ map (with_alias n (record { name = name; symbol = symbol })) cells ])
    taken cells name None = refl
    taken cells name (Some symbol) = changed (record { name = name; symbol = symbol }) cells

    one_is : (a : Alias) (cells : List Cell) → take_on n (grown w cells) a ≡ grown w (take_now spaces n cells a.name)
    one_is a cells =
        ap (takes cells a.name)
        (ap (option_and_then (λ (c : Cell). heir_of (grown w cells) c a.name)) (cell_is cells)
        ∙ and_then_same (λ (c : Cell). heir_of (grown w cells) c a.name) (λ (c : Cell). heir_now spaces cells c a.name) (heir_is cells a.name) (new_numbered cells n))
        ∙ taken cells a.name (option_and_then (λ (c : Cell). heir_now spaces cells c a.name) (new_numbered cells n))

    all_is : (names : List Alias) (cells : List Cell) → fold (take_on n) (grown w cells) names ≡ grown w (take_all_now spaces n cells names)
    all_is [] cells = refl
    all_is (a ∷ names) cells = ap (λ (v : World). fold (take_on n) v names) (one_is a cells) ∙ all_is names (take_now spaces n cells a.name)

    abbrev handed : List Cell → Option SpaceCell → List Cell
    handed cells o = elim o as (λ _. List Cell) [ None ↦ cells | Some old ↦ take_all_now spaces n cells old.names ]

    abbrev exchanged : Option Cell → Option Exchange
    exchanged o = option_map (λ old. record { old = old; fresh = n }) o

    old_is : (cells : List Cell) (o : Option Cell) (rest : List Exchange) → with_reexports (grown w cells) (cons_option (exchanged o) rest) ≡ with_reexports (grown w (handed cells (option_map called o))) rest
    old_is cells None rest = refl
    old_is cells (Some old) rest = ap (λ (v : World). with_reexports v rest) (all_is (names_of old) cells)

    want_is : (cells : List Cell) (o : Option CellId) (rest : List Exchange)
        → with_reexports (grown w cells) (cons_option (exchanged (option_and_then (λ (id : CellId). cell_of w id.0) o)) rest)
        ≡ with_reexports (grown w (handed cells (option_and_then (λ (id : CellId). cell_numbered spaces.cells id.0) o))) rest
    want_is cells None rest = refl
    want_is cells (Some id) rest =
        old_is cells (cell_of w id.0) rest
        ∙ ap (λ (o : Option SpaceCell). with_reexports (grown w (handed cells o)) rest)
        (sym (number_called id.0 w.cells) ∙ ap (λ (cs : List SpaceCell). cell_numbered cs id.0) is.cells)

  wants_are : (wants : List Want) (n : ℕ) → next ≤ n → (cells : List Cell) → with_reexports (grown w cells) (exchanges_from w n wants) ≡ grown w (renamed_now spaces n cells wants)
  wants_are [] n high cells = refl
  wants_are (want ∷ wants) n high cells =
      want_is n high cells want.replaces (exchanges_from w (suc n) wants)
      ∙ wants_are wants (suc n) (omega (arith, high)) (hand_on_now spaces n cells want)

  -- the names of all cells that are replaced
  pub renamed_are : (wants : List Want) (cells : List Cell) → renamed w wants true (grown w cells) ≡ grown w (renamed_now spaces next cells wants)
  renamed_are wants cells =
      ap (λ (n : ℕ). with_reexports (grown w cells) (exchanges_from w n wants)) is.number ∙ wants_are wants next (omega arith) cells
