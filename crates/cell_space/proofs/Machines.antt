-- What the spaces say of cells is what the machine says of them.
use Rattle.std.proofs.Common.{◌≡◌, ℕ, Bool, true, false, cond, List, [], ◌∷◌, ◌++◌, Some, refl, ap, ap₂, ◌∙◌}
use Rattle.std.specs.Prelude.{Option, find, filter, filter_map, map, option_map, ◌&&◌, ◌==◌}
use Rattle.std.specs.List.{cons_option}
use Rattle.cell_num.specs.Lists.{first, equals, holds, or_else}
use Rattle.cell_num.proofs.Sublists.{map_filter}
use Rattle.std.proofs.lemmas.List.{map-append}
use Rattle.cell_world.specs.World.{World, Cell, Standing, is_attached, is_of_group}
use Rattle.cell_world.specs.declared.state.Standing.TheVariants.{Attached, Detached}
use Rattle.cell_world.specs.Names as names
use Rattle.cell_world.specs.Names.{Provider, chain, are_on_one_path, by_spaces_by, first_provider_by, nearest_provider_by, of_cell, has_name}
use Rattle.cell_space.specs.declared.cell.SpaceCell.{SpaceCell}
use Rattle.cell_space.specs.Named.{of_called, provider_at, provider_for, strong_provider, weak_provider, clash_stem, clash_name, cell_at, number_of}
use Rattle.cell_space.specs.Nearest.{weak_at}
use Rattle.cell_space.specs.Machine.{called}

filter_map-map : {X Y Z : Type 0} (g : X → Y) (f : Y → Option Z) (xs : List X) → filter_map (λ x. f (g x)) xs ≡ filter_map f (map g xs)
filter_map-map g f [] = refl
filter_map-map g f (x ∷ xs) = ap (cons_option (f (g x))) (filter_map-map g f xs)

-- the number of the first that passes
numbered : (p : SpaceCell → Bool) (cells : List Cell) → option_map (λ c. c.id.0) (find (λ c. p (called c)) cells) ≡ number_of (find p (map called cells))
numbered p [] = refl
numbered p (c ∷ cells) = go (p (called c)) (numbered p cells)
  where
    go : (b : Bool) → option_map (λ c. c.id.0) (find (λ c. p (called c)) cells) ≡ number_of (find p (map called cells))
        → option_map (λ c. c.id.0) (cond b (Some c) (find (λ c. p (called c)) cells)) ≡ number_of (cond b (Some (called c)) (find p (map called cells)))
    go true e = refl
    go false e = e

-- the cells by the order of the namespaces
by_spaces-called : (spaces : List ℕ) (cells : List Cell) → map called (by_spaces_by of_cell spaces cells) ≡ by_spaces_by of_called spaces (map called cells)
by_spaces-called [] cells = refl
by_spaces-called (ns ∷ spaces) cells =
    map-append called (filter (λ c. c.ns == ns) cells) (by_spaces_by of_cell spaces cells)
    ∙ ap₂ (λ (front rest : List SpaceCell). front ++ rest) (map_filter called (λ c. c.ns == ns) cells) (by_spaces-called spaces cells)

module _ (w : World) (ns : ℕ) (name : List ℕ) where
  abbrev cells : List SpaceCell
  cells = map called w.cells

  asked : (p : Standing → Bool) → names.first_provider (chain w.namespaces ns) name (filter (λ c. p c.standing) w.cells) ≡ first_provider_by of_called (chain w.namespaces ns) name (filter (λ c. p c.state) cells)
  asked p =
      let in_spaces : SpaceCell → Bool = λ c. holds (chain w.namespaces ns) c.ns in
      ap first (
      filter_map-map called (provider_at name) (filter (λ c. in_spaces (called c)) (filter (λ c. p c.standing) w.cells))
      ∙ ap (filter_map (provider_at name)) (map_filter called in_spaces (filter (λ c. p c.standing) w.cells) ∙ ap (filter in_spaces) (map_filter called (λ c. p c.state) w.cells)))

  -- the strong holder for a cell of that standing
  pub strong_provider-called : (s : Standing) → names.strong_provider w s ns name ≡ strong_provider (chain w.namespaces ns) s name cells
  strong_provider-called Attached = asked is_attached
  strong_provider-called (Detached k) = ap₂ (λ (a b : Option Provider). or_else a b) (asked (is_of_group k)) (asked is_attached)

  nearest : (p : Standing → Bool) → names.nearest_provider (chain w.namespaces ns) name (filter (λ c. p c.standing) w.cells) ≡ nearest_provider_by of_called (chain w.namespaces ns) name (filter (λ c. p c.state) cells)
  nearest p =
      let way : List ℕ = chain w.namespaces ns in
      let those : List Cell = filter (λ c. p c.standing) w.cells in
      ap first (
      filter_map-map called (weak_at name) (by_spaces_by of_cell way those)
      ∙ ap (filter_map (weak_at name)) (by_spaces-called way those ∙ ap (by_spaces_by of_called way) (map_filter called (λ c. p c.state) w.cells)))

  -- the weak one
  pub weak_provider-called : (s : Standing) → names.weak_provider w s ns name ≡ weak_provider (chain w.namespaces ns) s name cells
  weak_provider-called Attached = nearest is_attached
  weak_provider-called (Detached k) = ap₂ (λ (a b : Option Provider). or_else a b) (nearest (is_of_group k)) (nearest is_attached)

  -- and whoever provides the name
  pub provider_for-called : (s : Standing) → names.provider_for w s ns name ≡ provider_for (chain w.namespaces ns) s name cells
  provider_for-called s = ap₂ (λ (a b : Option Provider). or_else a b) (strong_provider-called s) (weak_provider-called s)

  rivals-called : (p : SpaceCell → Bool) → option_map (λ c. c.id.0) (find (λ c. p (called c)) (names.rivals w ns)) ≡ number_of (find p (names.rivals_by of_called w.namespaces ns cells))
  rivals-called p = numbered p (names.rivals w ns) ∙ ap (λ cs. number_of (find p cs)) (map_filter called (λ c. is_attached c.state && are_on_one_path w.namespaces ns c.ns) w.cells)

  pub clash_stem-called : names.clash_stem w ns name ≡ clash_stem w.namespaces ns name cells
  clash_stem-called = rivals-called (λ c. equals c.stem name)

  pub clash_name-called : names.clash_name w ns name ≡ clash_name w.namespaces ns name cells
  clash_name-called = rivals-called (λ c. has_name c.names name)

  pub cell_at-called : option_map (λ c. c.id.0) (names.cell_at w ns name) ≡ cell_at ns name cells
  cell_at-called = numbered (λ c. is_attached c.state && c.ns == ns && equals c.stem name) w.cells
