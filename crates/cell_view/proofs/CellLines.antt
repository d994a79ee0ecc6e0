-- The lines of one cell, by its place.
use Rattle.std.proofs.Common.{◌≡◌, refl, sym, ◌∙◌, ap, ap₂, arith, ℕ, suc, ◌≤◌, Bool, true, false, cond, List, [], ◌∷◌, ◌++◌, length, take, drop, map, append_assoc, append-nil}
use Rattle.std.specs.Prelude.{Option, Some, filter, filter_map, is_some, option_map}
use Rattle.std.proofs.lemmas.List.{length-map, take_all}
use Rattle.cell_num.specs.Lists.{numbered_from, In}
use Rattle.cell_object.specs.declared.object.Symbol.{Symbol}
use Rattle.cell_world.specs.declared.state.NewCell.{NewCell}
use Rattle.cell_world.specs.Commands.MapCommand.{group_of}
use Rattle.cell_world.specs.Names.{definitions_of, is_definition, names_of}
use Rattle.cell_world.specs.World.{World, Cell, Alias, is_attached}
use Rattle.cell_world.specs.declared.state.Standing.{Standing}
use Rattle.cell_world.specs.declared.state.Standing.TheVariants.{Attached, Detached}
use Rattle.cell_world.specs.declared.line.DumpLine.{DumpLine}
use Rattle.cell_world.specs.declared.line.DumpLine.TheVariants.{Cell as CellLine}
use Rattle.cell_world.specs.DumpLines.{alias_line, cell_lines, provider_line, provider_lines}
use Rattle.cell_space.specs.declared.cell.SpaceCell.{SpaceCell}
use Rattle.cell_space.specs.Joined.{placed_of}
use Rattle.cell_space.specs.Named.{cell_numbered}
use Rattle.cell_machine.specs.declared.machine.Machine.{Machine}
use Rattle.cell_machine.specs.Machine.{IsSound, world_of}
use Rattle.cell_machine.proofs.States.{known_at}
use Rattle.cell_view.specs.Whole.{alias_shown, names_shown, place_shown}

some_same : {X : Type 0} (x y : X) → Some x ≡ (let o : Option X = Some y in o) → x ≡ y
some_same x y h = cc

module _ (m : Machine) (sound : IsSound m) where
  -- the names that the spaces tell are the cell's
  pub names_told : (d : Cell) → In d (world_of m).cells → (p : NewCell) → d.placed ≡ p → (names : List Alias) → option_map (λ (c : SpaceCell). c.names) (cell_numbered m.spaces.cells p.id.0) ≡ Some names → names ≡ names_of d
  names_told d i p same names told =
      some_same names (names_of d)
      (sym told
      ∙ (ap (λ (x : NewCell). option_map (λ (c : SpaceCell). c.names) (cell_numbered m.spaces.cells x.id.0)) (sym same) ∙ ap (option_map (λ (c : SpaceCell). c.names)) (known_at m sound d i)))

  -- as many cells as places
  pub all_taken : (i : ℕ) → length m.cells.items ≤ i → take i (world_of m).cells ≡ (world_of m).cells
  all_taken i le = take_all i (world_of m).cells (omega (arith, le, length-map (world_of m).cells placed_of, ap length sound.joined.placed))

abbrev as_alias : ℕ × Symbol → Alias
as_alias p = record { name = p.1.name; symbol = p.0 }

abbrev defined_from : ℕ → List Symbol → List (ℕ × Symbol)
defined_from n symbols = filter (λ p. is_definition p.1) (numbered_from n symbols)

-- so many names are definitions
counted : (n : ℕ) (symbols : List Symbol) → length (map as_alias (defined_from n symbols)) ≡ length (filter is_definition symbols)
counted n [] = refl
counted n (s ∷ symbols) = go (is_definition s) (counted (suc n) symbols)
  where
    go : (b : Bool) → length (map as_alias (defined_from (suc n) symbols)) ≡ length (filter is_definition symbols)
        → length (map as_alias (cond b ((n, s) ∷ defined_from (suc n) symbols) (defined_from (suc n) symbols))) ≡ length (cond b (s ∷ filter is_definition symbols) (filter is_definition symbols))
    go true e = ap suc e
    go false e = e

behind : {X : Type 0} (xs ys : List X) → drop (length xs) (xs ++ ys) ≡ ys
behind [] ys = refl
behind (x ∷ xs) ys = behind xs ys

-- behind the definitions stand the further names
pub aliases_behind : (d : Cell) (p : NewCell) → d.placed ≡ p → (names : List Alias) (count : ℕ) → names ≡ names_of d → count ≡ length (filter is_definition p.object.symbols) → drop count names ≡ d.aliases
aliases_behind d p same names count told is =
    ap (drop count) told
    ∙ (ap (λ n. drop n (names_of d)) (is ∙ (ap (λ (x : NewCell). length (filter is_definition x.object.symbols)) (sym same) ∙ sym (counted 1 d.object.symbols)))
    ∙ behind (definitions_of d.object) d.aliases)

-- and so do their lines
pub aliases_added : (d : Cell) (p : NewCell) → d.placed ≡ p → (names : List Alias) (count : ℕ) (old new : List DumpLine) → names ≡ names_of d → count ≡ length (filter is_definition p.object.symbols)
    → new ≡ old ++ map (alias_shown p.id.0) (drop count names) → new ≡ old ++ map (alias_line d) d.aliases
aliases_added d p same names count old new told is added =
    added
    ∙ (ap (λ (xs : List Alias). old ++ map (alias_shown p.id.0) xs) (aliases_behind d p same names count told is)
    ∙ ap (λ (x : NewCell). old ++ map (alias_shown x.id.0) d.aliases) (sym same))

-- the line of a cell
pub line_by_place : (d : Cell) (p : NewCell) → d.placed ≡ p → (cell ns : ℕ) (stem file : List ℕ) (group : Option ℕ) → cell ≡ p.id.0 → ns ≡ p.ns → stem ≡ p.stem → file ≡ p.file → group ≡ group_of d.standing
    → CellLine cell ns stem file group ≡ CellLine d.id.0 d.ns d.stem d.file (group_of d.standing)
line_by_place d p same cell ns stem file group cell_is ns_is stem_is file_is group_is =
    ap₂ (λ m n. CellLine m n stem file group) cell_is ns_is
    ∙ (ap₂ (λ (x y : List ℕ). CellLine p.id.0 p.ns x y group) stem_is file_is
    ∙ (ap (λ (x : Option ℕ). CellLine p.id.0 p.ns p.stem p.file x) group_is
    ∙ ap (λ (x : NewCell). CellLine x.id.0 x.ns x.stem x.file (group_of d.standing)) (sym same)))

abbrev places : NewCell → List DumpLine
places c = map (place_shown c) c.object.sections

abbrev further : Cell → List DumpLine
further d = map (alias_line d) d.aliases

-- and those of its sections and further names behind it
pub cell_added : (d : Cell) (p : NewCell) → d.placed ≡ p → (line : DumpLine) (old one two new : List DumpLine) → line ≡ CellLine d.id.0 d.ns d.stem d.file (group_of d.standing)
    → one ≡ old ++ line ∷ [] → two ≡ one ++ map (place_shown p) p.object.sections → new ≡ two ++ map (alias_line d) d.aliases → new ≡ old ++ cell_lines d
cell_added d p same line old one two new line_is one_is two_is new_is =
    new_is
    ∙ (ap (λ (v : List DumpLine). v ++ further d) (two_is ∙ (ap (λ (v : List DumpLine). v ++ places p) one_is ∙ append_assoc old (line ∷ []) (places p)))
    ∙ (append_assoc old (line ∷ places p) (further d)
    ∙ (ap (λ (x : NewCell). old ++ (line ∷ (places x ++ further d))) (sym same) ∙ ap (λ (x : DumpLine). old ++ (x ∷ (places d.placed ++ further d))) line_is)))

-- a cell that was put aside has no names to show
pub none_shown : (w : World) (d : Cell) (group : Option ℕ) (old : List DumpLine) → group ≡ group_of d.standing → is_some group ≡ true → old ≡ old ++ names_shown w d
none_shown w d group old is some = sym (append-nil old) ∙ ap (λ (ls : List DumpLine). old ++ ls) (go d.standing (sym (ap is_some is) ∙ some))
  where
    go : (s : Standing) → is_some (group_of s) ≡ true → [] ≡ cond (is_attached s) (provider_lines w d) []
    go Attached e = absurd cc
    go (Detached k) e = refl

-- an attached one shows each
pub names_added : (w : World) (d : Cell) (p : NewCell) → d.placed ≡ p → (group : Option ℕ) (names : List Alias) (old new : List DumpLine) → group ≡ group_of d.standing → is_some group ≡ false → names ≡ names_of d
    → new ≡ old ++ filter_map (λ (a : Alias). provider_line w p.ns a.name) names → new ≡ old ++ names_shown w d
names_added w d p same group names old new is none told added =
    added
    ∙ (ap (λ (xs : List Alias). old ++ filter_map (λ (a : Alias). provider_line w p.ns a.name) xs) told
    ∙ (ap (λ (x : NewCell). old ++ filter_map (λ (a : Alias). provider_line w x.ns a.name) (names_of d)) (sym same)
    ∙ ap (λ (ls : List DumpLine). old ++ ls) (go d.standing (sym (ap is_some is) ∙ none))))
  where
    go : (s : Standing) → is_some (group_of s) ≡ false → provider_lines w d ≡ cond (is_attached s) (provider_lines w d) []
    go Attached e = refl
    go (Detached k) e = absurd cc
