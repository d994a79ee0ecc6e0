-- The originals of copies, as the machine has them, are the cells of the definition.
use Rattle.std.proofs.Common.{◌≡◌, refl, sym, ◌∙◌, ap, ap₂, subst, inl, inr, ℕ, suc, ◌<◌, List, [], ◌∷◌, ◌++◌, length, map, take, drop}
use Rattle.std.specs.Prelude.{All, IsSome, IsTrue, Option, None, Some, find, nat_lt, option_map, ◌==◌}
use Rattle.std.proofs.lemmas.List.Elements.{All-cons, All-nil}
use Rattle.cell_num.specs.Lists.{In, each_pair}
use Rattle.cell_num.proofs.Elements.{All-In, map-In, pairs-map}
use Rattle.cell_world.specs.declared.file.File.{File}
use Rattle.cell_world.specs.declared.state.NewCell.{NewCell}
use Rattle.cell_world.specs.declared.state.Standing.TheVariants.{Detached}
use Rattle.cell_world.specs.declared.state.Namespace.{Namespace}
use Rattle.cell_world.specs.Change.{Copy, append_copy}
use Rattle.cell_world.specs.Coherent.{IsLoadable}
use Rattle.cell_world.specs.Names.{definitions_of, names_of}
use Rattle.cell_world.specs.Outcome.{Outcome}
use Rattle.cell_world.specs.World.{Alias, Cell, World, cell_of}
use Rattle.cell_lemmas.proofs.Fields.Values.{find_map}
use Rattle.cell_lemmas.proofs.Targeting.Detached.{put, put_same}
use Rattle.cell_lemmas.proofs.Targeting.Targets.{In-find}
use Rattle.cell_change_law.proofs.Gathering.{at}
use Rattle.cell_space.specs.Joined.{placed_of}
use Rattle.cell_space.specs.Machine.{called}
use Rattle.cell_space.specs.Named.{cell_numbered, is_numbered}
use Rattle.cell_space.specs.declared.cell.SpaceCell.{SpaceCell}
use Rattle.cell_gather.specs.declared.copies.Original.{Original}
use Rattle.cell_gather.specs.Copying.{IsKnown, append_original}
use Rattle.cell_machine.specs.declared.machine.Machine.{Machine}
use Rattle.cell_change.specs.declared.request.CellCopy.{CellCopy}
use Rattle.cell_change.specs.declared.request.Change.{Change}
use Rattle.cell_change.specs.Copying.{AreOriginals, IsOriginal, IsPresent}
use Rattle.cell_change.specs.Planning.{IsBegun, wish}
use Rattle.cell_change.proofs.Decision.Began.{are, aside_is, called_are, good, h, like, old, parts, sources, u, v}

drop_front : {X : Type 0} (xs ys : List X) → drop (length xs) (xs ++ ys) ≡ ys
drop_front [] ys = refl
drop_front (x ∷ xs) ys = drop_front xs ys

has_of : {X : Type 0} (o : Option X) (x : X) → o ≡ Some x → IsSome o
has_of None x e = absurd (cc e)
has_of (Some y) x e = refl

some_same : {X : Type 0} (x y : X) → (let one : Option X = Some x in one ≡ Some y) → x ≡ y
some_same x y e = cc

-- one original more, for one copy more
pub one_more_original : (m : Machine) (list : List CellCopy) (all : List Original) (copy : CellCopy) (o : Original) → AreOriginals m list all → IsOriginal m copy o → AreOriginals m (list ++ copy ∷ []) (all ++ o ∷ [])
one_more_original m [] [] copy o _ is = (is, tt)
one_more_original m [] (p ∷ all) copy o are is = absurd are
one_more_original m (x ∷ list) [] copy o are is = absurd are
one_more_original m (x ∷ list) (p ∷ all) copy o are is = (are.0, one_more_original m list all copy o are.1 is)

module _ (files : List File) (asked : Change) (m : Machine) (b : IsBegun files asked m) (c : Copy) (i : In c.original (v files asked m b).cells) where
  abbrev pub n : ℕ
  n = c.original.id.0

  -- the original, as it stands once the old cells are put aside
  abbrev pub aside : Cell
  aside = put (suc (v files asked m b).swaps) (old files asked m b) c.original

  same : {A : Type 0} (f : Cell → A) → ((k : ℕ) → f (record c.original { standing = Detached k }) ≡ f c.original) → f aside ≡ f c.original
  same f e = put_same (suc (v files asked m b).swaps) (old files asked m b) f c.original (e (suc (v files asked m b).swaps))

  there : cell_of (u files asked m b) n ≡ Some aside
  there =
      ap (cell_of (u files asked m b)) (sym (same (λ (x : Cell). x.id.0) (λ k. refl)))
      ∙ In-find (u files asked m b).cells (at (sources files asked m b) (are files asked m b) (v files asked m b) (h files asked m b) (wish b) (good files asked m b)).ranks.order aside
      (map-In (put (suc (v files asked m b).swaps) (old files asked m b)) (v files asked m b).cells c.original i)

  placed_are : map placed_of (u files asked m b).cells ≡ m.cells.items
  placed_are = ap (λ (w : World). map placed_of w.cells) (sym (aside_is files asked m b)) ∙ (parts files asked m b).joined.placed

  order : IsTrue (each_pair (λ a b. nat_lt a.id.0 b.id.0) m.cells.items)
  order =
      subst (λ (cs : List NewCell). IsTrue (each_pair (λ a b. nat_lt a.id.0 b.id.0) cs)) (sym (like files asked m b).cells)
      (pairs-map (λ (a b : NewCell). nat_lt a.id.0 b.id.0) placed_of (v files asked m b).cells ∙ (h files asked m b).ready.cell_order)

  -- its place and its names, as the machine has them
  pub placed_there : find (λ (x : NewCell). x.id.0 == n) m.cells.items ≡ Some c.original.placed
  placed_there =
      ap (find (λ (x : NewCell). x.id.0 == n)) (sym placed_are)
      ∙ find_map (λ (x : NewCell). x.id.0 == n) placed_of (u files asked m b).cells
      ∙ ap (option_map placed_of) there
      ∙ ap (λ (p : NewCell). Some p) (same placed_of (λ k. refl))

  pub called_there : cell_numbered m.spaces.cells n ≡ Some (called aside)
  called_there =
      ap (λ (cells : List SpaceCell). cell_numbered cells n) (sym (called_are files asked m b))
      ∙ find_map (is_numbered n) called (u files asked m b).cells
      ∙ ap (option_map called) there

  pub names_there : option_map (λ (x : SpaceCell). x.names) (cell_numbered m.spaces.cells n) ≡ Some (names_of c.original)
  names_there =
      ap (option_map (λ (x : SpaceCell). x.names)) called_there
      ∙ ap (λ (names : List Alias). Some names) (same names_of (λ k. refl))

  module _ (copy : CellCopy) (ids : copy.original.0 ≡ n) (spaces : copy.ns ≡ c.ns) (o : Original) (is : IsOriginal m copy o) where
    cell_is : o.cell.now ≡ c.original.placed
    cell_is = some_same o.cell.now c.original.placed (sym is.cell ∙ ap (λ (k : ℕ). find (λ (x : NewCell). x.id.0 == k) m.cells.items) ids ∙ placed_there)

    names_are : o.names.now ≡ names_of c.original
    names_are = some_same o.names.now (names_of c.original) (sym is.names ∙ ap (λ (k : ℕ). option_map (λ (x : SpaceCell). x.names) (cell_numbered m.spaces.cells k)) ids ∙ names_there)

    aliases_are : drop (length (definitions_of o.cell.now.object)) o.names.now ≡ c.original.aliases
    aliases_are =
        ap₂ (λ (p : NewCell) (names : List Alias). drop (length (definitions_of p.object)) names) cell_is names_are
        ∙ drop_front (definitions_of c.original.object) c.original.aliases

    -- so its copy is that of the definition
    pub one_same : (w : World) → append_original w o ≡ append_copy w c
    one_same w =
        let By : NewCell → List Alias → ℕ → Outcome World = λ p aliases ns. append_copy w (let d : Copy = record { original = record { placed = p; aliases = aliases; standing = c.original.standing }; ns = ns } in d) in
        ap₂ (λ (p : NewCell) (aliases : List Alias). By p aliases o.ns) cell_is aliases_are ∙ ap (By c.original.placed c.original.aliases) (is.space ∙ spaces)

    pub begins_with_definitions : take (length (definitions_of o.cell.now.object)) o.names.now ≡ definitions_of o.cell.now.object
    begins_with_definitions =
        ap₂ (λ (p : NewCell) (names : List Alias). take (length (definitions_of p.object)) names) cell_is names_are
        ∙ (take_front (definitions_of c.original.object) c.original.aliases ∙ ap (λ (p : NewCell). definitions_of p.object) (sym cell_is))
      where
        take_front : {X : Type 0} (xs ys : List X) → take (length xs) (xs ++ ys) ≡ xs
        take_front [] ys = refl
        take_front (x ∷ xs) ys = ap (λ l. x ∷ l) (take_front xs ys)

    -- it may be copied
    pub is_known : c.ns < length (v files asked m b).namespaces → IsKnown m.spaces o
    is_known space = record {
      loadable = subst (λ (p : NewCell). IsLoadable p.object) (sym cell_is) (All-In (λ (x : Cell). IsLoadable x.object) (v files asked m b).cells (h files asked m b).ready.objects c.original i);
      named = begins_with_definitions;
      there = subst (λ (n : ℕ). n < length m.spaces.namespaces) (sym (is.space ∙ spaces)) (subst (λ (all : List Namespace). c.ns < length all) (sym b.aside.namespaces) space);
    }

  -- and it is there
  pub is_present : (copy : CellCopy) → copy.original.0 ≡ n → copy.ns ≡ c.ns → c.ns < length (v files asked m b).namespaces → IsPresent m copy
  is_present copy ids spaces space = record {
    order = order;
    cell = has_of (find (λ (x : NewCell). x.id.0 == copy.original.0) m.cells.items) c.original.placed (ap (λ (k : ℕ). find (λ (x : NewCell). x.id.0 == k) m.cells.items) ids ∙ placed_there);
    known = has_of (cell_numbered m.spaces.cells copy.original.0) (called aside) (ap (cell_numbered m.spaces.cells) ids ∙ called_there);
    space = subst (λ (k : ℕ). k < length m.spaces.namespaces) (sym spaces) (subst (λ (all : List Namespace). c.ns < length all) (sym b.aside.namespaces) space);
  }

-- of each copy its original, in the order of the copies
abbrev pub AreSame : List CellCopy → List Copy → Type 0
AreSame list copies = map {B = ℕ × ℕ} (λ c. (c.original.0, c.ns)) list ≡ map {B = ℕ × ℕ} (λ c. (c.original.id.0, c.ns)) copies

abbrev first_pair : List (ℕ × ℕ) → ℕ × ℕ
first_pair [] = (0, 0)
first_pair (p ∷ ps) = p

pub parts_same : (copy : CellCopy) (c : Copy) (list : List CellCopy) (copies : List Copy) → AreSame (copy ∷ list) (c ∷ copies) → (copy.original.0 ≡ c.original.id.0) × ((copy.ns ≡ c.ns) × AreSame list copies)
parts_same copy c list copies same = (ap (λ (ps : List (ℕ × ℕ)). (first_pair ps).0) same, (ap (λ (ps : List (ℕ × ℕ)). (first_pair ps).1) same, ap (drop 1) same))

module _ (files : List File) (asked : Change) (m : Machine) (b : IsBegun files asked m) where
  all_present : (list : List CellCopy) (copies : List Copy) → AreSame list copies → ((c : Copy) → In c copies → In c.original (v files asked m b).cells × c.ns < length (v files asked m b).namespaces) → All (IsPresent m) list
  all_present [] copies same there = All-nil (IsPresent m)
  all_present (copy ∷ list) [] same there = absurd (cc same)
  all_present (copy ∷ list) (c ∷ copies) same there =
      let parts = parts_same copy c list copies same in
      let here = there c (inl refl) in
      All-cons (IsPresent m) copy list (is_present files asked m b c here.0 copy parts.0 parts.1.0 here.1) (all_present list copies parts.1.1 (λ d i. there d (inr i)))

  all_known : (list : List CellCopy) (copies : List Copy) (all : List Original) → AreSame list copies → ((c : Copy) → In c copies → In c.original (v files asked m b).cells × c.ns < length (v files asked m b).namespaces)
      → AreOriginals m list all → All (IsKnown m.spaces) all
  all_known [] copies [] same there is = All-nil (IsKnown m.spaces)
  all_known [] copies (o ∷ all) same there is = absurd is
  all_known (copy ∷ list) copies [] same there is = absurd is
  all_known (copy ∷ list) [] (o ∷ all) same there is = absurd (cc same)
  all_known (copy ∷ list) (c ∷ copies) (o ∷ all) same there is =
      let parts = parts_same copy c list copies same in
      let here = there c (inl refl) in
      All-cons (IsKnown m.spaces) o all (is_known files asked m b c here.0 copy parts.0 parts.1.0 o is.0 here.1) (all_known list copies all parts.1.1 (λ d i. there d (inr i)) is.1)

  are_there : (c : Copy) → In c b.found.copies → In c.original (v files asked m b).cells × c.ns < length (v files asked m b).namespaces
  are_there c i = (
    All-In (λ (x : Copy). In x.original (v files asked m b).cells) b.found.copies b.found.originals c i,
    All-In (λ (x : Copy). x.ns < length (v files asked m b).namespaces) b.found.copies b.found.spaces c i,
  )

  pub originals_present : All (IsPresent m) asked.copies.items
  originals_present = all_present asked.copies.items b.found.copies b.found.copies_are are_there

  pub originals_known : (all : List Original) → AreOriginals m asked.copies.items all → All (IsKnown m.spaces) all
  originals_known all is = all_known asked.copies.items b.found.copies all b.found.copies_are are_there is
