-- The whole gathering from its parts.
use Rattle.std.proofs.Common.{◌≡◌, refl, ◌∙◌, ap, ap₂, sym, arith, ℕ, Bool, cond, List, [], ◌∷◌, length, map}
use Rattle.std.specs.Prelude.{All, Ok, Err, IsSome, Option, Some, ◌&&◌, find, not, true, false}
use Rattle.std.specs.Option.{ForSome}
use Rattle.std.proofs.lemmas.List.Elements.{All-head, All-tail}
use Rattle.cell_num.specs.declared.ids.CellId.{CellId}
use Rattle.cell_world.specs.declared.file.File.{File}
use Rattle.cell_world.specs.Gather.{source_of, bring, grown}
use Rattle.cell_world.specs.Outcome.{Outcome, each}
use Rattle.cell_world.specs.World.{World, Alias, Cell, Standing, attached}
use Rattle.cell_world.specs.declared.state.Standing.TheVariants.{Attached}
use Rattle.cell_space.specs.declared.cell.SpaceCell.{SpaceCell}
use Rattle.cell_space.specs.Joined.{placed_of}
use Rattle.cell_space.specs.Named.{is_in, is_numbered}
use Rattle.cell_space.specs.Spaces.{HasCell, HasDetached, SpacesState}
use Rattle.cell_world.specs.declared.fail.Fail.{Fail}
use Rattle.cell_world.specs.declared.fail.Fail.TheVariants.{Refused, OutOfMemory}
use Rattle.cell_gather.specs.declared.gathering.Gathered.{Gathered}
use Rattle.cell_gather.specs.declared.want.Want.{Want}
use Rattle.cell_gather.specs.Gathering.{IsOf, append_wanted, renamed, Gathers}
use Rattle.cell_gather.specs.Growing.{Ends, HavePlain, IsGrowing, new_of}
use Rattle.cell_gather.proofs.Appends.{gather_refused, gather_brings}

no_cells : (cells : List Cell) → length cells ≡ 0 → cells ≡ []
no_cells [] e = refl
no_cells (c ∷ cells) e = absurd (omega arith)

module _ (files : List File) (spaces : SpacesState) (next : ℕ) (wants : List Want) (reexport : Bool) (first mid then : List Cell) (none : length first ≡ 0) where
  abbrev appends : List Cell → World → Outcome World
  appends cells w = each (append_wanted (map source_of files)) (grown w cells) wants

  abbrev brings : World → Outcome World
  brings w = bring (map source_of files) next (grown w then)

  abbrev pub Renames : Type 0
  Renames = (w : World) → IsOf spaces next w → renamed w wants reexport (grown w mid) ≡ grown w then

  pub append_failed : (fail : Fail) (new : List Cell) → Ends spaces next (appends first) (Err fail) new → Gathers files spaces next wants reexport (Err fail)
  append_failed OutOfMemory new ends = tt
  append_failed (Refused refusal) new ends = λ w is.
      gather_refused spaces next files wants reexport w is refusal (ap (λ cells. appends cells w) (sym (no_cells first none)) ∙ ends w is)

  appended : (x : Unit {0}) → Ends spaces next (appends first) (Ok x) mid → (w : World) → IsOf spaces next w → appends [] w ≡ Ok (grown w mid)
  appended x ends w is = ap (λ cells. appends cells w) (sym (no_cells first none)) ∙ ends w is

  pub bring_failed : (x : Unit {0}) (fail : Fail) (new : List Cell) → Ends spaces next (appends first) (Ok x) mid → Renames → Ends spaces next brings (Err fail) new
      → Gathers files spaces next wants reexport (Err fail)
  bring_failed x OutOfMemory new begun names ends = tt
  bring_failed x (Refused refusal) new begun names ends = λ w is.
      gather_brings spaces next files wants reexport w is mid then (Err refusal) (appended x begun w is) (names w is) (ends w is)

  pub gathered : (x y : Unit {0}) (g : Gathered) → Ends spaces next (appends first) (Ok x) mid → Renames → Ends spaces next brings (Ok y) (new_of g) → IsGrowing spaces next g
      → (reexport ≡ false → new_of g ≡ map attached g.cells.items) → Gathers files spaces next wants reexport (Ok g)
  gathered x y g begun names ends growing plain = record {
    new = new_of g;
    placed = growing.joined.placed;
    gathered = λ w is. gather_brings spaces next files wants reexport w is mid then (Ok (grown w (new_of g))) (appended x begun w is) (names w is) (ends w is);
    namespaces = growing.namespaces;
    cells = growing.cells;
    fresh = sym growing.joined.called;
    attached = growing.attached;
    loadable = growing.loadable;
    plain = plain;
  }

-- no cells at all
pub none_plain : (cells : List Cell) → length cells ≡ 0 → HavePlain cells
none_plain cells e = λ k d lt. absurd (omega (arith, lt, e))

plain_cell : (c : Cell) → c.aliases ≡ [] → c.standing ≡ Attached → c ≡ attached c.placed
plain_cell c none on = ap₂ (λ (aliases : List Alias) (s : Standing). let d : Cell = record { placed = c.placed; aliases = aliases; standing = s } in d) none on

all_plain : (cells : List Cell) → HavePlain cells → All (λ c. c.standing ≡ Attached) cells → cells ≡ map attached (map placed_of cells)
all_plain [] plain on = refl
all_plain (c ∷ cells) plain on =
    ap₂ (λ (x : Cell) (xs : List Cell). x ∷ xs)
    (plain_cell c (All-head (λ (d : Cell). d.aliases ≡ []) c cells plain) (All-head (λ (d : Cell). d.standing ≡ Attached) c cells on))
    (all_plain cells (All-tail (λ (d : Cell). d.aliases ≡ []) c cells plain) (All-tail (λ (d : Cell). d.standing ≡ Attached) c cells on))

-- cells that go by their definitions are just their places
pub plain_are : (spaces : SpacesState) (next : ℕ) (g : Gathered) → IsGrowing spaces next g → HavePlain (new_of g) → new_of g ≡ map attached g.cells.items
plain_are spaces next g growing plain = all_plain (new_of g) plain growing.attached ∙ ap (map attached) growing.joined.placed

found_of_both : (p q : SpaceCell → Bool) (cells : List SpaceCell) → IsSome (find (λ c. p c && q c) cells) → IsSome (find p cells)
found_of_both p q [] h = h
found_of_both p q (c ∷ cells) h = by (p c) (q c) (found_of_both p q cells) h
  where
    by : (a b : Bool) → (IsSome (find (λ d. p d && q d) cells) → IsSome (find p cells)) → IsSome (cond (a && b) (Some c) (find (λ d. p d && q d) cells)) → IsSome (cond a (Some c) (find p cells))
    by true b rest g = refl
    by false b rest g = rest g

-- a cell that is put aside is there
pub have_old : (s : SpacesState) (wants : List Want) → All (λ want. ForSome want.replaces (λ id. HasDetached s id.0)) wants → All (λ want. ForSome want.replaces (λ id. HasCell s id.0)) wants
have_old s wants all = λ k d lt. weaker (all k d lt)
  where
    weaker : {o : Option CellId} → ForSome o (λ id. HasDetached s id.0) → ForSome o (λ id. HasCell s id.0)
    weaker h = λ id e. found_of_both (is_numbered id.0) (λ c. not (is_in Attached c)) s.cells (h id e)
