-- A new cell with one more name.
use Rattle.std.proofs.Common.{◌≡◌, refl, sym, ◌∙◌, ap, ap₂, subst, arith, ℕ, zero, suc, ◌+◌, ◌<◌, ◌≤◌, Bool, true, false, cond, List, [], ◌∷◌, ◌++◌, length, map, append_assoc}
use Rattle.std.specs.Prelude.{All, Err, Ok, OnOk, Result, Option, Some, None, ◌==◌, is_some, option_and_then, slice_get}
use Rattle.std.proofs.lemmas.List.{length-map}
use Rattle.std.proofs.lemmas.List.Elements.{All-map, All-same, All-weaker}
use Rattle.cell_world.specs.declared.state.NewCell.{NewCell}
use Rattle.cell_world.specs.Coherent.{IsLoadable}
use Rattle.cell_world.specs.Names.{definitions_of, weak_definitions_of, weak_symbol_named}
use Rattle.cell_world.specs.Reexport.{successor_of, with_alias}
use Rattle.cell_world.specs.World.{Alias, Cell, Standing}
use Rattle.cell_world.specs.declared.state.Standing.TheVariants.{Attached}
use Rattle.cell_space.specs.declared.cell.SpaceCell.{SpaceCell}
use Rattle.cell_space.specs.Joined.{placed_of}
use Rattle.cell_space.specs.Machine.{called}
use Rattle.cell_space.specs.Named.{LacksName, cell_numbered, clash_name, is_in, is_state, with_name}
use Rattle.cell_space.specs.Spaces.{SpacesState}
use Rattle.cell_space.proofs.Joined.{cells_are, joined_by}
use Rattle.cell_space.proofs.Unclaimed.{lacks_free}
use Rattle.cell_gather.specs.declared.gathering.Gathered.{Gathered}
use Rattle.cell_gather.specs.declared.heirs.Heritage.{Heritage}
use Rattle.cell_gather.specs.Growing.{IsGrowing, new_of}
use Rattle.cell_gather.specs.Renaming.{AreHeirs, IsNew, heir_now, heir_there, new_numbered, take_now}
use Rattle.cell_gather.proofs.Depots.{found_all}

placed_by : (b : Bool) (a : Alias) (c : Cell) → (let d : Cell = cond b (record c { aliases = c.aliases ++ a ∷ [] }) c in d.placed) ≡ c.placed
placed_by true a c = refl
placed_by false a c = refl

standing_by : (b : Bool) (a : Alias) (c : Cell) → (let d : Cell = cond b (record c { aliases = c.aliases ++ a ∷ [] }) c in d.standing) ≡ c.standing
standing_by true a c = refl
standing_by false a c = refl

called_by : (b : Bool) (a : Alias) (c : Cell) → called (cond b (record c { aliases = c.aliases ++ a ∷ [] }) c) ≡ cond b (record (called c) { names = (called c).names ++ a ∷ [] }) (called c)
called_by true a c =
    ap (λ (names : List Alias). let s : SpaceCell = record { cell = c.id; ns = c.ns; stem = c.stem; state = c.standing; names = names; weak = weak_definitions_of c.object } in s)
    (sym (append_assoc (definitions_of c.object) c.aliases (a ∷ [])))
called_by false a c = refl

module _ (n : ℕ) (a : Alias) where
  pub placed_same : (c : Cell) → (with_alias n a c).placed ≡ c.placed
  placed_same c = placed_by (c.id.0 == n) a c

  standing_same : (c : Cell) → (with_alias n a c).standing ≡ c.standing
  standing_same c = standing_by (c.id.0 == n) a c

  all_placed : (cells : List Cell) → map placed_of (map (with_alias n a) cells) ≡ map placed_of cells
  all_placed [] = refl
  all_placed (c ∷ cells) = ap₂ (λ (x : NewCell) (xs : List NewCell). x ∷ xs) (placed_same c) (all_placed cells)

  all_called : (cells : List Cell) → map called (map (with_alias n a) cells) ≡ with_name n a (map called cells)
  all_called [] = refl
  all_called (c ∷ cells) = ap₂ (λ (x : SpaceCell) (xs : List SpaceCell). x ∷ xs) (called_by (c.id.0 == n) a c) (all_called cells)

  -- what holds by the place alone
  module _ (P : NewCell → Type 0) where
    pub all_by_place : (cells : List Cell) → All (λ c. P c.placed) cells → All (λ c. P c.placed) (map (with_alias n a) cells)
    all_by_place cells all =
        All-map (λ (c : Cell). P c.placed) (with_alias n a) cells
        (All-weaker (λ (c : Cell). P c.placed) (λ (c : Cell). P (with_alias n a c).placed) (λ c p. subst P (sym (placed_same c)) p) cells all)

  mapped_at : (cells : List Cell) (k : ℕ) (d : Cell) → slice_get (map (with_alias n a) cells) k ≡ Some d → (c : Cell) × (slice_get cells k ≡ Some c) × (d ≡ with_alias n a c)
  mapped_at [] k d e = absurd (cc e)
  mapped_at (c ∷ cells) zero d e = (c, refl, sym (same_some (with_alias n a c) d e))
    where
      same_some : (x y : Cell) → (let one : Option Cell = Some x in one ≡ Some y) → x ≡ y
      same_some x y h = cc
  mapped_at (c ∷ cells) (suc k) d e = mapped_at cells k d e

  found_by : (number : ℕ) (b : Bool) (c : Cell) (rest more : Option Cell) (cell : Cell) → (c.id.0 == number) ≡ b → (rest ≡ Some cell → more ≡ Some (with_alias n a cell))
      → cond b (Some c) rest ≡ Some cell → cond ((with_alias n a c).id.0 == number) (Some (with_alias n a c)) more ≡ Some (with_alias n a cell)
  found_by number true c rest more cell is later e =
      ap (λ (p : NewCell). cond (p.id.0 == number) (Some (with_alias n a c)) more) (placed_same c)
      ∙ ap (λ b. cond b (Some (with_alias n a c)) more) is
      ∙ (let same : c ≡ cell = cc in ap (λ (x : Cell). Some (with_alias n a x)) same)
  found_by number false c rest more cell is later e =
      ap (λ (p : NewCell). cond (p.id.0 == number) (Some (with_alias n a c)) more) (placed_same c)
      ∙ ap (λ b. cond b (Some (with_alias n a c)) more) is
      ∙ later e

  -- the cell is found still
  pub still_found : (number : ℕ) (cells : List Cell) (cell : Cell) → new_numbered cells number ≡ Some cell → new_numbered (map (with_alias n a) cells) number ≡ Some (with_alias n a cell)
  still_found number [] cell e = absurd (cc e)
  still_found number (c ∷ cells) cell e =
      found_by number (c.id.0 == number) c (new_numbered cells number) (new_numbered (map (with_alias n a) cells) number) cell refl (still_found number cells cell) e

  pub still_new : (cells : List Cell) (number ns : ℕ) (h : Heritage) → IsNew cells number ns h → IsNew (map (with_alias n a) cells) number ns h
  still_new cells number ns h new = record {
    cell = with_alias n a new.cell;
    found = still_found number cells new.cell new.found;
    ns_is = ap (λ (p : NewCell). p.ns) (placed_same new.cell) ∙ new.ns_is;
    heirs = subst (λ (p : NewCell). AreHeirs (definitions_of p.object) h.heirs) (sym (placed_same new.cell)) new.heirs;
    weak = subst (λ (p : NewCell). h.weak ≡ weak_definitions_of p.object) (sym (placed_same new.cell)) new.weak;
  }

  module _ (spaces : SpacesState) (next : ℕ) (old new : Gathered) (growing : IsGrowing spaces next old) (items : new.cells.items ≡ old.cells.items)
      (fresh : new.ahead.fresh ≡ with_name n a old.ahead.fresh) where
    abbrev named : List Cell
    named = map (with_alias n a) (new_of old)

    items_are : new.cells.items ≡ map placed_of named
    items_are = items ∙ sym growing.joined.placed ∙ sym (all_placed (new_of old))

    fresh_are : new.ahead.fresh ≡ map called named
    fresh_are = fresh ∙ ap (with_name n a) (sym growing.joined.called) ∙ sym (all_called (new_of old))

    pub named_are : new_of new ≡ named
    named_are = cells_are named new.cells.items new.ahead.fresh items_are fresh_are

    pub still_growing : new.ahead.namespaces ≡ old.ahead.namespaces → new.ahead.present ≡ old.ahead.present → new.ahead.cells ≡ old.ahead.present ++ with_name n a old.ahead.fresh → IsGrowing spaces next new
    still_growing same_spaces same_present rows =
        let long : length (new_of new) ≡ length (new_of old) = ap length named_are ∙ length-map (new_of old) (with_alias n a) in
        record {
          namespaces = same_spaces ∙ growing.namespaces;
          present = same_present ∙ growing.present;
          cells =
              rows
              ∙ ap (λ (all : List SpaceCell). all ++ with_name n a old.ahead.fresh) growing.present
              ∙ ap (λ (all : List SpaceCell). spaces.cells ++ all) (sym fresh ∙ fresh_are ∙ ap (map called) (sym named_are));
          joined = joined_by named new.cells.items new.ahead.fresh items_are fresh_are;
          attached =
              All-same (λ (c : Cell). c.standing ≡ Attached) (new_of new) named named_are
              (All-map (λ (c : Cell). c.standing ≡ Attached) (with_alias n a) (new_of old)
              (All-weaker (λ (c : Cell). c.standing ≡ Attached) (λ (c : Cell). (with_alias n a c).standing ≡ Attached) (λ c e. standing_same c ∙ e) (new_of old) growing.attached));
          loadable = All-same (λ (p : NewCell). IsLoadable p.object) new.cells.items old.cells.items items growing.loadable;
          inside = All-same (λ (c : Cell). c.ns < length spaces.namespaces) (new_of new) named named_are (all_by_place (λ p. p.ns < length spaces.namespaces) (new_of old) growing.inside);
          above = All-same (λ (c : Cell). next ≤ c.id.0) (new_of new) named named_are (all_by_place (λ p. next ≤ p.id.0) (new_of old) growing.above);
          below =
              All-same (λ (c : Cell). c.id.0 < next + length (new_of new)) (new_of new) named named_are
              (all_by_place (λ p. p.id.0 < next + length (new_of new)) (new_of old)
              (All-weaker (λ (c : Cell). c.id.0 < next + length (new_of old)) (λ (c : Cell). c.id.0 < next + length (new_of new)) (λ c lt. omega (arith, lt, long)) (new_of old) growing.below));
          numbered = λ k d at.
              let from = mapped_at (new_of old) k d (ap (λ (all : List Cell). slice_get all k) (sym named_are) ∙ at) in
              ap (λ (c : Cell). c.id.0) from.2 ∙ ap (λ (p : NewCell). p.id.0) (placed_same from.0) ∙ growing.numbered k from.0 from.1;
          few = λ some. let few = growing.few (omega (arith, some, long)) in omega (arith, few, long);
        }

not_weak : (b : Bool) (heir : Option ℕ) (symbol : ℕ) → cond b None heir ≡ Some symbol → heir ≡ Some symbol
not_weak true heir symbol e = absurd (cc e)
not_weak false heir symbol e = e

free_by : (o : Option ℕ) (heir : Option ℕ) (symbol : ℕ) → elim o as (λ _. Option ℕ) [ None ↦ heir | Some holder ↦ None ] ≡ Some symbol → o ≡ None
free_by None heir symbol e = refl
free_by (Some holder) heir symbol e = absurd (cc e)

numbered_called : (cells : List Cell) (n : ℕ) (c : Cell) → new_numbered cells n ≡ Some c → cell_numbered (map called cells) n ≡ Some (called c)
numbered_called [] n c e = absurd (cc e)
numbered_called (d ∷ cells) n c e = by (d.id.0 == n) (new_numbered cells n) (cell_numbered (map called cells) n) (numbered_called cells n c) e
  where
    by : (b : Bool) (o : Option Cell) (p : Option SpaceCell) → (o ≡ Some c → p ≡ Some (called c)) → cond b (Some d) o ≡ Some c → cond b (Some (called d)) p ≡ Some (called c)
    by true o p later h = let same : d ≡ c = cc in ap (λ (x : Cell). Some (called x)) same
    by false o p later h = later h

found_standing : (cells : List Cell) (n : ℕ) (c : Cell) → All (λ d. d.standing ≡ Attached) cells → new_numbered cells n ≡ Some c → c.standing ≡ Attached
found_standing cells n c all e = found_all (λ d. d.standing ≡ Attached) (λ d. d.id.0 == n) c cells all e

module _ (spaces : SpacesState) (next : ℕ) (old : Gathered) (growing : IsGrowing spaces next old) (n ns : ℕ) (there : ns < length spaces.namespaces) (h : Heritage) (new : IsNew (new_of old) n ns h) (name : List ℕ) where
  abbrev takes : Option ℕ → List Cell
  takes heir = elim heir as (λ _. List Cell) [ None ↦ new_of old | Some symbol ↦ map (with_alias n (record { name = name; symbol = symbol })) (new_of old) ]

  take_is : (heir : Option ℕ) → heir ≡ heir_now spaces (new_of old) new.cell name → take_now spaces n (new_of old) name ≡ takes heir
  take_is heir e =
      ap (λ (o : Option Cell). takes (option_and_then (λ (c : Cell). heir_now spaces (new_of old) c name) o)) new.found ∙ ap takes (sym e)

  pub nothing_taken : (heir : Option ℕ) → heir ≡ heir_now spaces (new_of old) new.cell name → heir ≡ None → take_now spaces n (new_of old) name ≡ new_of old
  nothing_taken heir e none = take_is heir e ∙ ap takes none

  pub one_taken : (heir : Option ℕ) (symbol : ℕ) → heir ≡ heir_now spaces (new_of old) new.cell name → heir ≡ Some symbol
      → take_now spaces n (new_of old) name ≡ map (with_alias n (record { name = name; symbol = symbol })) (new_of old)
  one_taken heir symbol e some = take_is heir e ∙ ap takes some

  -- the cell itself lacks a name for which it has an heir
  pub heir_lacks : (heir : Option ℕ) (symbol : ℕ) → heir ≡ heir_now spaces (new_of old) new.cell name → heir ≡ Some symbol → LacksName old.ahead.fresh n name
  heir_lacks heir symbol e some =
      let free : clash_name spaces.namespaces new.cell.ns name (spaces.cells ++ map called (new_of old)) ≡ None =
      free_by (clash_name spaces.namespaces new.cell.ns name (spaces.cells ++ map called (new_of old))) (successor_of new.cell name) symbol
      (not_weak (is_some (weak_symbol_named new.cell name)) (heir_there spaces (new_of old) new.cell name) symbol (sym e ∙ some))
      in
      let found = numbered_called (new_of old) n new.cell new.found in
      let on : is_in Attached (called new.cell) ≡ true = ap (λ (s : Standing). is_state Attached s) (found_standing (new_of old) n new.cell growing.attached new.found) in
      subst (λ (cells : List SpaceCell). LacksName cells n name) growing.joined.called
      (lacks_free spaces.namespaces new.cell.ns (subst (λ m. m < length spaces.namespaces) (sym new.ns_is) there) name spaces.cells (map called (new_of old)) free n (called new.cell) found refl on)

-- what follows from two facts of a success
pub ok_both : {A E : Type 0} (r : Result A E) (P Q R : Type 0) → (P → Q → R) → OnOk r P → OnOk r Q → OnOk r R
ok_both (Ok x) P Q R more p q = more p q
ok_both (Err e) P Q R more p q = tt
