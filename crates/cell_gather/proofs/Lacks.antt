-- The first need that lacks a provider.
use Rattle.std.proofs.Common.{◌≡◌, refl, sym, ◌∙◌, ap, subst, arith, ℕ, zero, suc, ◌<◌, ◌≤◌, Bool, true, false, cond, List, [], ◌∷◌, ◌++◌, length, map}
use Rattle.std.specs.Prelude.{Option, Some, None, All, not, filter, is_some, is_none, slice_get, nat_le}
use Rattle.std.proofs.lemmas.Bool.Decides.{nat_tests}
use Rattle.std.proofs.lemmas.List.Elements.{All-head, All-tail, All-same, filter-append}
use Rattle.cell_num.specs.declared.ids.CellId.{CellId}
use Rattle.cell_num.specs.Lists.{first, or_else}
use Rattle.cell_world.specs.declared.state.Namespace.{Namespace}
use Rattle.cell_world.specs.World.{World, Cell, Standing}
use Rattle.cell_world.specs.declared.state.Standing.TheVariants.{Attached}
use Rattle.cell_world.specs.Names.{Provider, chain, needs_of, provider_of, provider_for as provider_as}
use Rattle.cell_world.specs.Gather.{Need, lacks_of, first_lack, fresh_cells, grown}
use Rattle.cell_space.specs.declared.cell.SpaceCell.{SpaceCell}
use Rattle.cell_space.specs.Machine.{called}
use Rattle.cell_space.specs.Named.{provider_for}
use Rattle.cell_space.specs.Spaces.{SpacesState}
use Rattle.cell_space.proofs.Machines.{provider_for-called}
use Rattle.cell_gather.specs.Gathering.{IsOf}
use Rattle.cell_gather.specs.Growing.{IsProvided, IsSupplied, AreSupplied, IsNext}
use Rattle.cell_gather.proofs.Worlds.{grown_is}

-- what holds of all holds of the element at a place
pub at_slice : {X : Type 0} (P : X → Type 0) (xs : List X) (k : ℕ) (x : X) → All P xs → slice_get xs k ≡ Some x → P x
at_slice P [] k x all e = absurd (cc e)
at_slice P (y ∷ xs) zero x all e = let same : y ≡ x = cc in subst P same (All-head P y xs all)
at_slice P (y ∷ xs) (suc k) x all e = at_slice P xs k x (All-tail P y xs all) e

none_not : {X : Type 0} (o : Option X) → is_none o ≡ not (is_some o)
none_not None = refl
none_not (Some x) = refl

module _ {X : Type 0} (p : List ℕ → Bool) (v : List ℕ → X) where
  one_left : (b : Bool) (name : List ℕ) (rest : List (List ℕ)) (o : Option X) → b ≡ false → first (map v rest) ≡ o → first (map v (cond b (name ∷ rest) rest)) ≡ o
  one_left true name rest o e h = absurd (cc e)
  one_left false name rest o e h = h

  none_first : (list : List (List ℕ)) → All (λ name. p name ≡ false) list → first (map v (filter p list)) ≡ None
  none_first [] all = refl
  none_first (name ∷ list) all =
      one_left (p name) name (filter p list) None (All-head (λ n. p n ≡ false) name list all) (none_first list (All-tail (λ n. p n ≡ false) name list all))

  here_first : (b : Bool) (name : List ℕ) (rest : List (List ℕ)) → b ≡ true → first (map v (cond b (name ∷ rest) rest)) ≡ Some (v name)
  here_first true name rest e = refl
  here_first false name rest e = absurd (cc e)

  -- the first that passes
  passes_first : (before : List (List ℕ)) (name : List ℕ) (after : List (List ℕ)) → All (λ n. p n ≡ false) before → p name ≡ true → first (map v (filter p (before ++ name ∷ after))) ≡ Some (v name)
  passes_first [] name after all e = here_first (p name) name (filter p after) e
  passes_first (n ∷ before) name after all e =
      one_left (p n) n (filter p (before ++ name ∷ after)) (Some (v name)) (All-head (λ m. p m ≡ false) n before all)
      (passes_first before name after (All-tail (λ m. p m ≡ false) n before all) e)

module _ (u : World) where
  abbrev first_of : Cell → Option Need
  first_of c = first (lacks_of u c)

  none_before : (o : Option Need) (rest : Option Need) → o ≡ None → or_else o rest ≡ rest
  none_before None rest e = refl
  none_before (Some x) rest e = absurd (cc e)

  some_before : (o : Option Need) (rest : Option Need) (lack : Need) → o ≡ Some lack → or_else o rest ≡ Some lack
  some_before None rest lack e = absurd (cc e)
  some_before (Some x) rest lack e = e

  pub lacks_at : (cells : List Cell) (place : ℕ) (c : Cell) (lack : Need) → ((k : ℕ) (d : Cell) → k < place → slice_get cells k ≡ Some d → first_of d ≡ None)
      → slice_get cells place ≡ Some c → first_of c ≡ Some lack → first_lack u cells ≡ Some lack
  lacks_at [] place c lack none at e = absurd (cc at)
  lacks_at (d ∷ cells) zero c lack none at e =
      let same : d ≡ c = cc in
      some_before (first_of d) (first_lack u cells) lack (ap first_of same ∙ e)
  lacks_at (d ∷ cells) (suc place) c lack none at e =
      none_before (first_of d) (first_lack u cells) (none 0 d (omega arith) refl)
      ∙ lacks_at cells place c lack (λ k x lt is. none (suc k) x (omega (arith, lt)) is) at e

  pub lacks_nowhere : (cells : List Cell) → ((k : ℕ) (d : Cell) → slice_get cells k ≡ Some d → first_of d ≡ None) → first_lack u cells ≡ None
  lacks_nowhere [] none = refl
  lacks_nowhere (d ∷ cells) none =
      none_before (first_of d) (first_lack u cells) (none 0 d refl)
      ∙ lacks_nowhere cells (λ k x is. none (suc k) x is)

old_number : (next n : ℕ) → n < next → nat_le next n ≡ false
old_number next n lt = grind (arith, nat_tests)

new_number : (next n : ℕ) → next ≤ n → nat_le next n ≡ true
new_number next n le = grind (arith, nat_tests)

none_fresh : (next : ℕ) (cells : List Cell) → All (λ c. c.cell.0 < next) (map called cells) → filter (λ c. nat_le next c.id.0) cells ≡ []
none_fresh next [] all = refl
none_fresh next (c ∷ cells) all =
    ap (λ b. cond b (c ∷ filter (λ d. nat_le next d.id.0) cells) (filter (λ d. nat_le next d.id.0) cells))
    (old_number next c.id.0 (All-head (λ (d : SpaceCell). d.cell.0 < next) (called c) (map called cells) all))
    ∙ none_fresh next cells (All-tail (λ (d : SpaceCell). d.cell.0 < next) (called c) (map called cells) all)

all_fresh : (next : ℕ) (cells : List Cell) → All (λ c. next ≤ c.id.0) cells → filter (λ c. nat_le next c.id.0) cells ≡ cells
all_fresh next [] all = refl
all_fresh next (c ∷ cells) all =
    ap (λ b. cond b (c ∷ filter (λ d. nat_le next d.id.0) cells) (filter (λ d. nat_le next d.id.0) cells))
    (new_number next c.id.0 (All-head (λ (d : Cell). next ≤ d.id.0) c cells all))
    ∙ ap (λ cs. c ∷ cs) (all_fresh next cells (All-tail (λ (d : Cell). next ≤ d.id.0) c cells all))

module _ (spaces : SpacesState) (next : ℕ) (given : All (λ c. c.cell.0 < next) spaces.cells) (cells : List Cell) (above : All (λ c. next ≤ c.id.0) cells)
    (on : All (λ c. c.standing ≡ Attached) cells) (w : World) (is : IsOf spaces next w) where
  pub fresh_are : fresh_cells next (grown w cells) ≡ cells
  fresh_are =
      filter-append (λ (c : Cell). nat_le next c.id.0) w.cells cells
      ∙ ap (λ cs. cs ++ filter (λ (c : Cell). nat_le next c.id.0) cells) (none_fresh next w.cells (All-same (λ (c : SpaceCell). c.cell.0 < next) (map called w.cells) spaces.cells is.cells given))
      ∙ all_fresh next cells above

  abbrev provided : ℕ → List ℕ → Option Provider
  provided ns name = provider_for (chain spaces.namespaces ns) Attached name (spaces.cells ++ map called cells)

  provider_is : (c : Cell) → c.standing ≡ Attached → (name : List ℕ) → provider_of (grown w cells) c name ≡ provided c.ns name
  provider_is c here name =
      let of = grown_is spaces next w is cells in
      ap (λ (s : Standing). provider_as (grown w cells) s c.ns name) here
      ∙ provider_for-called (grown w cells) c.ns name Attached
      ∙ ap (λ (sp : List Namespace). provider_for (chain sp c.ns) Attached name (map called (grown w cells).cells)) of.namespaces
      ∙ ap (λ (cs : List SpaceCell). provider_for (chain spaces.namespaces c.ns) Attached name cs) of.cells

  abbrev lacking : Cell → List ℕ → Bool
  lacking c name = is_none (provider_of (grown w cells) c name)

  lacking_is : (c : Cell) → c.standing ≡ Attached → (name : List ℕ) → lacking c name ≡ not (is_some (provided c.ns name))
  lacking_is c here name = ap (λ (o : Option Provider). is_none o) (provider_is c here name) ∙ none_not (provided c.ns name)

  not_lacking : (c : Cell) → c.standing ≡ Attached → (list : List (List ℕ)) → All (IsProvided spaces cells c.ns) list → All (λ name. lacking c name ≡ false) list
  not_lacking c here list all = λ k d lt. lacking_is c here _ ∙ ap not (all k d lt)

  abbrev need_of : Cell → List ℕ → Need
  need_of c name = record { cell = c; name = name }

  supplied_none : (c : Cell) → c.standing ≡ Attached → IsSupplied spaces cells c → first (lacks_of (grown w cells) c) ≡ None
  supplied_none c here all = none_first (lacking c) (need_of c) (needs_of c.object) (not_lacking c here (needs_of c.object) all)

  -- the need whose turn it is
  pub first_lack_is : (place ns : ℕ) (id : CellId) (name : List ℕ) (n : IsNext spaces cells place ns id name) → is_some (provided ns name) ≡ false
      → first_lack (grown w cells) (fresh_cells next (grown w cells)) ≡ Some (need_of n.turn.cell name)
  first_lack_is place ns id name n none =
      let c : Cell = n.turn.cell in
      let lacks : lacking c name ≡ true = lacking_is c n.turn.on name ∙ ap (λ (m : ℕ). not (is_some (provided m name))) n.turn.ns_is ∙ ap not none in
      let before : All (λ m. lacking c m ≡ false) n.before = not_lacking c n.turn.on n.before (subst (λ (m : ℕ). All (IsProvided spaces cells m) n.before) (sym n.turn.ns_is) n.provided) in
      ap (first_lack (grown w cells)) fresh_are
      ∙ lacks_at (grown w cells) cells place c (need_of c name) (λ k d lt at. supplied_none d (at_slice (λ x. x.standing ≡ Attached) cells k d on at) (n.turn.supplied k d lt at)) n.turn.at
      (ap (λ list. first (map (need_of c) (filter (lacking c) list))) n.turn.needs_are ∙ passes_first (lacking c) (need_of c) n.before name n.after before lacks)

  pub no_lack : (n : ℕ) → length cells ≤ n → AreSupplied spaces cells n → first_lack (grown w cells) (fresh_cells next (grown w cells)) ≡ None
  no_lack n le all =
      ap (first_lack (grown w cells)) fresh_are
      ∙ lacks_nowhere (grown w cells) cells (λ k d at. let lt = inside cells k d at in supplied_none d (at_slice (λ x. x.standing ≡ Attached) cells k d on at) (all k d (omega (arith, lt, le)) at))
    where
      inside : (list : List Cell) (k : ℕ) (d : Cell) → slice_get list k ≡ Some d → k < length list
      inside [] k d e = absurd (cc e)
      inside (y ∷ list) zero d e = omega arith
      inside (y ∷ list) (suc k) d e = let h = inside list k d e in omega arith
