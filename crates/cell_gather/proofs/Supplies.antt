-- What new cells have stays there when more are added.
use Rattle.std.proofs.Common.{◌≡◌, refl, sym, ◌∙◌, ap, subst, arith, ℕ, zero, suc, ◌+◌, ◌<◌, ◌≤◌, List, [], ◌∷◌, ◌++◌, length, map, get_or, take, drop, append_assoc, take-append-drop, ◌⊎◌, inl, inr}
use Rattle.std.specs.Prelude.{Option, Some, All, is_some, slice_get}
use Rattle.std.proofs.lemmas.List.{map-append, drop_more, take_all}
use Rattle.std.proofs.lemmas.List.Elements.{All-weaker, All-more, All-same}
use Rattle.std.proofs.lemmas.Bool.{cases_lt}
use Rattle.cell_num.specs.declared.ids.CellId.{CellId}
use Rattle.cell_world.specs.World.{Cell}
use Rattle.cell_world.specs.Names.{chain, needs_of}
use Rattle.cell_world.specs.declared.state.Standing.TheVariants.{Attached}
use Rattle.cell_space.specs.declared.cell.SpaceCell.{SpaceCell}
use Rattle.cell_space.specs.Machine.{called}
use Rattle.cell_space.specs.Named.{provider_for}
use Rattle.cell_space.specs.Spaces.{SpacesState}
use Rattle.cell_gather.specs.Growing.{IsProvided, IsSupplied, AreSupplied, IsTurnOf, IsNext}
use Rattle.cell_space.proofs.Nearests.{provided_more}

pub within : {X : Type 0} (xs : List X) (k : ℕ) (x : X) → slice_get xs k ≡ Some x → k < length xs
within [] k x e = absurd (cc e)
within (y ∷ xs) zero x e = omega arith
within (y ∷ xs) (suc k) x e = let h = within xs k x e in omega arith

-- the element is among those before
front_get : {X : Type 0} (xs ys : List X) (k : ℕ) → k < length xs → slice_get (xs ++ ys) k ≡ slice_get xs k
front_get [] ys k lt = absurd (omega arith)
front_get (x ∷ xs) ys zero lt = refl
front_get (x ∷ xs) ys (suc k) lt = front_get xs ys k (omega arith)

pub get_at : {X : Type 0} (xs : List X) (i : ℕ) (x : X) → i < length xs → x ≡ get_or xs i x → slice_get xs i ≡ Some x
get_at [] i x lt e = absurd (omega arith)
get_at (y ∷ xs) zero x lt e = ap (λ z. Some z) (sym e)
get_at (y ∷ xs) (suc i) x lt e = get_at xs i x (omega arith) e

pub same_some : {X : Type 0} (x y : X) → (let one : Option X = Some x in one ≡ Some y) → x ≡ y
same_some x y e = cc

below_or_at : (k place : ℕ) → k < place + 1 → (k < place) ⊎ (k ≡ place)
below_or_at k place lt = go (cases_lt k place)
  where
    go : (k < place) ⊎ (place ≤ k) → (k < place) ⊎ (k ≡ place)
    go (inl less) = inl less
    go (inr le) = inr (omega (arith, le, lt))

module _ (spaces : SpacesState) (cells added : List Cell) where
  more_are : spaces.cells ++ map called (cells ++ added) ≡ (spaces.cells ++ map called cells) ++ map called added
  more_are = ap (λ cs. spaces.cells ++ cs) (map-append called cells added) ∙ sym (append_assoc spaces.cells (map called cells) (map called added))

  pub more_provided : (ns : ℕ) (name : List ℕ) → IsProvided spaces cells ns name → IsProvided spaces (cells ++ added) ns name
  more_provided ns name e =
      let way : List ℕ = chain spaces.namespaces ns in
      ap (λ (cs : List SpaceCell). is_some (provider_for way Attached name cs)) more_are
      ∙ provided_more way name (spaces.cells ++ map called cells) (map called added) e

  more_names : (ns : ℕ) (names : List (List ℕ)) → All (IsProvided spaces cells ns) names → All (IsProvided spaces (cells ++ added) ns) names
  more_names ns names all = All-weaker (IsProvided spaces cells ns) (IsProvided spaces (cells ++ added) ns) (λ name e. more_provided ns name e) names all

  more_supplied : (n : ℕ) → n ≤ length cells → AreSupplied spaces cells n → AreSupplied spaces (cells ++ added) n
  more_supplied n le all k d lt at = more_names d.ns (needs_of d.object) (all k d lt (sym (front_get cells added k (omega (arith, le, lt))) ∙ at))

  module _ (place ns : ℕ) (id : CellId) where
    more_turn : (needs : List (List ℕ)) → IsTurnOf spaces cells place ns id needs → IsTurnOf spaces (cells ++ added) place ns id needs
    more_turn needs t =
        let lt : place < length cells = within cells place t.cell t.at in
        record {
          cell = t.cell;
          at = front_get cells added place lt ∙ t.at;
          on = t.on;
          ns_is = t.ns_is;
          id_is = t.id_is;
          needs_are = t.needs_are;
          supplied = more_supplied place (omega (arith, lt)) t.supplied;
        }

    more_next : (name : List ℕ) → IsNext spaces cells place ns id name → IsNext spaces (cells ++ added) place ns id name
    more_next name n = record {
      before = n.before;
      after = n.after;
      turn = more_turn (n.before ++ name ∷ n.after) n.turn;
      provided = more_names ns n.before n.provided;
    }

-- the same for the cells as they are then
module _ (spaces : SpacesState) (cells added new : List Cell) (are : new ≡ cells ++ added) where
  pub turn_stays : (place ns : ℕ) (id : CellId) (needs : List (List ℕ)) → IsTurnOf spaces cells place ns id needs → IsTurnOf spaces new place ns id needs
  turn_stays place ns id needs t = subst (λ cs. IsTurnOf spaces cs place ns id needs) (sym are) (more_turn spaces cells added place ns id needs t)

  pub next_stays : (place ns : ℕ) (id : CellId) (name : List ℕ) → IsNext spaces cells place ns id name → IsNext spaces new place ns id name
  next_stays place ns id name n = subst (λ cs. IsNext spaces cs place ns id name) (sym are) (more_next spaces cells added place ns id name n)

  pub names_stay : (ns : ℕ) (names : List (List ℕ)) → All (IsProvided spaces cells ns) names → All (IsProvided spaces new ns) names
  names_stay ns names all = subst (λ cs. All (IsProvided spaces cs ns) names) (sym are) (more_names spaces cells added ns names all)

module _ (spaces : SpacesState) (cells : List Cell) (place ns : ℕ) (id : CellId) (needs : List (List ℕ)) where
  -- the need at an index is next
  pub need_is_next : (i : ℕ) (name : List ℕ) → i < length needs → name ≡ get_or needs i name → IsTurnOf spaces cells place ns id needs → All (IsProvided spaces cells ns) (take i needs)
      → IsNext spaces cells place ns id name
  need_is_next i name lt item t all =
      let split : needs ≡ take i needs ++ name ∷ drop (i + 1) needs =
      sym (take-append-drop i needs) ∙ ap (λ rest. take i needs ++ rest) (drop_more needs i name lt ∙ ap (λ x. x ∷ drop (i + 1) needs) (sym item)) in
      record {
        before = take i needs;
        after = drop (i + 1) needs;
        turn = subst (IsTurnOf spaces cells place ns id) split t;
        provided = all;
      }

  pub one_more_provided : (i : ℕ) (name : List ℕ) → i < length needs → name ≡ get_or needs i name → All (IsProvided spaces cells ns) (take i needs) → IsProvided spaces cells ns name
      → All (IsProvided spaces cells ns) (take (i + 1) needs)
  one_more_provided i name lt item all here =
      All-more (IsProvided spaces cells ns) needs i name lt all (subst (IsProvided spaces cells ns) item here)

  supplied_at : (t : IsTurnOf spaces cells place ns id needs) → IsSupplied spaces cells t.cell → (k : ℕ) (d : Cell) → (k < place) ⊎ (k ≡ place) → slice_get cells k ≡ Some d → IsSupplied spaces cells d
  supplied_at t whole k d (inl lt) at = t.supplied k d lt at
  supplied_at t whole k d (inr is) at =
      let same : t.cell ≡ d = same_some t.cell d (sym t.at ∙ ap (slice_get cells) (sym is) ∙ at) in
      subst (λ (c : Cell). IsSupplied spaces cells c) same whole

  -- all its needs are provided
  pub place_supplied : (i : ℕ) → length needs ≤ i → IsTurnOf spaces cells place ns id needs → All (IsProvided spaces cells ns) (take i needs) → AreSupplied spaces cells (place + 1)
  place_supplied i le t all k d lt at =
      let whole : IsSupplied spaces cells t.cell =
      subst (λ (m : ℕ). All (IsProvided spaces cells m) (needs_of t.cell.object)) (sym t.ns_is)
      (All-same (IsProvided spaces cells ns) (needs_of t.cell.object) (take i needs) (t.needs_are ∙ sym (take_all i needs le)) all) in
      supplied_at t whole k d (below_or_at k place lt) at
