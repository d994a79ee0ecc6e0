-- An old cell that is put aside may be attached again: of the attached cells none has its stem or a name of it.
use Rattle.std.proofs.Common.{◌≡◌, refl, sym, ◌∙◌, ap, subst, ℕ, ◌⊎◌, inl, inr, Bool, true, false, cond, true≢false, ◌&&◌, ◌||◌, List, map}
use Rattle.std.specs.Prelude.{Option, Some, None, All, IsTrue, find, not, option_map}
use Rattle.std.specs.List.{list_any}
use Rattle.std.proofs.lemmas.Bool.{and_parts, eqb-true}
use Rattle.std.proofs.Math.Bool.{and_comm, or_comm}
use Rattle.std.proofs.lemmas.Slice.Eq.{bytes_eq-Decides}
use Rattle.cell_num.specs.Lists.{equals, holds, holds_name, In}
use Rattle.cell_world.specs.Coherent.{all_names, may_both_stand}
use Rattle.cell_world.specs.Names.{are_on_one_path, chain}
use Rattle.cell_world.specs.World.{World, Cell, Standing, is_attached}
use Rattle.cell_world.specs.declared.state.Standing.TheVariants.{Attached, Detached}
use Rattle.cell_world.specs.declared.state.Namespace.{Namespace}
use Rattle.cell_num.proofs.Elements.{In-All, In-map, any-Has, any-In, found-In, pairs-In, some_has}
use Rattle.cell_space.specs.declared.cell.SpaceCell.{SpaceCell}
use Rattle.cell_space.specs.Machine.{called}
use Rattle.cell_space.specs.Named.{clash_name, clash_stem, is_in, is_numbered, is_state}
use Rattle.cell_space.specs.Spaces.{HasDetached, HasNoRival, IsFree, SpacesState}
use Rattle.cell_machine.specs.declared.machine.Machine.{Machine}
use Rattle.cell_machine.specs.Machine.{IsSound, world_of}
use Rattle.cell_machine.proofs.Free.{names_free, stem_free}
use Rattle.cell_machine.proofs.States.{known_at}
use Rattle.cell_change.specs.OldCells.{AreAttached, IsPut, aside_where}
use Rattle.cell_change.proofs.Decision.OldStates.{called_aside, stood_aside}
use Rattle.cell_change.proofs.Return.Returning.{state_in}

same_truth : (a b : Bool) → (a ≡ true → b ≡ true) → (b ≡ true → a ≡ true) → a ≡ b
same_truth true b f g = sym (f refl)
same_truth false true f g = g refl
same_truth false false f g = refl

equals_turned : (a b : List ℕ) → equals a b ≡ true → equals b a ≡ true
equals_turned a b e = (bytes_eq-Decides b a).1 (sym ((bytes_eq-Decides a b).0 e))

equals_either : (a b : List ℕ) → equals a b ≡ equals b a
equals_either a b = same_truth (equals a b) (equals b a) (equals_turned a b) (equals_turned b a)

in_common : (xs ys : List (List ℕ)) → list_any (holds_name ys) xs ≡ true → list_any (holds_name xs) ys ≡ true
in_common xs ys h =
    let x = any-Has (holds_name ys) xs h in
    let y = any-Has (λ other. equals other x.0) ys x.2 in
    any-In (holds_name xs) ys y.0 y.1 (any-In (λ other. equals other y.0) xs x.0 x.1 (equals_turned y.0 x.0 y.2))

common_either : (xs ys : List (List ℕ)) → list_any (holds_name ys) xs ≡ list_any (holds_name xs) ys
common_either xs ys = same_truth (list_any (holds_name ys) xs) (list_any (holds_name xs) ys) (in_common xs ys) (in_common ys xs)

path_either : (spaces : List Namespace) (a b : ℕ) → are_on_one_path spaces a b ≡ are_on_one_path spaces b a
path_either spaces a b = or_comm (holds (chain spaces a) b) (holds (chain spaces b) a)

-- the order of the two makes no difference
stand_either : (w : World) (a b : Cell) → may_both_stand w a b ≡ may_both_stand w b a
stand_either w a b =
    ap (λ p. not (is_attached a.standing && is_attached b.standing && p) || not (equals a.stem b.stem) && not (list_any (holds_name (all_names b)) (all_names a))) (path_either w.namespaces a.ns b.ns)
    ∙ (ap (λ e. not (is_attached a.standing && is_attached b.standing && are_on_one_path w.namespaces b.ns a.ns) || not e && not (list_any (holds_name (all_names b)) (all_names a))) (equals_either a.stem b.stem)
    ∙ (ap (λ l. not (is_attached a.standing && is_attached b.standing && are_on_one_path w.namespaces b.ns a.ns) || not (equals b.stem a.stem) && not l) (common_either (all_names a) (all_names b))
    ∙ ap (λ t. not (t && are_on_one_path w.namespaces b.ns a.ns) || not (equals b.stem a.stem) && not (list_any (holds_name (all_names a)) (all_names b))) (and_comm (is_attached a.standing) (is_attached b.standing))))

-- the cells of a number that was attached
module _ (before : Machine) (sound : IsSound before) (n : ℕ) (at : state_in before.spaces.cells n ≡ Some Attached) where
  stood : (d : Cell) → In d (world_of before).cells → d.id.0 ≡ n → d.standing ≡ Attached
  stood d i e = same d.standing Attached (ap (option_map (λ (c : SpaceCell). c.state)) (sym (known_at before sound d i)) ∙ (ap (state_in before.spaces.cells) e ∙ at))
    where
      same : (a b : Standing) → (let o : Option Standing = Some a in o) ≡ Some b → a ≡ b
      same a b h = cc

  pub are_attached : AreAttached before.spaces.cells n
  are_attached = In-All (λ (c : SpaceCell). IsTrue (is_numbered n c) → c.state ≡ Attached) before.spaces.cells (λ c i t.
      let d = In-map called (world_of before).cells c (subst (λ (cs : List SpaceCell). In c cs) (sym sound.joined.called) i) in
      ap (λ (x : SpaceCell). x.state) d.2 ∙ stood d.0 d.1 (ap (λ (x : SpaceCell). x.cell.0) (sym d.2) ∙ eqb-true c.cell.0 n t))

module _ (before : Machine) (sound : IsSound before) (k : ℕ) (p : ℕ → Bool) where
  abbrev w : World
  w = world_of before

  -- the cells as they stand now
  abbrev now : List Cell
  now = map (stood_aside k p) w.cells

  -- an attached cell that is put aside may stand with each of them
  may_stand : (d : Cell) → In d w.cells → p d.id.0 ≡ true → (e : Cell) → In e now → may_both_stand w e d ≡ true
  may_stand d i t e j = let x = In-map (stood_aside k p) w.cells e j in subst (λ (y : Cell). may_both_stand w y d ≡ true) (sym x.2) (go x.0 x.1 (p x.0.id.0) refl)
    where
      other : (x : Cell) → p x.id.0 ≡ false → (x ≡ d) ⊎ ((may_both_stand w x d ≡ true) ⊎ (may_both_stand w d x ≡ true)) → may_both_stand w x d ≡ true
      other x f (inl s) = absurd (true≢false (sym t ∙ (ap (λ (y : Cell). p y.id.0) (sym s) ∙ f)))
      other x f (inr (inl h)) = h
      other x f (inr (inr h)) = stand_either w x d ∙ h

      go : (x : Cell) → In x w.cells → (b : Bool) → p x.id.0 ≡ b → may_both_stand w (cond b (record x { standing = Detached k }) x) d ≡ true
      go x m true f = refl
      go x m false f = other x f (pairs-In (may_both_stand w) w.cells sound.coherent.ready.names x d m i)

  module _ (s : SpacesState) (namespaces : s.namespaces ≡ before.spaces.namespaces) (put : IsPut before.spaces.cells k p s.cells) where
    cells_now : s.cells ≡ map called now
    cells_now = put ∙ (ap (map (aside_where k p)) (sym sound.joined.called) ∙ called_aside k p w.cells)

    record CellNow (c : SpaceCell) : Type 0 where
      cell : Cell
      there : In cell w.cells
      is : c ≡ called (stood_aside k p cell)

    cell_now : (c : SpaceCell) → In c s.cells → CellNow c
    cell_now c i =
        let e = In-map called now c (subst (λ (cs : List SpaceCell). In c cs) cells_now i) in
        let d = In-map (stood_aside k p) w.cells e.0 e.1 in
        record { cell = d.0; there = d.1; is = e.2 ∙ ap called d.2 }

    free_aside : (d : Cell) → In d w.cells → is_attached d.standing ≡ true → p d.id.0 ≡ true → IsFree s (called (record d { standing = Detached k }))
    free_aside d i a t = record {
      stem = subst (λ (spaces : List Namespace). clash_stem spaces d.ns d.stem s.cells ≡ None) (sym namespaces)
          (subst (λ (cs : List SpaceCell). clash_stem w.namespaces d.ns d.stem cs ≡ None) (sym cells_now) (stem_free w now d a (may_stand d i t)));
      names = subst (λ (spaces : List Namespace). All (λ a. clash_name spaces d.ns a.name s.cells ≡ None) (called d).names) (sym namespaces)
          (subst (λ (cs : List SpaceCell). All (λ a. clash_name w.namespaces d.ns a.name cs ≡ None) (called d).names) (sym cells_now) (names_free w now d a (may_stand d i t)));
    }

    number_now : (d : Cell) → (called (stood_aside k p d)).cell.0 ≡ d.id.0
    number_now d = go (p d.id.0)
      where
        go : (b : Bool) → (called (cond b (record d { standing = Detached k }) d)).cell.0 ≡ d.id.0
        go true = refl
        go false = refl

    module _ (n : ℕ) (at : state_in before.spaces.cells n ≡ Some Attached) where
      -- a cell of that number as it stands now
      numbered_now : (c : SpaceCell) (d : CellNow c) → is_numbered n c ≡ true → d.cell.id.0 ≡ n
      numbered_now c d t = sym (number_now d.cell) ∙ (ap (λ (x : SpaceCell). x.cell.0) (sym d.is) ∙ eqb-true c.cell.0 n t)

      -- it was put aside, where one is detached now
      put_now : HasDetached s n → p n ≡ true
      put_now h =
          let y = some_has (find (λ c. is_numbered n c && not (is_in Attached c)) s.cells) h in
          let i = found-In (λ c. is_numbered n c && not (is_in Attached c)) s.cells y.0 y.1 in
          let t = and_parts (is_numbered n y.0) (not (is_in Attached y.0)) i.1 in
          let d = cell_now y.0 i.0 in
          let number = numbered_now y.0 d t.0 in
          ap p (sym number) ∙ go d.cell (stood before sound n at d.cell d.there number) (p d.cell.id.0) (subst (λ (x : SpaceCell). not (is_in Attached x) ≡ true) d.is t.1)
        where
          go : (d : Cell) → d.standing ≡ Attached → (b : Bool) → not (is_in Attached (called (cond b (record d { standing = Detached k }) d))) ≡ true → b ≡ true
          go d e true f = refl
          go d e false f = absurd (true≢false (sym (subst (λ (x : Standing). not (is_state Attached x) ≡ true) e f)))

      pub no_rival : HasDetached s n → HasNoRival s n
      no_rival h c e =
          let i = found-In (is_numbered n) s.cells c e in
          let d = cell_now c i.0 in
          let number = numbered_now c d i.1 in
          let t : p d.cell.id.0 ≡ true = ap p number ∙ put_now h in
          let is : c ≡ called (record d.cell { standing = Detached k }) = d.is ∙ ap (λ (b : Bool). called (cond b (record d.cell { standing = Detached k }) d.cell)) t in
          subst (λ (x : SpaceCell). IsFree s x) (sym is) (free_aside d.cell d.there (attached_by d.cell.standing (stood before sound n at d.cell d.there number)) t)
        where
          attached_by : (x : Standing) → x ≡ Attached → is_attached x ≡ true
          attached_by Attached f = refl
          attached_by (Detached l) f = absurd (cc f)
