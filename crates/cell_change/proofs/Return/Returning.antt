-- Old cells put aside, and attached again, one by one.
use Rattle.std.proofs.Common.{◌≡◌, refl, sym, ◌∙◌, ap, subst, arith, ℕ, ◌+◌, ◌<◌, ◌≤◌, Bool, true, false, cond, true≢false, ◌&&◌, ◌||◌, List, [], ◌∷◌, ◌++◌, get_or, length, map, take}
use Rattle.std.specs.Prelude.{◌==◌, Option, Some, None, IsSome, IsTrue, find, not, option_map}
use Rattle.std.proofs.lemmas.Bool.{eqb-true}
use Rattle.std.proofs.lemmas.Bool.Decides.{nat_tests}
use Rattle.std.proofs.lemmas.List.{take_all, take_more}
use Rattle.std.proofs.Math.Bool.{or_assoc, or-false}
use Rattle.cell_num.specs.declared.ids.CellId.{CellId}
use Rattle.cell_num.proofs.Elements.{All-In, find_there, found-In, map_same}
use Rattle.cell_lemmas.proofs.Fields.Relinked.{map_twice}
use Rattle.cell_world.specs.World.{Standing}
use Rattle.cell_world.specs.declared.state.Standing.TheVariants.{Attached, Detached}
use Rattle.cell_space.specs.declared.cell.SpaceCell.{SpaceCell}
use Rattle.cell_space.specs.Named.{cell_numbered, is_numbered, put_into, with_state}
use Rattle.cell_change.specs.OldCells.{AreAttached, IsPut, among, aside_where}

mapped_from : {X Y : Type 0} (f : X → Y) (o : Option X) (y : Y) → option_map f o ≡ Some y → (x : X) × (o ≡ Some x) × (f x ≡ y)
mapped_from f None y e = absurd (cc e)
mapped_from f (Some x) y e = (x, refl, let k : f x ≡ y = cc in k)

is_some_one : {X : Type 0} (o : Option X) (x : X) → o ≡ Some x → IsSome o
is_some_one None x e = absurd (cc e)
is_some_one (Some y) x e = refl

abbrev pub state_in : List SpaceCell → ℕ → Option Standing
state_in cells n = option_map (λ c. c.state) (cell_numbered cells n)

pub has_state : (cells : List SpaceCell) (n : ℕ) (s : Standing) → state_in cells n ≡ Some s → IsSome (cell_numbered cells n)
has_state cells n s e = let x = mapped_from (λ (c : SpaceCell). c.state) (cell_numbered cells n) s e in is_some_one (cell_numbered cells n) x.0 x.1

-- a test that holds in that state finds the cell
pub found_in : (test : Standing → Bool) (cells : List SpaceCell) (n : ℕ) (s : Standing) → state_in cells n ≡ Some s → test s ≡ true → IsSome (find (λ c. is_numbered n c && test c.state) cells)
found_in test cells n s e t =
    let x = mapped_from (λ (c : SpaceCell). c.state) (cell_numbered cells n) s e in
    let i = found-In (is_numbered n) cells x.0 x.1 in
    let y = find_there (λ c. is_numbered n c && test c.state) cells x.0 i.0 (both (is_numbered n x.0) (test x.0.state) i.1 (ap test x.2 ∙ t)) in
    is_some_one (find (λ c. is_numbered n c && test c.state) cells) y.0 y.1
  where
    both : (a b : Bool) → a ≡ true → b ≡ true → (a && b) ≡ true
    both true b e f = f
    both false b e f = e

-- the same cells are put aside
pub put_same : (before : List SpaceCell) (k : ℕ) (p q : ℕ → Bool) (cells : List SpaceCell) → ((n : ℕ) → p n ≡ q n) → IsPut before k p cells → IsPut before k q cells
put_same before k p q cells f put = put ∙ map_same (aside_where k p) (aside_where k q) before (λ c i. ap (λ b. cond b (record c { state = Detached k }) c) (f c.cell.0))

pub put_none : (before : List SpaceCell) (k : ℕ) (p : ℕ → Bool) (cells : List SpaceCell) → ((n : ℕ) → p n ≡ false) → IsPut before k p cells → cells ≡ before
put_none before k p cells f put = put_same before k p (λ n. false) cells f put ∙ all_same before
  where
    all_same : (cells : List SpaceCell) → map (aside_where k (λ n. false)) cells ≡ cells
    all_same [] = refl
    all_same (c ∷ cells) = ap (λ (cs : List SpaceCell). c ∷ cs) (all_same cells)

pub put_first : (before : List SpaceCell) (k : ℕ) → IsPut before k (λ n. false) before
put_first before k = sym (put_none before k (λ n. false) (map (aside_where k (λ n. false)) before) (λ n. refl) refl)

module _ (before : List SpaceCell) (k : ℕ) (p : ℕ → Bool) where
  number_put : (c : SpaceCell) → (aside_where k p c).cell.0 ≡ c.cell.0
  number_put c = go (p c.cell.0)
    where
      go : (b : Bool) → (let d : SpaceCell = cond b (record c { state = Detached k }) c in d.cell.0) ≡ c.cell.0
      go true = refl
      go false = refl

  numbered_put : (cells : List SpaceCell) (n : ℕ) → cell_numbered (map (aside_where k p) cells) n ≡ option_map (aside_where k p) (cell_numbered cells n)
  numbered_put [] n = refl
  numbered_put (c ∷ cells) n =
      ap (λ (m : ℕ). cond (m == n) (Some (aside_where k p c)) (cell_numbered (map (aside_where k p) cells) n)) (number_put c)
      ∙ one (c.cell.0 == n) (cell_numbered (map (aside_where k p) cells) n) (cell_numbered cells n) (numbered_put cells n)
    where
      one : (b : Bool) (found rest : Option SpaceCell) → found ≡ option_map (aside_where k p) rest → cond b (Some (aside_where k p c)) found ≡ option_map (aside_where k p) (cond b (Some c) rest)
      one true found rest e = refl
      one false found rest e = e

  -- the state of a cell that was attached
  abbrev pub state_by : Bool → Standing
  state_by b = cond b (Detached k) Attached

  pub state_put : (c : SpaceCell) → c.state ≡ Attached → (aside_where k p c).state ≡ state_by (p c.cell.0)
  state_put c e = go (p c.cell.0)
    where
      go : (b : Bool) → (let d : SpaceCell = cond b (record c { state = Detached k }) c in d.state) ≡ state_by b
      go true = refl
      go false = e

  module _ (cells : List SpaceCell) (put : IsPut before k p cells) (n : ℕ) where
    pub told : state_in before n ≡ Some Attached → state_in cells n ≡ Some (state_by (p n))
    told at =
        let x = mapped_from (λ (c : SpaceCell). c.state) (cell_numbered before n) Attached at in
        let number : x.0.cell.0 ≡ n = eqb-true x.0.cell.0 n (found-In (is_numbered n) before x.0 x.1).1 in
        ap (λ (cs : List SpaceCell). state_in cs n) put
        ∙ (ap (option_map (λ (c : SpaceCell). c.state)) (numbered_put before n ∙ ap (option_map (aside_where k p)) x.1)
        ∙ ap (λ (s : Standing). Some s) (state_put x.0 x.2 ∙ ap (λ m. state_by (p m)) number))

    -- what isn't attached was put aside
    pub is_put : (group : ℕ) → state_in before n ≡ Some Attached → state_in cells n ≡ Some (Detached group) → p n ≡ true
    is_put group at now = go (p n) (sym (told at) ∙ now)
      where
        go : (b : Bool) → Some (state_by b) ≡ Some (Detached group) → b ≡ true
        go true e = refl
        go false e = absurd (cc e)

    -- one more cell is put aside
    pub more_aside : (new : List SpaceCell) → new ≡ with_state (Detached k) n cells → IsPut before k (λ m. p m || m == n) new
    more_aside new e = e ∙ (ap (with_state (Detached k) n) put ∙ (map_twice (put_into (Detached k) n) (aside_where k p) before ∙ map_same _ _ before (λ c i. one c)))
      where
        one : (c : SpaceCell) → put_into (Detached k) n (aside_where k p c) ≡ aside_where k (λ m. p m || m == n) c
        one c = ap (λ (m : ℕ). cond (m == n) (record (aside_where k p c) { state = Detached k }) (aside_where k p c)) (number_put c) ∙ go (p c.cell.0) (c.cell.0 == n)
          where
            go : (b t : Bool) → (let d : SpaceCell = cond b (record c { state = Detached k }) c in cond t (record d { state = Detached k }) d) ≡ cond (b || t) (record c { state = Detached k }) c
            go true true = refl
            go true false = refl
            go false true = refl
            go false false = refl

    -- and it makes no difference where it was
    pub aside_again : p n ≡ true → IsPut before k (λ m. p m || m == n) cells
    aside_again is = put_same before k p (λ m. p m || m == n) cells (λ m. go (p m) (m == n) (λ e. ap p (eqb-true m n e) ∙ is)) put
      where
        go : (b t : Bool) → (t ≡ true → b ≡ true) → b ≡ (b || t)
        go true t f = refl
        go false true f = f refl
        go false false f = refl

    -- one cell is attached again
    pub less_aside : (new : List SpaceCell) → AreAttached before n → new ≡ with_state Attached n cells → IsPut before k (λ m. p m && not (m == n)) new
    less_aside new attached e =
        e ∙ (ap (with_state Attached n) put ∙ (map_twice (put_into Attached n) (aside_where k p) before ∙ map_same _ _ before (λ c i. one c (All-In (λ (c : SpaceCell). IsTrue (is_numbered n c) → c.state ≡ Attached) before attached c i))))
      where
        one : (c : SpaceCell) → (is_numbered n c ≡ true → c.state ≡ Attached) → put_into Attached n (aside_where k p c) ≡ aside_where k (λ m. p m && not (m == n)) c
        one c was = ap (λ (m : ℕ). cond (m == n) (record (aside_where k p c) { state = Attached }) (aside_where k p c)) (number_put c) ∙ go (p c.cell.0) (c.cell.0 == n) was
          where
            go : (b t : Bool) → (t ≡ true → c.state ≡ Attached) → (let d : SpaceCell = cond b (record c { state = Detached k }) c in cond t (record d { state = Attached }) d) ≡ cond (b && not t) (record c { state = Detached k }) c
            go true true f = ap (λ (s : Standing). record c { state = s }) (sym (f refl))
            go true false f = refl
            go false true f = ap (λ (s : Standing). record c { state = s }) (sym (f refl))
            go false false f = refl

    was_attached : AreAttached before n → IsSome (cell_numbered cells n) → state_in before n ≡ Some Attached
    was_attached attached has = go (cell_numbered before n) refl (subst IsSome (ap (λ (cs : List SpaceCell). cell_numbered cs n) put ∙ numbered_put before n) has)
      where
        go : (o : Option SpaceCell) → cell_numbered before n ≡ o → IsSome (option_map (aside_where k p) o) → option_map (λ (c : SpaceCell). c.state) o ≡ Some Attached
        go None e h = absurd (true≢false (sym h))
        go (Some c) e h =
            let i = found-In (is_numbered n) before c e in
            ap (λ (s : Standing). Some s) (All-In (λ (c : SpaceCell). IsTrue (is_numbered n c) → c.state ≡ Attached) before attached c i.0 i.1)

    pub attached_again : AreAttached before n → state_in cells n ≡ Some Attached → IsPut before k (λ m. p m && not (m == n)) cells
    attached_again attached now =
        let at = was_attached attached (has_state cells n Attached now) in
        let isnt = none (p n) (sym (told at) ∙ now) in
        put_same before k p (λ m. p m && not (m == n)) cells (λ m. go (p m) (m == n) (λ e. ap p (eqb-true m n e) ∙ isnt)) put
      where
        none : (b : Bool) → Some (state_by b) ≡ Some Attached → b ≡ false
        none true e = absurd (cc e)
        none false e = refl

        go : (b t : Bool) → (t ≡ true → b ≡ false) → b ≡ (b && not t)
        go true true f = f refl
        go true false f = refl
        go false t f = refl

turned : (a b : ℕ) → (a == b) ≡ (b == a)
turned a b = grind (arith, nat_tests)

pub among_more : (cells : List CellId) (c : CellId) (n : ℕ) → among (cells ++ c ∷ []) n ≡ (among cells n || n == c.0)
among_more [] c n = or-false (c.0 == n) ∙ turned c.0 n
among_more (d ∷ cells) c n = ap (λ b. d.0 == n || b) (among_more cells c n) ∙ sym (or_assoc (d.0 == n) (among cells n) (n == c.0))

-- whether the number is that of an old cell, and of none up to the place
abbrev pub still_aside : List CellId → ℕ → ℕ → Bool
still_aside old place n = among old n && not (among (take place old) n)

-- one cell further
module _ (old : List CellId) (place : ℕ) (below : place < length old) (n : ℕ) where
  abbrev none : CellId
  none = record { 0 = 0 }

  pub among_next : (among (take place old) n || n == (get_or old place none).0) ≡ among (take (place + 1) old) n
  among_next = sym (ap (λ (cells : List CellId). among cells n) (take_more old place none below) ∙ among_more (take place old) (get_or old place none) n)

  pub left_next : (still_aside old place n && not (n == (get_or old place none).0)) ≡ still_aside old (place + 1) n
  left_next = go (among old n) (among (take place old) n) (n == (get_or old place none).0) ∙ ap (λ b. among old n && not b) among_next
    where
      go : (a b t : Bool) → (a && not b && not t) ≡ (a && not (b || t))
      go true true t = refl
      go true false t = refl
      go false b t = refl

-- at the end none is left
pub none_left : (old : List CellId) (place : ℕ) (n : ℕ) → length old ≤ place → still_aside old place n ≡ false
none_left old place n all = ap (λ (cells : List CellId). among old n && not (among cells n)) (take_all place old all) ∙ go (among old n)
  where
    go : (b : Bool) → (b && not b) ≡ false
    go true = refl
    go false = refl
