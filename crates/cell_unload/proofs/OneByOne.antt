-- What goes with the first of several cells, and what is left for the others.
use Rattle.std.proofs.Common.{◌≡◌, refl, sym, ◌∙◌, ap, subst, arith, ℕ, zero, suc, ◌+◌, ◌<◌, ◌≤◌, inl, inr, Bool, true, false, cond, not, ◌&&◌, List, [], ◌∷◌, ◌++◌, drop, get_or, length, map}
use Rattle.std.specs.Prelude.{◌==◌, All, filter, flat_map, is_some, nat_lt}
use Rattle.std.specs.List.{list_all}
use Rattle.std.proofs.lemmas.Bool.{and_parts, eqb-true, ltb-true}
use Rattle.std.proofs.lemmas.List.{drop_all, drop_more}
use Rattle.cell_num.specs.Lists.{In, each_pair, holds}
use Rattle.cell_num.proofs.Elements.{All-In, In-All, all-In, filter-In, filter_all, find_there, found-In, map-In, some_has}
use Rattle.cell_machine.specs.Staged.{all_attached}
use Rattle.cell_mem.specs.State.{MemoryState}
use Rattle.cell_num.specs.declared.ids.CellId.{CellId}
use Rattle.cell_space.specs.Named.{cell_numbered, is_numbered, without}
use Rattle.cell_space.specs.declared.cell.SpaceCell.{SpaceCell}
use Rattle.cell_world.specs.Commands.UnloadCommand.{starts_of}
use Rattle.cell_world.specs.World.{attached}
use Rattle.cell_world.specs.declared.state.NewCell.{NewCell}
use Rattle.cell_unload.specs.Unmapped.{CanLeave, lost_starts, without_regions}
use Rattle.cell_unload.proofs.Leftovers.{filter_twice, not_or, turn}
use Rattle.cell_unload.proofs.Unmapping.{leave_parts, without_both}

module _ (numbers : List ℕ) (c : NewCell) (rest : List NewCell) where
  abbrev others : List ℕ
  others = lost_starts (all_attached rest) numbers

  lost_by : (b : Bool) → holds numbers c.id.0 ≡ b → lost_starts (all_attached (c ∷ rest)) numbers ≡ flat_map starts_of (cond b (attached c ∷ filter (λ d. holds numbers d.id.0) (all_attached rest)) (filter (λ d. holds numbers d.id.0) (all_attached rest)))
  lost_by b h = ap (λ (b : Bool). flat_map starts_of (cond b (attached c ∷ filter (λ d. holds numbers d.id.0) (all_attached rest)) (filter (λ d. holds numbers d.id.0) (all_attached rest)))) h

  pub lost_first : holds numbers c.id.0 ≡ true → lost_starts (all_attached (c ∷ rest)) numbers ≡ starts_of (attached c) ++ others
  lost_first h = lost_by true h

  pub lost_others : holds numbers c.id.0 ≡ false → lost_starts (all_attached (c ∷ rest)) numbers ≡ others
  lost_others h = lost_by false h

  -- a cell that goes, and then the others
  pub record First (m : MemoryState) : Type 0 where
    pub own : CanLeave m (starts_of (attached c))
    pub others : CanLeave (without_regions m (starts_of (attached c))) (lost_starts (all_attached rest) numbers)
    pub both : without_regions m (lost_starts (all_attached (c ∷ rest)) numbers) ≡ without_regions (without_regions m (starts_of (attached c))) (lost_starts (all_attached rest) numbers)

  pub first_goes : (m : MemoryState) → holds numbers c.id.0 ≡ true → CanLeave m (lost_starts (all_attached (c ∷ rest)) numbers) → First m
  first_goes m h can =
      let p = leave_parts (starts_of (attached c)) others m (subst (λ (l : List ℕ). CanLeave m l) (lost_first h) can) in
      record { own = p.0; others = p.1; both = ap (without_regions m) (lost_first h) ∙ without_both (starts_of (attached c)) others m }

-- an element is the first of what is left from its place on
pub at_place : {X : Type 0} (xs : List X) (place : ℕ) (x : X) → place < length xs → x ≡ get_or xs place x → drop place xs ≡ x ∷ drop (place + 1) xs
at_place {X} xs place x lt is = drop_more xs place x lt ∙ ap (λ (y : X). y ∷ drop (place + 1) xs) (sym is)

-- what is there is read whatever else would have been
pub read_either : {X : Type 0} (xs : List X) (place : ℕ) (a b : X) → place < length xs → get_or xs place a ≡ get_or xs place b
read_either [] place a b lt = absurd (omega (arith, lt))
read_either (x ∷ xs) zero a b lt = refl
read_either (x ∷ xs) (suc place) a b lt = read_either xs place a b (omega (arith, lt))

-- the regions

pub record OneMore (numbers : List ℕ) (present : List NewCell) (place : ℕ) (m new : MemoryState) : Type 0 where
  pub left : without_regions new (lost_starts (all_attached (drop (place + 1) present)) numbers) ≡ without_regions m (lost_starts (all_attached (drop place present)) numbers)
  pub there : CanLeave new (lost_starts (all_attached (drop (place + 1) present)) numbers)

module _ (numbers : List ℕ) (present : List NewCell) (place : ℕ) (c : NewCell) (lt : place < length present) (is : c ≡ get_or present place c) (m : MemoryState) (can : CanLeave m (lost_starts (all_attached (drop place present)) numbers)) where
  abbrev rest : List NewCell
  rest = drop (place + 1) present

  from_here : drop place present ≡ c ∷ rest
  from_here = at_place present place c lt is

  can_first : CanLeave m (lost_starts (all_attached (c ∷ rest)) numbers)
  can_first = subst (λ (cs : List NewCell). CanLeave m (lost_starts (all_attached cs) numbers)) from_here can

  pub can_go : holds numbers c.id.0 ≡ true → CanLeave m (starts_of (attached c))
  can_go h = (first_goes numbers c rest m h can_first).own

  pub goes_now : holds numbers c.id.0 ≡ true → (new : MemoryState) → new ≡ without_regions m (starts_of (attached c)) → OneMore numbers present place m new
  goes_now h new e =
      let f : First numbers c rest m = first_goes numbers c rest m h can_first in
      record {
        left = ap (λ (v : MemoryState). without_regions v (lost_starts (all_attached rest) numbers)) e ∙ (sym f.both ∙ ap (λ (cs : List NewCell). without_regions m (lost_starts (all_attached cs) numbers)) (sym from_here));
        there = subst (λ (v : MemoryState). CanLeave v (lost_starts (all_attached rest) numbers)) (sym e) f.others;
      }

  pub stays_now : holds numbers c.id.0 ≡ false → (new : MemoryState) → new ≡ m → OneMore numbers present place m new
  stays_now h new e =
      let same : lost_starts (all_attached (drop place present)) numbers ≡ lost_starts (all_attached rest) numbers = ap (λ (cs : List NewCell). lost_starts (all_attached cs) numbers) from_here ∙ lost_others numbers c rest h in
      record {
        left = ap (λ (v : MemoryState). without_regions v (lost_starts (all_attached rest) numbers)) e ∙ ap (without_regions m) (sym same);
        there = subst (λ (v : MemoryState). CanLeave v (lost_starts (all_attached rest) numbers)) (sym e) (subst (λ (l : List ℕ). CanLeave m l) same can);
      }

-- the names

abbrev numbers_in : List CellId → List ℕ
numbers_in cells = map (λ c. c.0) cells

pub record OneFewer (cells : List CellId) (place : ℕ) (old new : List SpaceCell) : Type 0 where
  pub left : filter (λ c. not (holds (map (λ d. d.0) (drop (place + 1) cells)) c.cell.0)) new ≡ filter (λ c. not (holds (map (λ d. d.0) (drop place cells)) c.cell.0)) old
  pub present : All (λ c. is_some (cell_numbered new c.0) ≡ true) (drop (place + 1) cells)
  pub rising : each_pair nat_lt (map (λ c. c.0) (drop (place + 1) cells)) ≡ true

still_named : (xs : List SpaceCell) (n d : ℕ) → n < d → is_some (cell_numbered xs d) ≡ true → is_some (cell_numbered (without n xs) d) ≡ true
still_named xs n d lt h =
    let f = some_has (cell_numbered xs d) h in
    let g = found-In (is_numbered d) xs f.0 f.1 in
    ap is_some (find_there (is_numbered d) (without n xs) f.0 (filter-In (λ c. not (is_numbered n c)) xs f.0 g.0 (differs f.0 (eqb-true f.0.cell.0 d g.1))) g.1).1
  where
    differs : (c : SpaceCell) → c.cell.0 ≡ d → not (is_numbered n c) ≡ true
    differs c e = go (c.cell.0 == n) refl
      where
        go : (b : Bool) → (c.cell.0 == n) ≡ b → not b ≡ true
        go true k = absurd (omega (arith, lt, e, eqb-true c.cell.0 n k))
        go false k = refl

module _ (cells : List CellId) (place : ℕ) (c : CellId) (lt : place < length cells) (is : c ≡ get_or cells place c) (old : List SpaceCell) where
  abbrev later : List CellId
  later = drop (place + 1) cells

  here : drop place cells ≡ c ∷ later
  here = at_place cells place c lt is

  pub is_named : All (λ d. is_some (cell_numbered old d.0) ≡ true) (drop place cells) → is_some (cell_numbered old c.0) ≡ true
  is_named all = All-In (λ (d : CellId). is_some (cell_numbered old d.0) ≡ true) (drop place cells) all c (subst (λ (cs : List CellId). In c cs) (sym here) (inl refl))

  pub one_dropped : All (λ d. is_some (cell_numbered old d.0) ≡ true) (drop place cells) → each_pair nat_lt (map (λ d. d.0) (drop place cells)) ≡ true → (new : List SpaceCell) → new ≡ without c.0 old → OneFewer cells place old new
  one_dropped all rise new e =
      let r : each_pair nat_lt (numbers_in (c ∷ later)) ≡ true = subst (λ (cs : List CellId). each_pair nat_lt (numbers_in cs) ≡ true) here rise in
      let p : (list_all (nat_lt c.0) (numbers_in later) ≡ true) × (each_pair nat_lt (numbers_in later) ≡ true) = and_parts (list_all (nat_lt c.0) (numbers_in later)) (each_pair nat_lt (numbers_in later)) r in
      record {
        left = ap (filter (λ (x : SpaceCell). not (holds (numbers_in later) x.cell.0))) e ∙ (gone ∙ ap (λ (cs : List CellId). filter (λ (x : SpaceCell). not (holds (numbers_in cs) x.cell.0)) old) (sym here));
        present = In-All (λ (d : CellId). is_some (cell_numbered new d.0) ≡ true) later (λ d i. subst (λ (xs : List SpaceCell). is_some (cell_numbered xs d.0) ≡ true) (sym e)
            (still_named old c.0 d.0 (ltb-true c.0 d.0 (all-In (nat_lt c.0) (numbers_in later) p.0 d.0 (map-In (λ (x : CellId). x.0) later d i)))
            (All-In (λ (d : CellId). is_some (cell_numbered old d.0) ≡ true) (drop place cells) all d (subst (λ (cs : List CellId). In d cs) (sym here) (inr i)))));
        rising = p.1;
      }
    where
      gone : filter (λ (x : SpaceCell). not (holds (numbers_in later) x.cell.0)) (without c.0 old) ≡ filter (λ (x : SpaceCell). not (holds (numbers_in (c ∷ later)) x.cell.0)) old
      gone = filter_twice (λ (x : SpaceCell). not (holds (numbers_in later) x.cell.0)) (λ (x : SpaceCell). not (is_numbered c.0 x)) (λ (x : SpaceCell). not (holds (numbers_in (c ∷ later)) x.cell.0)) old
          (λ x. not_or (c.0 == x.cell.0) (holds (numbers_in later) x.cell.0) ∙ ap (λ b. not b && not (holds (numbers_in later) x.cell.0)) (turn c.0 x.cell.0))

-- none is left at the end
pub all_dropped : (cells : List CellId) (place : ℕ) → length cells ≤ place → (now end : List SpaceCell) → filter (λ c. not (holds (map (λ d. d.0) (drop place cells)) c.cell.0)) now ≡ end → now ≡ end
all_dropped cells place le now end e =
    sym (filter_all (λ (c : SpaceCell). not (holds [] c.cell.0)) now (λ c i. refl))
    ∙ (ap (λ (cs : List CellId). filter (λ (c : SpaceCell). not (holds (numbers_in cs) c.cell.0)) now) (sym (drop_all place cells le)) ∙ e)
