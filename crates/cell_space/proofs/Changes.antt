-- The list of cells after a change.
use Rattle.std.proofs.Common.{◌≡◌, ℕ, zero, suc, ◌+◌, ◌<◌, Bool, true, false, cond, List, [], ◌∷◌, ◌++◌, Some, length, take, drop, get_or, refl, ap, sym, subst, ◌∙◌, arith}
use Rattle.std.specs.Prelude.{Option, All, find, map, insert, not}
use Rattle.std.specs.List.{position_or_len}
use Rattle.std.proofs.Math.ListN.{set}
use Rattle.std.proofs.lemmas.List.Elements.{All-cons, All-head, All-tail, All-append, All-take, All-drop, All-filter, All-map, All-weaker, All-same}
use Rattle.cell_world.specs.declared.state.Namespace.{Namespace}
use Rattle.cell_world.specs.World.{Standing}
use Rattle.cell_space.specs.declared.cell.SpaceCell.{SpaceCell}
use Rattle.cell_space.specs.Named.{is_numbered, is_higher, put_into, with_cell, with_state, without, cell_numbered}
use Rattle.cell_space.specs.Spaces.{AreSound}

-- an element in its own place after the function, as those before it
pub set_more : {X : Type 0} (f : X → X) (xs : List X) (i : ℕ) (d : X) → i < length xs
    → set (map f (take i xs) ++ drop i xs) i (f (get_or (map f (take i xs) ++ drop i xs) i d)) ≡ map f (take (i + 1) xs) ++ drop (i + 1) xs
set_more f [] i d lt = absurd (omega arith)
set_more f (x ∷ xs) zero d lt = refl
set_more f (x ∷ xs) (suc i) d lt =
    ap (λ ys. f x ∷ ys) (set_more f xs i d (omega arith))
    ∙ ap (λ n. map f (take n (x ∷ xs)) ++ drop n (x ∷ xs)) (let e : suc (i + 1) ≡ suc i + 1 = omega arith in e)

higher_first : (b : Bool) (c d : SpaceCell) (cells rest : List SpaceCell) (i : ℕ) → insert cells i c ≡ rest
    → insert (d ∷ cells) (cond (not b) (1 + i) 0) c ≡ cond b (c ∷ d ∷ cells) (d ∷ rest)
higher_first true c d cells rest i e = refl
higher_first false c d cells rest i e =
    ap (λ n. insert (d ∷ cells) n c) (let one : 1 + i ≡ suc i = omega arith in one) ∙ ap (λ ys. d ∷ ys) e

-- the cell stands before the first of a higher number
pub insert-with_cell : (c : SpaceCell) (cells : List SpaceCell) → insert cells (position_or_len (is_higher c.cell.0) cells) c ≡ with_cell c cells
insert-with_cell c [] = refl
insert-with_cell c (d ∷ cells) = higher_first (is_higher c.cell.0 d) c d cells (with_cell c cells) (position_or_len (is_higher c.cell.0) cells) (insert-with_cell c cells)

module _ (P : SpaceCell → Type 0) where
  pub All-with_cell : (c : SpaceCell) (cells : List SpaceCell) → P c → All P cells → All P (with_cell c cells)
  All-with_cell c cells p all =
      let i = position_or_len (is_higher c.cell.0) cells in
      All-same P _ _ (sym (insert-with_cell c cells)) (All-append P (take i cells) (c ∷ drop i cells) (All-take P i cells all) (All-cons P c (drop i cells) p (All-drop P i cells all)))

  one_found : (b : Bool) (c d : SpaceCell) (rest : Option SpaceCell) → P d → (rest ≡ Some c → P c) → cond b (Some d) rest ≡ Some c → P c
  one_found true c d rest p f e = let same : d ≡ c = cc in subst P same p
  one_found false c d rest p f e = f e

  pub All-find : (test : SpaceCell → Bool) (cells : List SpaceCell) (c : SpaceCell) → All P cells → find test cells ≡ Some c → P c
  All-find test [] c all e = absurd (cc e)
  All-find test (d ∷ cells) c all e =
      one_found (test d) c d (find test cells) (All-head P d cells all) (All-find test cells c (All-tail P d cells all)) e

changed : (b : Bool) (state : Standing) (c : SpaceCell) → (let d : SpaceCell = cond b (record c { state = state }) c in d.ns) ≡ c.ns
changed true state c = refl
changed false state c = refl

pub ns-put_into : (state : Standing) (number : ℕ) (c : SpaceCell) → (put_into state number c).ns ≡ c.ns
ns-put_into state number c = changed (is_numbered number c) state c

module _ (spaces : List Namespace) (cells : List SpaceCell) (sound : AreSound spaces cells) where
  abbrev Inside : SpaceCell → Type 0
  Inside c = c.ns < length spaces

  pub sound-with_cell : (c : SpaceCell) → c.ns < length spaces → AreSound spaces (with_cell c cells)
  sound-with_cell c there = record { rooted = sound.rooted; few = sound.few; inside = All-with_cell Inside c cells there sound.inside }

  pub sound-with_state : (state : Standing) (number : ℕ) → AreSound spaces (with_state state number cells)
  sound-with_state state number = record {
    rooted = sound.rooted;
    few = sound.few;
    inside = All-map Inside (put_into state number) cells (All-weaker Inside (λ c. Inside (put_into state number c)) (λ c lt. subst (λ n. n < length spaces) (sym (ns-put_into state number c)) lt) cells sound.inside);
  }

  pub sound-without : (number : ℕ) → AreSound spaces (without number cells)
  sound-without number = record { rooted = sound.rooted; few = sound.few; inside = All-filter (λ c. not (is_numbered number c)) Inside cells sound.inside }

  pub found_inside : (number : ℕ) (c : SpaceCell) → cell_numbered cells number ≡ Some c → c.ns < length spaces
  found_inside number c e = All-find Inside (is_numbered number) cells c sound.inside e
