-- One walk over the cells, and over the kept ones among them.
use Rattle.std.proofs.Common.{◌≡◌, refl, sym, ◌∙◌, ap, subst, arith, ℕ, ◌<◌, ◌≤◌, ◌+◌, suc, inl, Bool, true, false, cond, List, [], ◌∷◌, ◌++◌, map, length, drop, take, take_all, get_or}
use Rattle.std.specs.Prelude.{◌==◌, IsTrue, filter, nat_lt, not}
use Rattle.std.specs.List.{list_all}
use Rattle.std.proofs.lemmas.Bool.{eq-eqb}
use Rattle.std.proofs.lemmas.Bool.Decides.{nat_tests}
use Rattle.std.proofs.lemmas.List.{drop_more, map-append, take_more}
use Rattle.std.proofs.lemmas.List.Elements.{filter-append}
use Rattle.cell_num.specs.declared.ids.CellId.{CellId}
use Rattle.cell_num.specs.Lists.{each_pair, holds, In}
use Rattle.cell_world.specs.declared.state.NewCell.{NewCell}
use Rattle.cell_world.specs.Answer.{numbers_of}
use Rattle.cell_world.specs.Kept.{Holding}
use Rattle.cell_world.specs.Commands.UnloadCommand.{garbage_of}
use Rattle.cell_world.specs.World.{Cell}
use Rattle.cell_num.proofs.Elements.{all-In, In-filtered, pairs-map}
use Rattle.cell_num.proofs.Sublists.{and_left, and_right}
use Rattle.cell_lemmas.proofs.Holding.KeptPaths.{kept_order}
use Rattle.cell_space.specs.Joined.{placed_of}
use Rattle.cell_machine.specs.declared.machine.Machine.{Machine}
use Rattle.cell_machine.specs.Machine.{IsSound, world_of}
use Rattle.cell_unload.specs.declared.survey.Survey.{Survey}
use Rattle.cell_unload.specs.Sweep.{IsSurvey, after_next, aside_in, holding_in, unless_next}
use Rattle.cell_unload.proofs.Aside.{garbage_aside, numbers_aside}

other : (x k : ℕ) → nat_lt x k ≡ true → (k == x) ≡ false
other x k h = grind (arith, nat_tests)

module _ (x : ℕ) where
  -- a number below all of them isn't the first of them
  none_next : (ks : List ℕ) → ((k : ℕ) → In k ks → nat_lt x k ≡ true) → (unless_next x ks ≡ x ∷ []) × (after_next x ks ≡ ks)
  none_next [] below = (refl, refl)
  none_next (k ∷ ks) below =
      let e : (k == x) ≡ false = other x k (below k (inl refl)) in
      (ap (λ (b : Bool). cond b [] (x ∷ [])) e, ap (λ (b : Bool). cond b ks (k ∷ ks)) e)

  module _ (p : ℕ → Bool) (xs : List ℕ) (rising : each_pair nat_lt (x ∷ xs) ≡ true) where
    by_test : (b : Bool) → (unless_next x (cond b (x ∷ filter p xs) (filter p xs)) ≡ cond b [] (x ∷ [])) × (after_next x (cond b (x ∷ filter p xs) (filter p xs)) ≡ filter p xs)
    by_test true =
        let same : (x == x) ≡ true = eq-eqb x x refl in
        (ap (λ (b : Bool). cond b [] (x ∷ [])) same, ap (λ (b : Bool). cond b (filter p xs) (x ∷ filter p xs)) same)
    by_test false = none_next (filter p xs) (λ k i. all-In (nat_lt x) xs (and_left (list_all (nat_lt x) xs) (each_pair nat_lt xs) rising) k (In-filtered p xs k i))

    -- of those that pass, the number itself is the next where it passes
    passing : (ks : List ℕ) → ks ≡ filter p (x ∷ xs) → (unless_next x ks ≡ cond (p x) [] (x ∷ [])) × (after_next x ks ≡ filter p xs)
    passing ks e = subst (λ (ys : List ℕ). (unless_next x ys ≡ cond (p x) [] (x ∷ [])) × (after_next x ys ≡ filter p xs)) (sym e) (by_test (p x))

abbrev pub numbers_in : List NewCell → List ℕ
numbers_in cells = map (λ c. c.id.0) cells

abbrev numbers : List CellId → List ℕ
numbers cells = map (λ c. c.0) cells

abbrev is_unkept : List ℕ → ℕ → Bool
is_unkept kept n = not (holds kept n)

-- up to a place the cells are gone over: those that aren't kept are listed, and of the kept ones the later are left
pub record IsWalked (kept : List ℕ) (cells : List NewCell) (place : ℕ) (rest found : List CellId) : Type 0 where
  pub rising : IsTrue (each_pair nat_lt (numbers_in (drop place cells)))
  pub left : numbers rest ≡ filter (holds kept) (numbers_in (drop place cells))
  pub listed : numbers found ≡ filter (is_unkept kept) (numbers_in (take place cells))

module _ (kept : List ℕ) (cells : List NewCell) (place : ℕ) (left listed : List CellId) (walked : IsWalked kept cells place left listed) (d : NewCell) (lt : place < length cells) where
  abbrev x : ℕ
  x = (get_or cells place d).id.0

  abbrev later : List ℕ
  later = numbers_in (drop (place + 1) cells)

  those : numbers_in (drop place cells) ≡ x ∷ later
  those = ap numbers_in (drop_more cells place d lt)

  rises : each_pair nat_lt (x ∷ later) ≡ true
  rises = subst (λ (ns : List ℕ). each_pair nat_lt ns ≡ true) those walked.rising

  next : (unless_next x (numbers left) ≡ cond (holds kept x) [] (x ∷ [])) × (after_next x (numbers left) ≡ filter (holds kept) later)
  next = passing x (holds kept) later rises (numbers left) (walked.left ∙ ap (filter (holds kept)) those)

  one_unkept : (b : Bool) → cond b [] (x ∷ []) ≡ cond (not b) (x ∷ []) []
  one_unkept true = refl
  one_unkept false = refl

  so_far : filter (is_unkept kept) (numbers_in (take (place + 1) cells)) ≡ filter (is_unkept kept) (numbers_in (take place cells)) ++ cond (not (holds kept x)) (x ∷ []) []
  so_far =
      ap (λ (cs : List NewCell). filter (is_unkept kept) (numbers_in cs)) (take_more cells place d lt)
      ∙ (ap (filter (is_unkept kept)) (map-append (λ (c : NewCell). c.id.0) (take place cells) (get_or cells place d ∷ []))
      ∙ filter-append (is_unkept kept) (numbers_in (take place cells)) (x ∷ []))

  pub walked_on : d ≡ get_or cells place d → (then listed_then : List CellId) → numbers listed_then ≡ numbers listed ++ unless_next d.id.0 (numbers left) → numbers then ≡ after_next d.id.0 (numbers left)
      → IsWalked kept cells (place + 1) then listed_then
  walked_on is then listed_then of_listed of_left = record {
    rising = and_right (list_all (nat_lt x) later) (each_pair nat_lt later) rises;
    left = of_left ∙ (ap (λ (c : NewCell). after_next c.id.0 (numbers left)) is ∙ next.1);
    listed =
        of_listed ∙ (ap (λ (c : NewCell). numbers listed ++ unless_next c.id.0 (numbers left)) is
        ∙ (ap (λ (ns : List ℕ). numbers listed ++ ns) (next.0 ∙ one_unkept (holds kept x))
        ∙ (ap (λ (ns : List ℕ). ns ++ cond (not (holds kept x)) (x ∷ []) []) walked.listed ∙ sym so_far)));
  }

same_numbers : (cells : List Cell) → numbers_in (map placed_of cells) ≡ numbers_of cells
same_numbers [] = refl
same_numbers (c ∷ cells) = ap (λ (ns : List ℕ). c.id.0 ∷ ns) (same_numbers cells)

module _ (m : Machine) (sound : IsSound m) (aside : List CellId) (s : Survey) (survey : IsSurvey m aside s) where
  abbrev all_kept : List ℕ
  all_kept = numbers s.kept.items

  are_numbers : numbers_in m.cells.items ≡ numbers_of (world_of m).cells
  are_numbers = ap numbers_in (sym sound.joined.placed) ∙ same_numbers (world_of m).cells

  are_kept : all_kept ≡ filter (holds all_kept) (numbers_in m.cells.items)
  are_kept =
      let h : Holding = holding_in m aside in
      survey.kept ∙ (kept_order h
      ∙ (ap (λ (ks : List ℕ). filter (holds ks) h.cells) (sym survey.kept)
      ∙ ap (filter (holds all_kept)) (numbers_aside (suc (world_of m).swaps) (numbers aside) (world_of m).cells ∙ sym are_numbers)))

  pub walk_begins : (left listed : List CellId) → left ≡ s.kept.items → listed ≡ [] → IsWalked all_kept m.cells.items 0 left listed
  walk_begins left listed of_left of_listed = record {
    rising = subst (λ (ns : List ℕ). each_pair nat_lt ns ≡ true) (sym are_numbers) (pairs-map nat_lt (λ (c : Cell). c.id.0) (world_of m).cells ∙ sound.coherent.ready.cell_order);
    left = ap numbers of_left ∙ are_kept;
    listed = ap numbers of_listed;
  }

  -- once all cells have been gone over, those that nobody keeps are listed
  pub walk_ends : (place : ℕ) (left listed : List CellId) → IsWalked all_kept m.cells.items place left listed → length m.cells.items ≤ place → numbers listed ≡ garbage_of (aside_in m aside)
  walk_ends place left listed walked le =
      walked.listed
      ∙ (ap (λ (cs : List NewCell). filter (is_unkept all_kept) (numbers_in cs)) (take_all place m.cells.items le)
      ∙ (ap (filter (is_unkept all_kept)) are_numbers
      ∙ (ap (λ (ks : List ℕ). filter (is_unkept ks) (numbers_of (world_of m).cells)) survey.kept
      ∙ sym (garbage_aside (world_of m) (suc (world_of m).swaps) (numbers aside)))))
