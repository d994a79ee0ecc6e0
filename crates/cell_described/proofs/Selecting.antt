-- What is selected of a dump's rows where only those of cells count.
use Rattle.std.proofs.Common.{◌≡◌, ℕ, inl, inr, Bool, true, false, cond, List, [], ◌∷◌, ◌++◌, map, Option, Some, None, refl, sym, ap, ◌∙◌, arith}
use Rattle.std.specs.Prelude.{◌==◌, filter, filter_map, find, nat_lt}
use Rattle.std.specs.List.{cons_option, flat_map, list_all}
use Rattle.std.proofs.lemmas.Bool.{and_parts, eq-eqb}
use Rattle.std.proofs.lemmas.Bool.Decides.{nat_tests}
use Rattle.std.proofs.lemmas.List.{append-nil}
use Rattle.std.proofs.lemmas.List.Elements.{filter_map-append}
use Rattle.cell_num.specs.Lists.{In, each_pair}
use Rattle.cell_num.proofs.Elements.{all-In}
use Rattle.cell_world.specs.declared.line.DumpLine.{DumpLine}
use Rattle.cell_audit.specs.Dumps.{Row, lines_of}
use Rattle.cell_audit.specs.Following.{rank_of}
use Rattle.cell_audit.specs.Written.{is_of_cell}

-- of the lines of rows
pub by_rows : {Y : Type 0} (f : DumpLine → Option Y) (rows : List Row) → filter_map f (lines_of rows) ≡ filter_map (λ r. f r.1) rows
by_rows f [] = refl
by_rows {Y} f (r ∷ rows) = ap (cons_option (f r.1)) (by_rows f rows)

module _ {Y : Type 0} (f : Row → Option Y) where
  -- rows of no cell give nothing
  pub of_cells : ((r : Row) → (rank_of r.1 == 2) ≡ false → f r ≡ None) → (rows : List Row) → filter_map f rows ≡ filter_map f (filter is_of_cell rows)
  of_cells quiet [] = refl
  of_cells quiet (r ∷ rows) = go (rank_of r.1 == 2) refl (of_cells quiet rows)
    where
      go : (b : Bool) → (rank_of r.1 == 2) ≡ b → filter_map f rows ≡ filter_map f (filter is_of_cell rows)
          → cons_option (f r) (filter_map f rows) ≡ filter_map f (cond b (r ∷ filter is_of_cell rows) (filter is_of_cell rows))
      go true e ih = ap (cons_option (f r)) ih
      go false e ih = ap (λ (o : Option Y). cons_option o (filter_map f rows)) (quiet r e) ∙ ih

  pub of_flat : {X : Type 0} (g : X → List Row) (xs : List X) → filter_map f (flat_map g xs) ≡ flat_map (λ x. filter_map f (g x)) xs
  of_flat g [] = refl
  of_flat g (x ∷ xs) = filter_map-append f (g x) (flat_map g xs) ∙ ap (λ (ys : List Y). filter_map f (g x) ++ ys) (of_flat g xs)

  pub each_selected : {X : Type 0} (g : X → Row) (v : X → Y) (xs : List X) → ((x : X) → f (g x) ≡ Some (v x)) → filter_map f (map g xs) ≡ map v xs
  each_selected g v [] h = refl
  each_selected g v (x ∷ xs) h =
      ap (λ (o : Option Y). cons_option o (filter_map f (map g xs))) (h x) ∙ ap (λ (ys : List Y). v x ∷ ys) (each_selected g v xs h)

  pub none_selected : {X : Type 0} (g : X → Row) (xs : List X) → ((x : X) → f (g x) ≡ None) → filter_map f (map g xs) ≡ []
  none_selected g [] h = refl
  none_selected g (x ∷ xs) h = ap (λ (o : Option Y). cons_option o (filter_map f (map g xs))) (h x) ∙ none_selected g xs h

module _ {X Y : Type 0} where
  pub flat_none : (g : X → List Y) (xs : List X) → ((x : X) → In x xs → g x ≡ []) → flat_map g xs ≡ []
  flat_none g [] h = refl
  flat_none g (x ∷ xs) h = ap (λ (ys : List Y). ys ++ flat_map g xs) (h x (inl refl)) ∙ flat_none g xs (λ y i. h y (inr i))

  pub flat_single : (g : X → Y) (xs : List X) → flat_map (λ x. g x ∷ []) xs ≡ map g xs
  flat_single g [] = refl
  flat_single g (x ∷ xs) = ap (λ (ys : List Y). g x ∷ ys) (flat_single g xs)

  -- of elements whose keys rise only the one with the key
  pub only_one : (key : X → ℕ) (g : X → List Y) (xs : List X) → each_pair (λ a b. nat_lt (key a) (key b)) xs ≡ true → (x : X) → In x xs
      → flat_map (λ d. cond (key d == key x) (g d) []) xs ≡ g x
  only_one key g [] rise x i = absurd i
  only_one key g (y ∷ ys) rise x (inl e) =
      let p = and_parts (list_all (λ b. nat_lt (key y) (key b)) ys) (each_pair (λ a b. nat_lt (key a) (key b)) ys) rise in
      let here : (key y == key x) ≡ true = eq-eqb (key y) (key x) (ap key (sym e)) in
      let rest : flat_map (λ d. cond (key d == key x) (g d) []) ys ≡ [] =
      flat_none (λ d. cond (key d == key x) (g d) []) ys (λ d j. ap (λ (b : Bool). cond b (g d) []) (other (key y) (key x) (key d) (ap key e) (all-In (λ b. nat_lt (key y) (key b)) ys p.0 d j))) in
      ap (λ (b : Bool). cond b (g y) [] ++ flat_map (λ d. cond (key d == key x) (g d) []) ys) here
      ∙ ap (λ (ws : List Y). g y ++ ws) rest
      ∙ append-nil (g y)
      ∙ ap g (sym e)
    where
      other : (a b c : ℕ) → b ≡ a → nat_lt a c ≡ true → (c == b) ≡ false
      other a b c e lt = grind (arith, nat_tests)
  only_one key g (y ∷ ys) rise x (inr i) =
      let p = and_parts (list_all (λ b. nat_lt (key y) (key b)) ys) (each_pair (λ a b. nat_lt (key a) (key b)) ys) rise in
      ap (λ (b : Bool). cond b (g y) [] ++ flat_map (λ d. cond (key d == key x) (g d) []) ys) (before (key y) (key x) (all-In (λ b. nat_lt (key y) (key b)) ys p.0 x i))
      ∙ only_one key g ys p.1 x i
    where
      before : (a b : ℕ) → nat_lt a b ≡ true → (a == b) ≡ false
      before a b lt = grind (arith, nat_tests)

-- the first of the rows that pass, where rows of no cell don't
pub found_cells : (test : Row → Bool) → ((r : Row) → (rank_of r.1 == 2) ≡ false → test r ≡ false) → (rows : List Row) → find test rows ≡ find test (filter is_of_cell rows)
found_cells test quiet [] = refl
found_cells test quiet (r ∷ rows) = go (rank_of r.1 == 2) refl (found_cells test quiet rows)
  where
    go : (b : Bool) → (rank_of r.1 == 2) ≡ b → find test rows ≡ find test (filter is_of_cell rows)
        → cond (test r) (Some r) (find test rows) ≡ find test (cond b (r ∷ filter is_of_cell rows) (filter is_of_cell rows))
    go true e ih = ap (cond (test r) (Some r)) ih
    go false e ih = ap (λ (b : Bool). cond b (Some r) (find test rows)) (quiet r e) ∙ ih
