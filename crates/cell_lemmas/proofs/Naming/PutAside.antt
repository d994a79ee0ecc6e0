-- Cells that are put aside keep their numbers, sections and links. Where none of them is kept, they all go.
use Rattle.std.proofs.Common.{◌≡◌, refl, sym, ◌∙◌, ap, subst, ℕ, Bool, true, false, cond, List, [], ◌∷◌, ◌++◌, inl, inr, map, true≢false}
use Rattle.std.specs.Prelude.{filter, flat_map, None, not, nat_lt}
use Rattle.cell_num.specs.Lists.{holds, each_pair, In}
use Rattle.cell_world.specs.World.{World, Cell, Task, cell_of, is_attached}
use Rattle.cell_world.specs.declared.state.Standing.TheVariants.{Detached}
use Rattle.cell_world.specs.Answer.{numbers_of}
use Rattle.cell_world.specs.Kept.{holding_of, kept_in}
use Rattle.cell_world.specs.Commands.UnloadCommand.{without_cells, starts_of, garbage_of, purged, put_aside, detach, first_held}
use Rattle.cell_world.specs.Coherent.{IsCoherent}
use Rattle.cell_num.proofs.Elements.{In-map, map-In, In-filtered, filter-Passes, map_same, some_has}
use Rattle.cell_lemmas.proofs.Fields.Relinked.{map_twice}
use Rattle.cell_lemmas.proofs.Tasks.Changed.{live_parts}
use Rattle.cell_num.proofs.Sublists.{filter_same, map_filter, pairs_kept}
use Rattle.cell_lemmas.proofs.Holding.KeptPaths.{In-holds, holds-In, kept_complete}
use Rattle.cell_lemmas.proofs.Holding.Holders.{none_kept}
use Rattle.cell_lemmas.proofs.Targeting.TargetsLeft.{Closed}
use Rattle.cell_lemmas.proofs.Placement.Freed.{JoinsCells, joins_cells, present_holds, garbage_closed, root_stays, stays_kept}

module _ (k : ℕ) (ns : List ℕ) where
  abbrev put : Cell → Cell
  put c = put_aside k ns c

  pub put_number : (c : Cell) → (put c).id.0 ≡ c.id.0
  put_number c = go (holds ns c.id.0)
    where
      go : (b : Bool) → (cond b (record c { standing = Detached k }) c).id.0 ≡ c.id.0
      go true = refl
      go false = refl

  put_starts : (c : Cell) → starts_of (put c) ≡ starts_of c
  put_starts c = go (holds ns c.id.0)
    where
      go : (b : Bool) → starts_of (cond b (record c { standing = Detached k }) c) ≡ starts_of c
      go true = refl
      go false = refl

  pub put_detached : (c : Cell) → holds ns c.id.0 ≡ true → is_attached (put c).standing ≡ false
  put_detached c e = ap (λ b. is_attached (cond b (record c { standing = Detached k }) c).standing) e

  pub put_other : (c : Cell) → holds ns c.id.0 ≡ false → put c ≡ c
  put_other c e = ap (λ b. cond b (record c { standing = Detached k }) c) e

  -- where those that are put aside go, the others stay as they were
  filter_aside : (stay : ℕ → Bool) (cells : List Cell) → ((c : Cell) → In c cells → holds ns c.id.0 ≡ true → stay c.id.0 ≡ false) → filter (λ c. stay c.id.0) (map put cells) ≡ filter (λ c. stay c.id.0) cells
  filter_aside stay [] f = refl
  filter_aside stay (c ∷ cells) f =
      ap (λ n. cond (stay n) (put c ∷ filter (λ c. stay c.id.0) (map put cells)) (filter (λ c. stay c.id.0) (map put cells))) (put_number c)
      ∙ go (stay c.id.0) (holds ns c.id.0) refl (f c (inl refl)) (filter_aside stay cells (λ d i. f d (inr i)))
    where
      go : (b a : Bool) → holds ns c.id.0 ≡ a → (holds ns c.id.0 ≡ true → b ≡ false) → filter (λ c. stay c.id.0) (map put cells) ≡ filter (λ c. stay c.id.0) cells
          → cond b (put c ∷ filter (λ c. stay c.id.0) (map put cells)) (filter (λ c. stay c.id.0) (map put cells)) ≡ cond b (c ∷ filter (λ c. stay c.id.0) cells) (filter (λ c. stay c.id.0) cells)
      go false a e g ih = ih
      go true true e g ih = absurd (true≢false (g e))
      go true false e g ih = ap (λ (x : Cell). x ∷ filter (λ c. stay c.id.0) (map put cells)) (put_other c e) ∙ ap (λ xs. c ∷ xs) ih

  starts_aside : (gone : ℕ → Bool) (cells : List Cell) → flat_map starts_of (filter (λ c. gone c.id.0) (map put cells)) ≡ flat_map starts_of (filter (λ c. gone c.id.0) cells)
  starts_aside gone cells =
      ap (flat_map starts_of) (sym (map_filter put (λ (c : Cell). gone c.id.0) cells) ∙ ap (map put) (filter_same _ _ cells (λ c i. ap gone (put_number c))))
      ∙ mapped (filter (λ c. gone c.id.0) cells)
    where
      mapped : (xs : List Cell) → flat_map starts_of (map put xs) ≡ flat_map starts_of xs
      mapped [] = refl
      mapped (x ∷ xs) = ap (λ ys. ys ++ flat_map starts_of (map put xs)) (put_starts x) ∙ ap (λ ys. starts_of x ++ ys) (mapped xs)

module _ (w : World) (h : IsCoherent w) (k : ℕ) (ns : List ℕ) where
  abbrev aside : World
  aside = detach k ns w

  pub numbers_aside : numbers_of aside.cells ≡ numbers_of w.cells
  numbers_aside = map_twice (λ (c : Cell). c.id.0) (put_aside k ns) w.cells ∙ map_same _ _ w.cells (λ c i. put_number k ns c)

  pub order_aside : each_pair (λ (a b : Cell). nat_lt a.id.0 b.id.0) aside.cells ≡ true
  order_aside = pairs_kept (λ (a b : Cell). nat_lt a.id.0 b.id.0) (λ (a b : Cell). nat_lt a.id.0 b.id.0) (put_aside k ns) w.cells
      (λ x y i j. ap (λ n. nat_lt n (put_aside k ns y).id.0) (put_number k ns x) ∙ ap (λ n. nat_lt x.id.0 n) (put_number k ns y)) h.ready.cell_order

  joins_aside : JoinsCells aside
  joins_aside l i = subst (λ (n : List ℕ). (holds n l.user.cell.0 ≡ true) × (holds n l.target.cell.0 ≡ true)) (sym numbers_aside) (joins_cells w h l i)

  pub closed_aside : Closed w (garbage_of aside)
  closed_aside = garbage_closed aside joins_aside

  pub roots_aside : (t : Task) → In t w.tasks → holds (garbage_of aside) t.root ≡ false
  roots_aside t i =
      let c = some_has (cell_of w t.root) (live_parts w h t i).root in
      root_stays aside t i (subst (λ (n : List ℕ). holds n t.root ≡ true) (sym numbers_aside) (present_holds w t.root c.0 c.1))

  -- those that are put aside aren't attached
  pub named_detached : (n : ℕ) → In n ns → holds (holding_of aside).attached n ≡ false
  named_detached n i = go (holds (holding_of aside).attached n) refl
    where
      clash : (c : Cell) × In c (filter (λ (c : Cell). is_attached c.standing) aside.cells) × (n ≡ c.id.0) → ⊥
      clash c =
          let d = In-map (put_aside k ns) w.cells c.0 (In-filtered (λ (x : Cell). is_attached x.standing) aside.cells c.0 c.1) in
          let number : n ≡ d.0.id.0 = c.2 ∙ (ap (λ (x : Cell). x.id.0) d.2 ∙ put_number k ns d.0) in
          true≢false (sym (filter-Passes (λ (x : Cell). is_attached x.standing) aside.cells c.0 c.1)
          ∙ (ap (λ (x : Cell). is_attached x.standing) d.2 ∙ put_detached k ns d.0 (subst (λ m. holds ns m ≡ true) number (In-holds ns n i))))

      go : (b : Bool) → holds (holding_of aside).attached n ≡ b → b ≡ false
      go false e = refl
      go true e = absurd (clash (In-map (λ (x : Cell). x.id.0) (filter (λ (c : Cell). is_attached c.standing) aside.cells) n (holds-In (holding_of aside).attached n e)))

  module _ (none : first_held (holding_of aside) ns ≡ None) where
    -- where none of them is kept, they go
    pub named_go : (c : Cell) → In c w.cells → holds ns c.id.0 ≡ true → holds (garbage_of aside) c.id.0 ≡ true
    named_go c i e = go (holds (garbage_of aside) c.id.0) refl
      where
        go : (b : Bool) → holds (garbage_of aside) c.id.0 ≡ b → b ≡ true
        go true g = refl
        go false g =
            let kept = stays_kept aside (put_aside k ns c) (map-In (put_aside k ns) w.cells c i) (subst (λ n. holds (garbage_of aside) n ≡ false) (sym (put_number k ns c)) g) in
            let there = subst (λ n. holds (kept_in (holding_of aside)) n ≡ true) (put_number k ns c) (In-holds (kept_in (holding_of aside)) (put_aside k ns c).id.0 (kept_complete (holding_of aside) (put_aside k ns c).id.0 kept)) in
            absurd (true≢false (sym there ∙ none_kept (holding_of aside) ns named_detached none c.id.0 (holds-In ns c.id.0 e)))

    -- and what is left is what w has without them
    pub aside_left : purged aside ≡ without_cells w (garbage_of aside)
    aside_left =
        ap (λ (cells : List Cell). record (purged aside) { cells = cells }) (filter_aside k ns (λ n. not (holds (garbage_of aside) n)) w.cells (λ c i e. ap not (named_go c i e)))
        ∙ ap (λ (starts : List ℕ). record (without_cells w (garbage_of aside)) { regions = filter (λ r. not (holds starts r.start)) w.regions }) (starts_aside k ns (λ n. holds (garbage_of aside) n) w.cells)
