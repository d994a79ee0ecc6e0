-- Steps turned round lead back, also where rows of others follow on all of these.
use Rattle.std.proofs.Common.{◌≡◌, refl, sym, ◌∙◌, ap, ap₂, subst, ℕ, ◌⊎◌, inl, inr, Bool, true, not, ◌==◌, List, [], ◌∷◌, ◌++◌, map, Option, Some, None}
use Rattle.std.specs.Prelude.{filter_map}
use Rattle.std.specs.List.{cons_option, list_all}
use Rattle.std.proofs.lemmas.Bool.{and_from, eq-eqb}
use Rattle.std.proofs.lemmas.List.{append-nil}
use Rattle.std.proofs.lemmas.List.Elements.{filter_map-append}
use Rattle.cell_num.specs.Lists.{each_pair, where_true, In}
use Rattle.cell_num.proofs.Elements.{In-all, In-append, In-map, filter_map_same, pairs-map, pairs_same}
use Rattle.cell_num.proofs.Sublists.{pairs-append}
use Rattle.cell_world.specs.declared.state.LinkRow.{LinkRow}
use Rattle.cell_world.specs.Changed.{is_same_key}
use Rattle.cell_lemmas.specs.LinkSteps.{LinkStep, IsOneEntry, afters, befores, bound_row, moved_row, unbound_row}
use Rattle.cell_lemmas.proofs.Targeting.Present.{some_same}
use Rattle.cell_graph.specs.Order.{Rises, below_link}
use Rattle.cell_commit.specs.Rewiring.{IsRewiring, backs, is_below_step, rows_of}
use Rattle.cell_commit.proofs.Rewired.{all_below, after_in, before_in, below_rows, is_below, row_cases}

abbrev pub turned : LinkStep → LinkStep
turned s = record { before = s.after; after = s.before }

abbrev pub kept : LinkRow → LinkStep
kept r = record { before = Some r; after = Some r }

abbrev pub turned_with : List LinkStep → List LinkRow → List LinkStep
turned_with steps more = map turned steps ++ map kept more

picked_map : {X : Type 0} (f : LinkStep → Option LinkRow) (g : X → LinkStep) (xs : List X) → filter_map f (map g xs) ≡ filter_map (λ x. f (g x)) xs
picked_map f g [] = refl
picked_map f g (x ∷ xs) = ap (λ (ys : List LinkRow). cons_option (f (g x)) ys) (picked_map f g xs)

all_picked : (rows : List LinkRow) → filter_map (λ (r : LinkRow). Some r) rows ≡ rows
all_picked [] = refl
all_picked (r ∷ rows) = ap (λ (rs : List LinkRow). r ∷ rs) (all_picked rows)

none_picked : (f : LinkRow → Option LinkRow) → ((r : LinkRow) → f r ≡ None) → (rows : List LinkRow) → filter_map f rows ≡ []
none_picked f none [] = refl
none_picked f none (r ∷ rows) = ap (λ (o : Option LinkRow). cons_option o (filter_map f rows)) (none r) ∙ none_picked f none rows

-- what is picked of turned steps, and of rows that stay as they are
picked_with : (f : LinkStep → Option LinkRow) (steps : List LinkStep) (more : List LinkRow)
    → filter_map f (turned_with steps more) ≡ filter_map (λ (s : LinkStep). f (turned s)) steps ++ filter_map (λ (r : LinkRow). f (kept r)) more
picked_with f steps more = filter_map-append f (map turned steps) (map kept more) ∙ ap₂ (λ (xs ys : List LinkRow). xs ++ ys) (picked_map f turned steps) (picked_map f kept more)

same_number : (n : ℕ) → (n == n) ≡ true
same_number n = eq-eqb n n refl

unmoved : (r : LinkRow) → where_true (not (is_same_key r.target r.target)) r ≡ None
unmoved r =
    ap (λ (b : Bool). where_true (not b) r)
    (and_from (r.target.cell.0 == r.target.cell.0) (r.target.section == r.target.section) (same_number r.target.cell.0) (same_number r.target.section))

-- only a link that goes comes back
bound_turned : (b a : Option LinkRow) → bound_row a b ≡ unbound_row b a
bound_turned b None = refl
bound_turned b (Some m) = refl

unbound_turned : (b a : Option LinkRow) → unbound_row a b ≡ bound_row b a
unbound_turned None a = refl
unbound_turned (Some l) a = refl

nothing_else : (f : LinkStep → Option LinkRow) → ((r : LinkRow) → f (kept r) ≡ None) → (steps : List LinkStep) (more : List LinkRow)
    → filter_map f (turned_with steps more) ≡ filter_map (λ (s : LinkStep). f (turned s)) steps
nothing_else f none steps more =
    picked_with f steps more
    ∙ (ap (λ (rs : List LinkRow). filter_map (λ (s : LinkStep). f (turned s)) steps ++ rs) (none_picked (λ (r : LinkRow). f (kept r)) none more)
    ∙ append-nil (filter_map (λ (s : LinkStep). f (turned s)) steps))

in_kept : (r l : LinkRow) → In l (rows_of (kept r)) → l ≡ r
in_kept r l (inl e) = e
in_kept r l (inr (inl e)) = e
in_kept r l (inr (inr i)) = absurd i

-- the rows of a turned step are those of the step
in_turned : (s : LinkStep) (l : LinkRow) → In l (rows_of (turned s)) → In l (rows_of s)
in_turned s l i = go (row_cases (turned s) l i)
  where
    go : (s.after ≡ Some l) ⊎ (s.before ≡ Some l) → In l (rows_of s)
    go (inl e) = after_in s l e
    go (inr e) = before_in s l e

rows_rise : (more : List LinkRow) → Rises below_link more → each_pair (λ (l m : LinkRow). is_below_step (kept l) (kept m)) more ≡ true
rows_rise [] rise = refl
rows_rise (r ∷ more) rise =
    and_from (list_all (λ (m : LinkRow). is_below_step (kept r) (kept m)) more) (each_pair (λ (l m : LinkRow). is_below_step (kept l) (kept m)) more)
    (In-all (λ (m : LinkRow). is_below_step (kept r) (kept m)) more (λ m i. is_below (kept r) (kept m) (λ a b j k. ap₂ below_link (in_kept r a j) (in_kept m b k) ∙ all_below more r rise.0 m i)))
    (rows_rise more rise.1)

module _ (rows gone new led : List LinkRow) (steps : List LinkStep) (x : IsRewiring rows gone new led steps) (more : List LinkRow) (rise : Rises below_link more)
    (above : (s : LinkStep) → In s steps → (l : LinkRow) → In l (rows_of s) → (m : LinkRow) → In m more → below_link l m ≡ true) where
  pub turned_befores : befores (turned_with steps more) ≡ afters steps ++ more
  turned_befores = picked_with (λ (s : LinkStep). s.before) steps more ∙ ap (λ (rs : List LinkRow). afters steps ++ rs) (all_picked more)

  pub turned_afters : afters (turned_with steps more) ≡ rows ++ more
  turned_afters =
      picked_with (λ (s : LinkStep). s.after) steps more
      ∙ ap₂ (λ (xs ys : List LinkRow). xs ++ ys) (sym x.are) (all_picked more)

  one_turned : (s : LinkStep) → In s (map turned steps) ⊎ In s (map kept more) → IsOneEntry s
  one_turned s (inl i) =
      let t = In-map turned steps s i in
      λ l m a b.
      let e = x.one t.0 t.1 m l (sym (ap (λ (z : LinkStep). z.after) t.2) ∙ b) (sym (ap (λ (z : LinkStep). z.before) t.2) ∙ a) in
      (sym e.0, sym e.1)
  one_turned s (inr i) =
      let r = In-map kept more s i in
      λ l m a b.
      let e : l ≡ m = some_same l m (sym a ∙ (ap (λ (z : LinkStep). z.before) r.2 ∙ (sym (ap (λ (z : LinkStep). z.after) r.2) ∙ b))) in
      (ap (λ (z : LinkRow). z.user) e, ap (λ (z : LinkRow). z.entry) e)

  rise_turned : each_pair is_below_step (turned_with steps more) ≡ true
  rise_turned =
      pairs-append is_below_step (map turned steps) (map kept more)
      (pairs-map is_below_step turned steps
      ∙ pairs_same is_below_step (λ (s t : LinkStep). is_below_step (turned s) (turned t)) steps
      (λ s t i j h. is_below (turned s) (turned t) (λ l m a b. below_rows s t h l m (in_turned s l a) (in_turned t m b))) x.rise)
      (pairs-map is_below_step kept more ∙ rows_rise more rise)
      (λ s t i j.
      let a = In-map turned steps s i in
      let b = In-map kept more t j in
      subst (λ (z : LinkStep). is_below_step z t ≡ true) (sym a.2)
      (subst (λ (z : LinkStep). is_below_step (turned a.0) z ≡ true) (sym b.2)
      (is_below (turned a.0) (kept b.0) (λ l m p q.
      subst (λ (z : LinkRow). below_link l z ≡ true) (sym (in_kept b.0 m q)) (above a.0 a.1 l (in_turned a.0 l p) b.0 b.1)))))

  pub turned_round : IsRewiring (afters steps ++ more) new gone (backs steps) (turned_with steps more)
  turned_round = record {
    steps_are = record {
      are = sym turned_befores;
      one = λ s i. one_turned s (In-append (map turned steps) (map kept more) s i);
      rise = rise_turned;
    };
    gone_are =
        x.new_are
        ∙ sym (nothing_else (λ (s : LinkStep). unbound_row s.before s.after) (λ r. refl) steps more
        ∙ filter_map_same (λ (s : LinkStep). unbound_row s.after s.before) (λ (s : LinkStep). bound_row s.before s.after) steps (λ s i. unbound_turned s.before s.after));
    new_are =
        x.gone_are
        ∙ sym (nothing_else (λ (s : LinkStep). bound_row s.before s.after) (λ r. refl) steps more
        ∙ filter_map_same (λ (s : LinkStep). bound_row s.after s.before) (λ (s : LinkStep). unbound_row s.before s.after) steps (λ s i. bound_turned s.before s.after));
    led_are = sym (nothing_else (λ (s : LinkStep). moved_row s.before s.after) unmoved steps more);
  }
