-- Links that go, come and move, one after another: each entry has then the link that its step says.
use Rattle.std.proofs.Common.{◌≡◌, refl, sym, ◌∙◌, ap, ap₂, subst, arith, ℕ, zero, suc, ◌⊎◌, inl, inr, Bool, true, false, true≢false, not, ◌&&◌, ◌||◌, ◌==◌, cond, List, [], ◌∷◌, map, Option, Some, None}
use Rattle.std.specs.Prelude.{All, Contains, IsTrue, filter_map, nat_lt}
use Rattle.std.specs.List.{AllByRecursion, cons_option, list_all}
use Rattle.std.specs.Option.{option_map_or}
use Rattle.std.proofs.lemmas.Bool.{and_from, and_parts, eq-eqb, eqb-true, or_from, or_parts}
use Rattle.std.proofs.lemmas.Bool.Decides.{nat_tests}
use Rattle.cell_num.specs.declared.ids.SecKey.{SecKey}
use Rattle.cell_num.specs.Lists.{each_pair, where_true, In}
use Rattle.cell_num.proofs.Elements.{In-All, In-all, In-filtered, In-map, In-none, all-In, any-In, filter-In, filter-Passes, find_there, found-In, map-In, none-In, pairs-In}
use Rattle.cell_world.specs.declared.state.LinkRow.{LinkRow}
use Rattle.cell_world.specs.Changed.{is_same_key}
use Rattle.cell_lemmas.specs.LinkSteps.{LinkStep, afters, bound_row, moved_row as step_moved, moves, unbinds, unbound_row}
use Rattle.cell_lemmas.proofs.Naming.Lookups.{filter_map-In}
use Rattle.cell_lemmas.proofs.Targeting.Present.{In-filter_map, some_same}
use Rattle.cell_graph.specs.Links.{is_bound, is_same}
use Rattle.cell_graph.specs.Moves.{AreApart, is_link_of, moved, moved_row}
use Rattle.cell_graph.specs.Order.{Rises, below_link, with_link}
use Rattle.cell_graph.proofs.Apart.{link_swapped}
use Rattle.cell_graph.proofs.Moving.{none_found}
use Rattle.cell_graph.specs.Several.{AreNew, AreThere, all_linked, all_unlinked, unlinked}
use Rattle.cell_commit.specs.Rewiring.{IsRewiring, is_below_step, rows_of}

pub in_contains : {X : Type 0} (xs : List X) (x : X) → In x xs → Contains xs x
in_contains [] x i = absurd i
in_contains (y ∷ ys) x (inl e) = (zero, omega arith, sym e)
in_contains (y ∷ ys) x (inr i) = let c = in_contains ys x i in (suc c.0, omega (arith, c.1), c.2)

-- rows in order

below_unlike : (a b c d e f : ℕ) → (nat_lt a d || a == d && (nat_lt b e || b == e && nat_lt c f)) ≡ true → (d == a && f == c && e == b) ≡ false
below_unlike a b c d e f h = grind (arith, nat_tests)

below_asym : (a b c d e f : ℕ) → (nat_lt a d || a == d && (nat_lt b e || b == e && nat_lt c f)) ≡ true → (nat_lt d a || d == a && (nat_lt e b || e == b && nat_lt f c)) ≡ true → ⊥
below_asym a b c d e f h k = grind (arith, nat_tests)

pub below_apart : (l m : LinkRow) → below_link l m ≡ true → is_link_of l.user l.entry m ≡ false
below_apart l m h = below_unlike l.user.cell.0 l.entry l.user.section m.user.cell.0 m.entry m.user.section h

never_both : (l m : LinkRow) → below_link l m ≡ true → below_link m l ≡ true → ⊥
never_both l m h k = below_asym l.user.cell.0 l.entry l.user.section m.user.cell.0 m.entry m.user.section h k

pub all_below : (rows : List LinkRow) (l : LinkRow) → AllByRecursion (λ y. below_link l y ≡ true) rows → (x : LinkRow) → In x rows → below_link l x ≡ true
all_below [] l a x i = absurd i
all_below (y ∷ rows) l a x (inl e) = subst (λ (z : LinkRow). below_link l z ≡ true) (sym e) a.0
all_below (y ∷ rows) l a x (inr i) = all_below rows l a.1 x i

below_all : (rows : List LinkRow) (l : LinkRow) → ((x : LinkRow) → In x rows → below_link l x ≡ true) → AllByRecursion (λ y. below_link l y ≡ true) rows
below_all [] l f = tt
below_all (y ∷ rows) l f = (f y (inl refl), below_all rows l (λ x i. f x (inr i)))

pub apart_of : (rows : List LinkRow) → Rises below_link rows → AreApart rows
apart_of [] h = tt
apart_of (r ∷ rows) h = (In-none (is_link_of r.user r.entry) rows (λ x i. below_apart r x (all_below rows r h.0 x i)), apart_of rows h.1)

-- rows in order are told by their elements
pub same_rows : (xs ys : List LinkRow) → Rises below_link xs → Rises below_link ys → ((r : LinkRow) → In r xs → In r ys) → ((r : LinkRow) → In r ys → In r xs) → xs ≡ ys
same_rows [] [] a b f g = refl
same_rows [] (y ∷ ys) a b f g = absurd (g y (inl refl))
same_rows (x ∷ xs) [] a b f g = absurd (f x (inl refl))
same_rows (x ∷ xs) (y ∷ ys) a b f g = ap₂ (λ (z : LinkRow) (zs : List LinkRow). z ∷ zs) head (same_rows xs ys a.1 b.1 to from)
  where
    first : (x ≡ y) ⊎ In x ys → (y ≡ x) ⊎ In y xs → x ≡ y
    first (inl e) k = e
    first (inr i) (inl e) = sym e
    first (inr i) (inr j) = absurd (never_both y x (all_below ys y b.0 x i) (all_below xs x a.0 y j))

    head : x ≡ y
    head = first (f x (inl refl)) (g y (inl refl))

    never : (z : LinkRow) → below_link z z ≡ true → ⊥
    never z h = never_both z z h h

    later : (r : LinkRow) → In r xs → (r ≡ y) ⊎ In r ys → In r ys
    later r i (inr j) = j
    later r i (inl e) = absurd (never x (subst (λ (z : LinkRow). below_link x z ≡ true) (e ∙ sym head) (all_below xs x a.0 r i)))

    to : (r : LinkRow) → In r xs → In r ys
    to r i = later r i (f r (inr i))

    back : (r : LinkRow) → In r ys → (r ≡ x) ⊎ In r xs → In r xs
    back r i (inr j) = j
    back r i (inl e) = absurd (never y (subst (λ (z : LinkRow). below_link y z ≡ true) (e ∙ head) (all_below ys y b.0 r i)))

    from : (r : LinkRow) → In r ys → In r xs
    from r i = back r i (g r (inr i))

-- what is left, and what is there with new links

flipped : (b : Bool) → not b ≡ true → b ≡ false
flipped true e = absurd (true≢false (sym e))
flipped false e = refl

of_unlinked : (gone rows : List LinkRow) (r : LinkRow) → In r (all_unlinked rows gone) → In r rows × (is_bound gone r.user r.entry ≡ false)
of_unlinked [] rows r i = (i, refl)
of_unlinked (g ∷ gone) rows r i =
    let k = of_unlinked gone (unlinked rows g) r i in
    let t = filter-Passes (λ (q : LinkRow). not (is_link_of g.user g.entry q)) rows r k.0 in (
      In-filtered (λ (q : LinkRow). not (is_link_of g.user g.entry q)) rows r k.0,
      or_from (is_link_of r.user r.entry g) (is_bound gone r.user r.entry) (link_swapped r g ∙ flipped (is_link_of g.user g.entry r) t) k.1,
    )

in_unlinked : (gone rows : List LinkRow) (r : LinkRow) → In r rows → is_bound gone r.user r.entry ≡ false → In r (all_unlinked rows gone)
in_unlinked [] rows r i n = i
in_unlinked (g ∷ gone) rows r i n =
    let p = or_parts (is_link_of r.user r.entry g) (is_bound gone r.user r.entry) n in
    in_unlinked gone (unlinked rows g) r (filter-In (λ (q : LinkRow). not (is_link_of g.user g.entry q)) rows r i (ap not (link_swapped g r ∙ p.0))) p.1

of_link : (rows : List LinkRow) (m r : LinkRow) → In r (with_link m rows) → (r ≡ m) ⊎ In r rows
of_link [] m r (inl e) = inl e
of_link [] m r (inr i) = absurd i
of_link (q ∷ rows) m r i = go (below_link q m) i (of_link rows m r)
  where
    under : (r ≡ m) ⊎ In r rows → (r ≡ m) ⊎ In r (q ∷ rows)
    under (inl e) = inl e
    under (inr j) = inr (inr j)

    go : (b : Bool) → In r (cond b (q ∷ with_link m rows) (m ∷ q ∷ rows)) → (In r (with_link m rows) → (r ≡ m) ⊎ In r rows) → (r ≡ m) ⊎ In r (q ∷ rows)
    go true (inl e) f = inr (inl e)
    go true (inr k) f = under (f k)
    go false (inl e) f = inl e
    go false (inr k) f = inr k

in_link_new : (rows : List LinkRow) (m : LinkRow) → In m (with_link m rows)
in_link_new [] m = inl refl
in_link_new (q ∷ rows) m = go (below_link q m) (in_link_new rows m)
  where
    go : (b : Bool) → In m (with_link m rows) → In m (cond b (q ∷ with_link m rows) (m ∷ q ∷ rows))
    go true i = inr i
    go false i = inl refl

in_link_old : (rows : List LinkRow) (m r : LinkRow) → In r rows → In r (with_link m rows)
in_link_old [] m r i = absurd i
in_link_old (q ∷ rows) m r i = go (below_link q m) i (in_link_old rows m r)
  where
    go : (b : Bool) → In r (q ∷ rows) → (In r rows → In r (with_link m rows)) → In r (cond b (q ∷ with_link m rows) (m ∷ q ∷ rows))
    go true (inl e) f = inl e
    go true (inr j) f = inr (f j)
    go false j f = inr j

of_linked : (new rows : List LinkRow) (r : LinkRow) → In r (all_linked rows new) → In r rows ⊎ In r new
of_linked [] rows r i = inl i
of_linked (m ∷ new) rows r i = go (of_linked new (with_link m rows) r i)
  where
    one : (r ≡ m) ⊎ In r rows → In r rows ⊎ In r (m ∷ new)
    one (inl e) = inr (inl e)
    one (inr j) = inl j

    go : In r (with_link m rows) ⊎ In r new → In r rows ⊎ In r (m ∷ new)
    go (inl j) = one (of_link rows m r j)
    go (inr j) = inr (inr j)

in_linked_old : (new rows : List LinkRow) (r : LinkRow) → In r rows → In r (all_linked rows new)
in_linked_old [] rows r i = i
in_linked_old (m ∷ new) rows r i = in_linked_old new (with_link m rows) r (in_link_old rows m r i)

in_linked_new : (new rows : List LinkRow) (r : LinkRow) → In r new → In r (all_linked rows new)
in_linked_new [] rows r i = absurd i
in_linked_new (m ∷ new) rows r (inl e) = subst (λ (z : LinkRow). In z (all_linked (with_link m rows) new)) (sym e) (in_linked_old new (with_link m rows) m (in_link_new rows m))
in_linked_new (m ∷ new) rows r (inr i) = in_linked_new new (with_link m rows) r i

are_there : (gone rows : List LinkRow) → ((r : LinkRow) → In r gone → In r rows) → AreApart gone → AreThere rows gone
are_there [] rows f apart = tt
are_there (g ∷ gone) rows f apart = (in_contains rows g (f g (inl refl)), are_there gone (unlinked rows g) still apart.1)
  where
    still : (r : LinkRow) → In r gone → In r (unlinked rows g)
    still r i = filter-In (λ (q : LinkRow). not (is_link_of g.user g.entry q)) rows r (f r (inr i)) (ap not (none-In (is_link_of g.user g.entry) gone apart.0 r i))

are_new : (new rows : List LinkRow) → ((r : LinkRow) → In r new → is_bound rows r.user r.entry ≡ false) → AreApart new → AreNew rows new
are_new [] rows f apart = tt
are_new (m ∷ new) rows f apart = (f m (inl refl), are_new new (with_link m rows) still apart.1)
  where
    one : (r : LinkRow) → In r new → (q : LinkRow) → (q ≡ m) ⊎ In q rows → is_link_of r.user r.entry q ≡ false
    one r i q (inl e) = subst (λ (z : LinkRow). is_link_of r.user r.entry z ≡ false) (sym e) (link_swapped r m ∙ none-In (is_link_of m.user m.entry) new apart.0 r i)
    one r i q (inr j) = none-In (is_link_of r.user r.entry) rows (f r (inr i)) q j

    still : (r : LinkRow) → In r new → is_bound (with_link m rows) r.user r.entry ≡ false
    still r i = In-none (is_link_of r.user r.entry) (with_link m rows) (λ q k. one r i q (of_link rows m q k))

-- steps

pub before_in : (s : LinkStep) (l : LinkRow) → s.before ≡ Some l → In l (rows_of s)
before_in s l e = subst (λ (o : Option LinkRow). In l (cons_option o (cons_option s.after []))) (sym e) (inl refl)

pub after_in : (s : LinkStep) (l : LinkRow) → s.after ≡ Some l → In l (rows_of s)
after_in s l e = go s.before
  where
    one : In l (cons_option s.after [])
    one = subst (λ (o : Option LinkRow). In l (cons_option o [])) (sym e) (inl refl)

    go : (o : Option LinkRow) → In l (cons_option o (cons_option s.after []))
    go None = one
    go (Some x) = inr one

pub row_cases : (s : LinkStep) (l : LinkRow) → In l (rows_of s) → (s.before ≡ Some l) ⊎ (s.after ≡ Some l)
row_cases s l i = first s.before refl s.after refl i
  where
    first : (b : Option LinkRow) → s.before ≡ b → (a : Option LinkRow) → s.after ≡ a → In l (cons_option b (cons_option a [])) → (s.before ≡ Some l) ⊎ (s.after ≡ Some l)
    first None e None f j = absurd j
    first None e (Some y) f (inl k) = inr (f ∙ ap (λ (z : LinkRow). Some z) (sym k))
    first None e (Some y) f (inr k) = absurd k
    first (Some x) e a f (inl k) = inl (e ∙ ap (λ (z : LinkRow). Some z) (sym k))
    first (Some x) e None f (inr k) = absurd k
    first (Some x) e (Some y) f (inr (inl k)) = inr (f ∙ ap (λ (z : LinkRow). Some z) (sym k))
    first (Some x) e (Some y) f (inr (inr k)) = absurd k

-- steps in order
pub is_below : (s t : LinkStep) → ((l m : LinkRow) → In l (rows_of s) → In m (rows_of t) → below_link l m ≡ true) → is_below_step s t ≡ true
is_below s t f =
    In-all (λ (l : LinkRow). list_all (below_link l) (rows_of t)) (rows_of s) (λ l i. In-all (below_link l) (rows_of t) (λ m j. f l m i j))

pub below_rows : (s t : LinkStep) → is_below_step s t ≡ true → (l m : LinkRow) → In l (rows_of s) → In m (rows_of t) → below_link l m ≡ true
below_rows s t h l m i j = all-In (below_link l) (rows_of t) (all-In (λ (x : LinkRow). list_all (below_link x) (rows_of t)) (rows_of s) h l i) m j

moved_parts : (b a : Option LinkRow) (m : LinkRow) → step_moved b a ≡ Some m → (l : LinkRow) × (b ≡ Some l) × (a ≡ Some m) × (is_same_key l.target m.target ≡ false)
moved_parts None a m e = cc
moved_parts (Some l) None m e = cc
moved_parts (Some l) (Some x) m e = go (is_same_key l.target x.target) refl e
  where
    go : (t : Bool) → is_same_key l.target x.target ≡ t → where_true (not t) x ≡ Some m → (k : LinkRow) × (Some l ≡ Some k) × (Some x ≡ Some m) × (is_same_key k.target m.target ≡ false)
    go true f k = cc
    go false f k = (l, refl, k, subst (λ (z : LinkRow). is_same_key l.target z.target ≡ false) (some_same x m k) f)

bound_parts : (b a : Option LinkRow) (m : LinkRow) → bound_row b a ≡ Some m → (b ≡ None) × (a ≡ Some m)
bound_parts None a m e = (refl, e)
bound_parts (Some l) a m e = cc

unbound_parts : (b a : Option LinkRow) (l : LinkRow) → unbound_row b a ≡ Some l → (b ≡ Some l) × (a ≡ None)
unbound_parts b None l e = (e, refl)
unbound_parts b (Some m) l e = cc

not_none : (o : Option LinkRow) (l : LinkRow) → o ≡ None → o ≡ Some l → ⊥
not_none o l e f = cc

-- rows that are picked of steps that rise do so too
module _ (f : LinkStep → Option LinkRow) (of : (s : LinkStep) (l : LinkRow) → f s ≡ Some l → In l (rows_of s)) where
  pub picked_rise : (steps : List LinkStep) → each_pair is_below_step steps ≡ true → Rises below_link (filter_map f steps)
  picked_rise [] rise = tt
  picked_rise (s ∷ steps) rise = go (f s) refl (picked_rise steps parts.1)
    where
      parts : (list_all (is_below_step s) steps ≡ true) × (each_pair is_below_step steps ≡ true)
      parts = and_parts (list_all (is_below_step s) steps) (each_pair is_below_step steps) rise

      under : (r : LinkRow) → f s ≡ Some r → (x : LinkRow) → In x (filter_map f steps) → below_link r x ≡ true
      under r e x i =
          let t = In-filter_map f steps x i in
          below_rows s t.0 (all-In (is_below_step s) steps parts.0 t.0 t.1) r x (of s r e) (of t.0 x t.2)

      go : (o : Option LinkRow) → f s ≡ o → Rises below_link (filter_map f steps) → Rises below_link (cons_option o (filter_map f steps))
      go None e rest = rest
      go (Some r) e rest = (below_all (filter_map f steps) r (under r e), rest)

key_same : (a b : SecKey) → is_same_key a b ≡ true → a ≡ b
key_same a b h =
    let p = and_parts (a.cell.0 == b.cell.0) (a.section == b.section) h in
    let cell = eqb-true a.cell.0 b.cell.0 p.0 in
    let section = eqb-true a.section b.section p.1 in
    λ i. record { cell = record { 0 = cell i }; section = section i }

row_same : (l m : LinkRow) → l.user ≡ m.user → l.entry ≡ m.entry → l.target ≡ m.target → l ≡ m
row_same l m user entry target = λ i. record { user = user i; entry = entry i; target = target i }

same_number : (n : ℕ) → (n == n) ≡ true
same_number n = eq-eqb n n refl

-- a link is that of another's user and entry where these are its own
own_link : (l m : LinkRow) → l.user ≡ m.user → l.entry ≡ m.entry → is_link_of l.user l.entry m ≡ true
own_link l m user entry =
    ap₂ (λ (u : SecKey) (e : ℕ). is_link_of u e m) user entry
    ∙ and_from (is_same m.user m.user) (m.entry == m.entry)
    (and_from (m.user.cell.0 == m.user.cell.0) (m.user.section == m.user.section) (same_number m.user.cell.0) (same_number m.user.section)) (same_number m.entry)

module _ (rows gone new led : List LinkRow) (steps : List LinkStep) (x : IsRewiring rows gone new led steps) where
  one_step : (s t : LinkStep) → In s steps → In t steps → (l m : LinkRow) → In l (rows_of s) → In m (rows_of t) → is_link_of l.user l.entry m ≡ true → s ≡ t
  one_step s t i j l m a b same = go (pairs-In is_below_step steps x.rise s t i j)
    where
      go : (s ≡ t) ⊎ ((is_below_step s t ≡ true) ⊎ (is_below_step t s ≡ true)) → s ≡ t
      go (inl e) = e
      go (inr (inl h)) = absurd (true≢false (sym same ∙ below_apart l m (below_rows s t h l m a b)))
      go (inr (inr h)) = absurd (true≢false (sym same ∙ (link_swapped l m ∙ below_apart m l (below_rows t s h m l b a))))

  -- the steps of the links that go, come and move

  of_rows : (r : LinkRow) → In r rows → (s : LinkStep) × In s steps × (s.before ≡ Some r)
  of_rows r i = In-filter_map (λ (s : LinkStep). s.before) steps r (subst (λ (ls : List LinkRow). In r ls) x.are i)

  in_rows : (s : LinkStep) → In s steps → (r : LinkRow) → s.before ≡ Some r → In r rows
  in_rows s i r e = subst (λ (ls : List LinkRow). In r ls) (sym x.are) (filter_map-In (λ (s : LinkStep). s.before) steps s r i e)

  of_gone : (r : LinkRow) → In r gone → (s : LinkStep) × In s steps × ((s.before ≡ Some r) × (s.after ≡ None))
  of_gone r i =
      let s = In-filter_map (λ (s : LinkStep). unbound_row s.before s.after) steps r (subst (λ (ls : List LinkRow). In r ls) x.gone_are i) in
      (s.0, s.1, unbound_parts s.0.before s.0.after r s.2)

  of_new : (r : LinkRow) → In r new → (s : LinkStep) × In s steps × ((s.before ≡ None) × (s.after ≡ Some r))
  of_new r i =
      let s = In-filter_map (λ (s : LinkStep). bound_row s.before s.after) steps r (subst (λ (ls : List LinkRow). In r ls) x.new_are i) in
      (s.0, s.1, bound_parts s.0.before s.0.after r s.2)

  of_led : (r : LinkRow) → In r led → (s : LinkStep) × In s steps × ((l : LinkRow) × (s.before ≡ Some l) × (s.after ≡ Some r) × (is_same_key l.target r.target ≡ false))
  of_led r i =
      let s = In-filter_map (λ (s : LinkStep). step_moved s.before s.after) steps r (subst (λ (ls : List LinkRow). In r ls) x.led_are i) in
      (s.0, s.1, moved_parts s.0.before s.0.after r s.2)

  in_after : (s : LinkStep) → In s steps → (r : LinkRow) → s.after ≡ Some r → In r (afters steps)
  in_after s i r e = filter_map-In (λ (s : LinkStep). s.after) steps s r i e

  -- they can go, come and move

  gone_apart : AreApart gone
  gone_apart =
      subst AreApart (sym x.gone_are)
      (apart_of (unbinds steps) (picked_rise (λ (s : LinkStep). unbound_row s.before s.after) (λ s l e. before_in s l (unbound_parts s.before s.after l e).0) steps x.rise))

  pub new_rises : Rises below_link new
  new_rises =
      subst (Rises below_link) (sym x.new_are)
      (picked_rise (λ (s : LinkStep). bound_row s.before s.after) (λ s l e. after_in s l (bound_parts s.before s.after l e).1) steps x.rise)

  new_apart : AreApart new
  new_apart = apart_of new new_rises

  pub led_apart : AreApart led
  led_apart =
      subst AreApart (sym x.led_are)
      (apart_of (moves steps) (picked_rise (λ (s : LinkStep). step_moved s.before s.after) (λ s l e. after_in s l (moved_parts s.before s.after l e).2) steps x.rise))

  pub gone_there : AreThere rows gone
  gone_there = are_there gone rows (λ r i. let s = of_gone r i in in_rows s.0 s.1 r s.2.0) gone_apart

  abbrev mid : List LinkRow
  mid = all_unlinked rows gone

  new_free : (r : LinkRow) → In r new → is_bound mid r.user r.entry ≡ false
  new_free r i = In-none (is_link_of r.user r.entry) mid (λ q k. go q (of_unlinked gone rows q k).0 (is_link_of r.user r.entry q) refl)
    where
      go : (q : LinkRow) → In q rows → (b : Bool) → is_link_of r.user r.entry q ≡ b → b ≡ false
      go q j false e = refl
      go q j true e =
          let s = of_new r i in
          let t = of_rows q j in
          let same : s.0 ≡ t.0 = one_step s.0 t.0 s.1 t.1 r q (after_in s.0 r s.2.1) (before_in t.0 q t.2) e in
          absurd (not_none s.0.before q s.2.0 (subst (λ (z : LinkStep). z.before ≡ Some q) (sym same) t.2))

  pub new_are_new : AreNew mid new
  new_are_new = are_new new mid new_free new_apart

  pub new_after : (r : LinkRow) → In r new → In r (afters steps)
  new_after r i = let s = of_new r i in in_after s.0 s.1 r s.2.1

  pub led_after : (r : LinkRow) → In r led → In r (afters steps)
  led_after r i = let s = of_led r i in in_after s.0 s.1 r s.2.2

  abbrev joined : List LinkRow
  joined = all_linked mid new

  -- a link that stays is there before the moves
  stays : (s : LinkStep) → In s steps → (l m : LinkRow) → s.before ≡ Some l → s.after ≡ Some m → In l joined
  stays s i l m before after = in_linked_old new mid l (in_unlinked gone rows l (in_rows s i l before) (In-none (is_link_of l.user l.entry) gone (λ q k. go q k (is_link_of l.user l.entry q) refl)))
    where
      go : (q : LinkRow) → In q gone → (b : Bool) → is_link_of l.user l.entry q ≡ b → b ≡ false
      go q k false e = refl
      go q k true e =
          let t = of_gone q k in
          let same : s ≡ t.0 = one_step s t.0 i t.1 l q (before_in s l before) (before_in t.0 q t.2.0) e in
          absurd (not_none s.after m (subst (λ (z : LinkStep). z.after ≡ None) (sym same) t.2.1) after)

  one : (s : LinkStep) → In s steps → (l m : LinkRow) → s.before ≡ Some l → s.after ≡ Some m → (l.user ≡ m.user) × (l.entry ≡ m.entry)
  one s i l m before after = x.one s i l m before after

  pub led_bound : All (λ m. IsTrue (is_bound joined m.user m.entry)) led
  led_bound = In-All (λ (m : LinkRow). IsTrue (is_bound joined m.user m.entry)) led (λ m k.
      let s = of_led m k in
      let e = one s.0 s.1 s.2.0 m s.2.1 s.2.2 in
      any-In (is_link_of m.user m.entry) joined s.2.0 (stays s.0 s.1 s.2.0 m s.2.1 s.2.2) (own_link m s.2.0 (sym e.0) (sym e.1)))

  abbrev with_found : LinkRow → Option LinkRow → LinkRow
  with_found l o = record l { target = option_map_or (λ (m : LinkRow). m.target) o l.target }

  -- a link that stays leads as its step says
  lead : (s : LinkStep) → In s steps → (l m : LinkRow) → s.before ≡ Some l → s.after ≡ Some m → moved_row led l ≡ m
  lead s i l m before after = go (is_same_key l.target m.target) refl
    where
      e : (l.user ≡ m.user) × (l.entry ≡ m.entry)
      e = one s i l m before after

      -- a move of the same user and entry is of the same step
      its : (y : LinkRow) → In y led → is_link_of l.user l.entry y ≡ true → (y ≡ m) × (is_same_key l.target y.target ≡ false)
      its y k h =
          let t = of_led y k in
          let same : s ≡ t.0 = one_step s t.0 i t.1 l y (before_in s l before) (after_in t.0 y t.2.2) h in
          let was : l ≡ t.2.0 = some_same l t.2.0 (sym before ∙ subst (λ (z : LinkStep). z.before ≡ Some t.2.0) (sym same) t.2.1) in
          (some_same y m (sym (subst (λ (z : LinkStep). z.after ≡ Some y) (sym same) t.2.2) ∙ after), ap (λ (z : LinkRow). is_same_key z.target y.target) was ∙ t.2.3)

      go : (b : Bool) → is_same_key l.target m.target ≡ b → moved_row led l ≡ m
      go false q =
          let there : In m led = subst (λ (ls : List LinkRow). In m ls) (sym x.led_are)
          (filter_map-In (λ (s : LinkStep). step_moved s.before s.after) steps s m i (ap₂ (λ (b a : Option LinkRow). step_moved b a) before after ∙ ap (λ b. where_true (not b) m) q)) in
          let f = find_there (is_link_of l.user l.entry) led m there (own_link l m e.0 e.1) in
          let k = found-In (is_link_of l.user l.entry) led f.0 f.1 in
          ap (with_found l) f.1 ∙ row_same (record l { target = f.0.target }) m e.0 e.1 (ap (λ (z : LinkRow). z.target) (its f.0 k.0 k.1).0)
      go true q =
          ap (with_found l) (none_found (is_link_of l.user l.entry) led (In-none (is_link_of l.user l.entry) led (λ y k. none y k (is_link_of l.user l.entry y) refl)))
          ∙ row_same l m e.0 e.1 (key_same l.target m.target q)
        where
          none : (y : LinkRow) → In y led → (b : Bool) → is_link_of l.user l.entry y ≡ b → b ≡ false
          none y k false h = refl
          none y k true h =
              let z = its y k h in
              absurd (true≢false (sym q ∙ (ap (λ (w : LinkRow). is_same_key l.target w.target) (sym z.0) ∙ z.1)))

  -- and so does one that comes
  come : (s : LinkStep) → In s steps → (m : LinkRow) → s.before ≡ None → s.after ≡ Some m → moved_row led m ≡ m
  come s i m before after = ap (with_found m) (none_found (is_link_of m.user m.entry) led (In-none (is_link_of m.user m.entry) led (λ y k. none y k (is_link_of m.user m.entry y) refl)))
    where
      none : (y : LinkRow) → In y led → (b : Bool) → is_link_of m.user m.entry y ≡ b → b ≡ false
      none y k false h = refl
      none y k true h =
          let t = of_led y k in
          let same : s ≡ t.0 = one_step s t.0 i t.1 m y (after_in s m after) (after_in t.0 y t.2.2) h in
          absurd (not_none s.before t.2.0 before (subst (λ (z : LinkStep). z.before ≡ Some t.2.0) (sym same) t.2.1))

  to_after : (l : LinkRow) → In l rows ⊎ In l new → (is_bound gone l.user l.entry ≡ false) ⊎ In l new → In (moved_row led l) (afters steps)
  to_after l (inr j) g = let s = of_new l j in subst (λ (r : LinkRow). In r (afters steps)) (sym (come s.0 s.1 l s.2.0 s.2.1)) (in_after s.0 s.1 l s.2.1)
  to_after l (inl j) (inr k) = let s = of_new l k in subst (λ (r : LinkRow). In r (afters steps)) (sym (come s.0 s.1 l s.2.0 s.2.1)) (in_after s.0 s.1 l s.2.1)
  to_after l (inl j) (inl free) = go s.0.after refl
    where
      s : (s : LinkStep) × In s steps × (s.before ≡ Some l)
      s = of_rows l j

      go : (o : Option LinkRow) → s.0.after ≡ o → In (moved_row led l) (afters steps)
      go (Some m) e = subst (λ (r : LinkRow). In r (afters steps)) (sym (lead s.0 s.1 l m s.2 e)) (in_after s.0 s.1 m e)
      go None e =
          let there : In l gone = subst (λ (ls : List LinkRow). In l ls) (sym x.gone_are)
          (filter_map-In (λ (s : LinkStep). unbound_row s.before s.after) steps s.0 l s.1 (ap₂ (λ (b a : Option LinkRow). unbound_row b a) s.2 e)) in
          absurd (true≢false (sym (any-In (is_link_of l.user l.entry) gone l there (own_link l l refl refl)) ∙ free))

  to : (r : LinkRow) → In r (moved joined led) → In r (afters steps)
  to r i =
      let l = In-map (moved_row led) joined r i in
      subst (λ (z : LinkRow). In z (afters steps)) (sym l.2) (go l.0 (of_linked new mid l.0 l.1))
    where
      go : (l : LinkRow) → In l mid ⊎ In l new → In (moved_row led l) (afters steps)
      go l (inl j) = let k = of_unlinked gone rows l j in to_after l (inl k.0) (inl k.1)
      go l (inr j) = to_after l (inr j) (inr j)

  from : (r : LinkRow) → In r (afters steps) → In r (moved joined led)
  from r i = go s.0.before refl
    where
      s : (s : LinkStep) × In s steps × (s.after ≡ Some r)
      s = In-filter_map (λ (s : LinkStep). s.after) steps r i

      go : (o : Option LinkRow) → s.0.before ≡ o → In r (moved joined led)
      go (Some l) e = subst (λ (z : LinkRow). In z (moved joined led)) (lead s.0 s.1 l r e s.2) (map-In (moved_row led) joined l (stays s.0 s.1 l r e s.2))
      go None e =
          let there : In r new = subst (λ (ls : List LinkRow). In r ls) (sym x.new_are)
          (filter_map-In (λ (s : LinkStep). bound_row s.before s.after) steps s.0 r s.1 (ap₂ (λ (b a : Option LinkRow). bound_row b a) e s.2)) in
          subst (λ (z : LinkRow). In z (moved joined led)) (come s.0 s.1 r e s.2) (map-In (moved_row led) joined r (in_linked_new new mid r there))

  pub rewired : Rises below_link (moved joined led) → moved joined led ≡ afters steps
  rewired rise = same_rows (moved joined led) (afters steps) rise (picked_rise (λ (s : LinkStep). s.after) after_in steps x.rise) to from
