-- Links that come one after another, each in its place: the last ones may come first.
use Rattle.std.proofs.Common.{◌≡◌, ℕ, zero, suc, ◌+◌, ◌<◌, Bool, true, false, true≢false, ◌&&◌, ◌||◌, cond, eqb, ltb, List, [], ◌∷◌, length, take, drop, get_or, refl, sym, ap, subst, ◌∙◌, arith, tests, Contains}
use Rattle.std.specs.List.{AllByRecursion}
use Rattle.std.proofs.lemmas.List.{drop_more, get_or-take, length-take-le}
use Rattle.cell_num.specs.declared.ids.SecKey.{SecKey}
use Rattle.cell_world.specs.declared.state.LinkRow.{LinkRow}
use Rattle.cell_graph.specs.Links.{is_bound}
use Rattle.cell_graph.specs.Moves.{is_link_of}
use Rattle.cell_graph.specs.Order.{Rises, below_link, with_link}
use Rattle.cell_graph.specs.Several.{AreNew, all_linked}
use Rattle.cell_graph.proofs.Cuts.{below_row_trans}
use Rattle.cell_graph.proofs.Nearby.{rises_drop}
use Rattle.cell_graph.proofs.Rising.{at_index}
use Rattle.cell_graph.proofs.Unbinding.{no_link}

not_back : (a b c d e f : ℕ) → (ltb a d || eqb a d && (ltb b e || eqb b e && ltb c f)) ≡ true → (ltb d a || eqb d a && (ltb e b || eqb e b && ltb f c)) ≡ false
not_back a b c d e f h = grind (arith, tests)

other_name : (a b c d e f : ℕ) → (ltb a d || eqb a d && (ltb b e || eqb b e && ltb c f)) ≡ true → (eqb d a && eqb f c && eqb e b) ≡ false
other_name a b c d e f h = grind (arith, tests)

abbrev before : LinkRow → LinkRow → List LinkRow → Bool → List LinkRow
before r row rows b = cond b (r ∷ with_link row rows) (row ∷ r ∷ rows)

-- two links that come in either order
swapped : (a b : LinkRow) → below_link a b ≡ true → (rows : List LinkRow) → with_link a (with_link b rows) ≡ with_link b (with_link a rows)
swapped a b low [] =
    ap (before b a []) (not_back a.user.cell.0 a.entry a.user.section b.user.cell.0 b.entry b.user.section low)
    ∙ sym (ap (before a b []) low)
swapped a b low (r ∷ rows) = go (below_link r a) (below_link r b) refl refl (swapped a b low rows)
  where
    high : below_link b a ≡ false
    high = not_back a.user.cell.0 a.entry a.user.section b.user.cell.0 b.entry b.user.section low

    go : (p q : Bool) → below_link r a ≡ p → below_link r b ≡ q → with_link a (with_link b rows) ≡ with_link b (with_link a rows)
        → with_link a (cond q (r ∷ with_link b rows) (b ∷ r ∷ rows)) ≡ with_link b (cond p (r ∷ with_link a rows) (a ∷ r ∷ rows))
    go true true e f later = ap (before r a (with_link b rows)) e ∙ ap (λ (l : List LinkRow). r ∷ l) later ∙ sym (ap (before r b (with_link a rows)) f)
    go true false e f later = absurd (true≢false (sym (below_row_trans r.user r.entry a.user a.entry b.user b.entry e low) ∙ f))
    go false true e f later =
        ap (before r a (with_link b rows)) e
        ∙ sym (ap (before a b (r ∷ rows)) low ∙ ap (λ (l : List LinkRow). a ∷ l) (ap (before r b rows) f))
    go false false e f later =
        ap (before b a (r ∷ rows)) high
        ∙ sym (ap (before a b (r ∷ rows)) low ∙ ap (λ (l : List LinkRow). a ∷ l) (ap (before r b rows) f))

-- the first of them may come last
last_first : (a : LinkRow) (new rows : List LinkRow) → AllByRecursion (λ y. below_link a y ≡ true) new → all_linked (with_link a rows) new ≡ with_link a (all_linked rows new)
last_first a [] rows below = refl
last_first a (b ∷ new) rows below = ap (λ (l : List LinkRow). all_linked l new) (sym (swapped a b below.0 rows)) ∙ last_first a new (with_link b rows) below.1

-- what is bound where one more is
bound_with : (user : SecKey) (entry : ℕ) (row : LinkRow) (rows : List LinkRow) → is_bound (with_link row rows) user entry ≡ (is_link_of user entry row || is_bound rows user entry)
bound_with user entry row [] = refl
bound_with user entry row (r ∷ rows) = go (below_link r row) (bound_with user entry row rows)
  where
    turned : (a b c : Bool) → (a || (b || c)) ≡ (b || (a || c))
    turned a b c = grind (arith, tests)

    go : (p : Bool) → is_bound (with_link row rows) user entry ≡ (is_link_of user entry row || is_bound rows user entry)
        → is_bound (cond p (r ∷ with_link row rows) (row ∷ r ∷ rows)) user entry ≡ (is_link_of user entry row || (is_link_of user entry r || is_bound rows user entry))
    go true later =
        ap (λ (b : Bool). is_link_of user entry r || b) later
        ∙ turned (is_link_of user entry r) (is_link_of user entry row) (is_bound rows user entry)
    go false later = refl

neither : (a b : Bool) → (a || b) ≡ false → b ≡ false
neither a b h = grind (arith, tests)

none_of : (a b : Bool) → a ≡ false → b ≡ false → (a || b) ≡ false
none_of a b h k = grind (arith, tests)

still_free : (user : SecKey) (entry : ℕ) (new rows : List LinkRow) → is_bound rows user entry ≡ false → AllByRecursion (λ y. is_link_of user entry y ≡ false) new
    → is_bound (all_linked rows new) user entry ≡ false
still_free user entry [] rows free other = free
still_free user entry (m ∷ new) rows free other =
    still_free user entry new (with_link m rows) (bound_with user entry m rows ∙ none_of (is_link_of user entry m) (is_bound rows user entry) other.0 free) other.1

others : (row : LinkRow) (new : List LinkRow) → AllByRecursion (λ y. below_link row y ≡ true) new → AllByRecursion (λ y. is_link_of row.user row.entry y ≡ false) new
others row [] below = tt
others row (m ∷ new) below =
    (other_name row.user.cell.0 row.entry row.user.section m.user.cell.0 m.entry m.user.section below.0, others row new below.1)

free_at : (new rows : List LinkRow) (i : ℕ) → i < length new → AreNew rows new → is_bound rows (get_or new i no_link).user (get_or new i no_link).entry ≡ false
free_at [] rows i lt are = absurd (omega arith)
free_at (m ∷ new) rows zero lt are = are.0
free_at (m ∷ new) rows (suc i) lt are =
    let row : LinkRow = get_or new i no_link in
    neither (is_link_of row.user row.entry m) (is_bound rows row.user row.entry)
    (sym (bound_with row.user row.entry m rows) ∙ free_at new (with_link m rows) i (omega arith) are.1)

-- one of them, where those behind it have come
module _ (rows new : List LinkRow) (i : ℕ) (lt : i < length new) (rises : Rises below_link new) where
  abbrev row : LinkRow
  row = get_or new i no_link

  from_it : drop i new ≡ row ∷ drop (i + 1) new
  from_it = drop_more new i no_link lt

  behind : AllByRecursion (λ y. below_link row y ≡ true) (drop (i + 1) new)
  behind = (subst (Rises below_link) from_it (rises_drop below_link i new rises)).0

  pub next_linked : all_linked rows (drop i new) ≡ with_link row (all_linked rows (drop (i + 1) new))
  next_linked = ap (all_linked rows) from_it ∙ last_first row (drop (i + 1) new) rows behind

  pub next_free : AreNew rows new → is_bound (all_linked rows (drop (i + 1) new)) row.user row.entry ≡ false
  next_free are = still_free row.user row.entry (drop (i + 1) new) rows (free_at new rows i lt are) (others row (drop (i + 1) new) behind)

  pub among_first : Contains (take (i + 1) new) row
  among_first =
      let long = length-take-le (i + 1) new (omega arith) in
      subst (Contains (take (i + 1) new)) (get_or-take (i + 1) new i no_link (omega arith)) (at_index (take (i + 1) new) i no_link (omega (arith, long)))
