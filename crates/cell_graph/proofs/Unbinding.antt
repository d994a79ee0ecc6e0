-- Links that go one after another, while the list still names them.
use Rattle.std.proofs.Common.{◌≡◌, inl, inr, ℕ, suc, ◌+◌, ◌<◌, ◌≤◌, Bool, true, false, ◌&&◌, ◌||◌, cond, not, eqb, ltb, List, [], ◌∷◌, Option, Some, None, length, drop, get_or, map, refl, sym, ap, subst, ◌∙◌, arith, tests, Contains}
use Rattle.std.specs.Prelude.{filter, fold, is_some, option_map}
use Rattle.std.specs.List.{AllByRecursion}
use Rattle.std.proofs.lemmas.Bool.{cases_eq}
use Rattle.std.proofs.lemmas.List.{drop_all, drop_more}
use Rattle.slab.proofs.SlabLemmas.{Contains-cons, Contains-cons_cases}
use Rattle.cell_num.specs.declared.ids.SecKey.{SecKey}
use Rattle.cell_world.specs.declared.state.LinkRow.{LinkRow}
use Rattle.cell_graph.specs.declared.rows.ChainRow.{ChainRow}
use Rattle.cell_graph.specs.declared.section.Section.{Section}
use Rattle.cell_graph.specs.declared.order.SectionPlace.{SectionPlace}
use Rattle.cell_graph.specs.declared.order.RowPlace.{RowPlace}
use Rattle.cell_graph.specs.Chains.{AreChained, SameKeys}
use Rattle.cell_graph.specs.Dropped.{AreDropped, HasNone, links_at}
use Rattle.cell_graph.specs.Listed.{IsListed, IsWhole}
use Rattle.cell_graph.specs.Lists.{RowsRise, has_row}
use Rattle.cell_graph.specs.Moves.{is_link_of}
use Rattle.cell_graph.specs.Order.{Rises, below_link}
use Rattle.cell_graph.specs.Places.{link_at}
use Rattle.cell_graph.specs.Several.{AreThere, all_unlinked, unlinked}
use Rattle.cell_graph.specs.Standing.{standing}
use Rattle.cell_graph.proofs.Apart.{link_entry, link_user}
use Rattle.cell_graph.proofs.Dropping.{left_links, left_whole, rises_filter}
use Rattle.cell_graph.proofs.Listing.{bound_listed, same_name, same_place}
use Rattle.cell_graph.proofs.Outside.{in_filter, of_filter}
use Rattle.cell_graph.proofs.Rising.{Contains-head, all_at, in_map, no_element, of_map}
use Rattle.cell_graph.proofs.Sights.{bound_there}

filter_both : {X : Type 0} (f g q : X → Bool) (xs : List X) → ((x : X) → Contains xs x → f x ≡ (g x && q x)) → filter f xs ≡ filter q (filter g xs)
filter_both f g q [] same = refl
filter_both {X} f g q (x ∷ xs) same =
    ap (λ b. cond b (x ∷ filter f xs) (filter f xs)) (same x (Contains-head x xs))
    ∙ ap (λ (l : List X). cond (g x && q x) (x ∷ l) l) (filter_both f g q xs (λ y has. same y (Contains-cons x y xs has)))
    ∙ sym (step (g x) (filter g xs))
  where
    step : (b : Bool) (ys : List X) → filter q (cond b (x ∷ ys) ys) ≡ cond (b && q x) (x ∷ filter q ys) (filter q ys)
    step true ys = refl
    step false ys = refl

some_of : (o : Option ChainRow) → is_some (option_map (λ c. c.row) o) ≡ is_some o
some_of None = refl
some_of (Some c) = refl

falls : (a b c : Bool) → a ≡ false → c ≡ true → a ≡ (b && not c)
falls a b c h k = grind (arith, tests)

keeps : (a b c : Bool) → a ≡ b → c ≡ false → a ≡ (b && not c)
keeps a b c h k = grind (arith, tests)

-- where all stand, the list is what still stands
pub all_stand : (at : ℕ → Option ChainRow) (list : List RowPlace) → AllByRecursion (λ r. IsListed at r) list → standing at list ≡ list
all_stand at [] listed = refl
all_stand at (r ∷ list) listed =
    ap (λ b. cond b (r ∷ standing at list) (standing at list)) (ap is_some listed.0.is) ∙ ap (λ (l : List RowPlace). r ∷ l) (all_stand at list listed.1)

-- a link that still stands is named
pub still_named : (at : ℕ → Option ChainRow) (list : List RowPlace) (row : LinkRow) → Contains (map (link_at at) (standing at list)) row → has_row list row.user row.entry ≡ true
still_named at list row there =
    let x = of_map (link_at at) (standing at list) row there in
    let has = (of_filter (λ (z : RowPlace). is_some (at z.place)) list x.0 x.1).0 in
    sym (bound_listed at list row.user row.entry) ∙ bound_there (map (link_at at) list) row (subst (λ l. Contains (map (link_at at) list) l) x.2 (in_map (link_at at) list x.0 has))

module _ (at : ℕ → Option ChainRow) (list : List RowPlace) (r : RowPlace) (row : LinkRow)
    (rise : RowsRise list) (has : Contains list r) (user : r.user ≡ row.user) (entry : r.entry ≡ row.entry)
    (there : Contains (map (link_at at) (standing at list)) row) where
  still : Contains (standing at list) r
  still =
      let x = of_map (link_at at) (standing at list) row there in
      let from = of_filter (λ (z : RowPlace). is_some (at z.place)) list x.0 x.1 in
      subst (λ z. Contains (standing at list) z) (same_name list x.0 r rise from.0 has (ap (λ (l : LinkRow). l.user) x.2 ∙ sym user) (ap (λ (l : LinkRow). l.entry) x.2 ∙ sym entry)) x.1

  pub still_stands : is_some (at r.place) ≡ true
  still_stands = (of_filter (λ (z : RowPlace). is_some (at z.place)) list r still).1

  module _ (new : ℕ → Option ChainRow) (sections : ℕ → Option Section) (section_list : List SectionPlace)
      (whole : IsWhole at sections section_list (standing at list)) (gone : HasNone (links_at at) (links_at new) r.place) where
    abbrev out : RowPlace → Bool
    out x = is_link_of row.user row.entry (record { user = x.user; entry = x.entry; target = x.user })

    bit : (a b c d e f : ℕ) → a ≡ d → b ≡ e → c ≡ f → (eqb a d && eqb b e && eqb c f) ≡ true
    bit a b c d e f g h k = grind (arith, tests)

    out_it : out r ≡ true
    out_it = bit r.user.cell.0 r.user.section r.entry row.user.cell.0 row.user.section row.entry (ap (λ (u : SecKey). u.cell.0) user) (ap (λ (u : SecKey). u.section) user) entry

    it : (x : RowPlace) → Contains list x → out x ≡ true → x ≡ r
    it x there_too is =
        let l : LinkRow = record { user = x.user; entry = x.entry; target = x.user } in
        same_name list x r rise there_too has (link_user row.user row.entry l is ∙ sym user) (link_entry row.user row.entry l is ∙ sym entry)

    dropped : AreDropped (λ (x : RowPlace). x.place) out (links_at at) (links_at new) (standing at list)
    dropped = record {
      kept = λ p other. gone.others p (λ same. other r still out_it (sym same));
      gone = λ e h is. ap (λ (z : RowPlace). links_at new z.place) (it e (of_filter (λ (z : RowPlace). is_some (at z.place)) list e h).0 is) ∙ gone.gone;
    }

    left : (x : RowPlace) → Contains list x → is_some (new x.place) ≡ (is_some (at x.place) && not (out x))
    left x named = elim (cases_eq x.place r.place) [
      | inl same ↦
          let stands : is_some (at x.place) ≡ true = ap (λ q. is_some (at q)) same ∙ still_stands in
          let one = same_place at (standing at list) x r whole.rows_listed (in_filter (λ (z : RowPlace). is_some (at z.place)) list x named stands) still same in
          falls (is_some (new x.place)) (is_some (at x.place)) (out x) (ap (λ q. is_some (new q)) same ∙ sym (some_of (new r.place)) ∙ ap is_some gone.gone) (ap out one ∙ out_it)
      | inr other ↦
          keeps (is_some (new x.place)) (is_some (at x.place)) (out x) (sym (some_of (new x.place)) ∙ ap is_some (gone.others x.place other) ∙ some_of (at x.place)) (not_out (out x) refl other)
    ]
      where
        not_out : (b : Bool) → out x ≡ b → (x.place ≡ r.place → ⊥) → b ≡ false
        not_out true h other = absurd (other (ap (λ (z : RowPlace). z.place) (it x named h)))
        not_out false h other = refl

    is_left : standing new list ≡ filter (λ x. not (out x)) (standing at list)
    is_left = filter_both (λ (x : RowPlace). is_some (new x.place)) (λ x. is_some (at x.place)) (λ x. not (out x)) list left

    pub whole_next : (sections' : ℕ → Option Section) → SameKeys sections sections' → AreChained new sections' → IsWhole new sections' section_list (standing new list)
    whole_next sections' keys chained = left_whole at new sections sections' section_list (standing at list) (standing new list) out whole keys chained dropped is_left

    pub seen_next : map (link_at new) (standing new list) ≡ unlinked (map (link_at at) (standing at list)) row
    seen_next = left_links at new (standing at list) (standing new list) (λ l. not (is_link_of row.user row.entry l)) out (λ x. refl) whole.rows_listed dropped is_left

-- how many are left
below_other : (a b c d e f : ℕ) → (ltb a d || eqb a d && (ltb b e || eqb b e && ltb c f)) ≡ true → (eqb a d && eqb c f && eqb b e) ≡ false
below_other a b c d e f h = grind (arith, tests)

above_other : (a b c d e f : ℕ) → (ltb a d || eqb a d && (ltb b e || eqb b e && ltb c f)) ≡ true → (eqb d a && eqb f c && eqb e b) ≡ false
above_other a b c d e f h = grind (arith, tests)

all_kept : (row : LinkRow) (rows : List LinkRow) → AllByRecursion (λ y. below_link row y ≡ true) rows → unlinked rows row ≡ rows
all_kept row [] below = refl
all_kept row (y ∷ rows) below =
    ap (λ b. cond (not b) (y ∷ unlinked rows row) (unlinked rows row)) (above_other row.user.cell.0 row.entry row.user.section y.user.cell.0 y.entry y.user.section below.0)
    ∙ ap (λ (l : List LinkRow). y ∷ l) (all_kept row rows below.1)

itself : (a b c : ℕ) → (eqb a a && eqb b b && eqb c c) ≡ true
itself a b c = grind (arith, tests)

one_more : (n : ℕ) → n + 1 ≡ suc n
one_more n = omega arith

one_on : (n m : ℕ) → n + 1 ≡ m → suc n + 1 ≡ suc m
one_on n m h = omega (arith, h)

one_less : (rows : List LinkRow) (row : LinkRow) → Rises below_link rows → Contains rows row → length (unlinked rows row) + 1 ≡ length rows
one_less [] row rise has = absurd (no_element row has)
one_less (r ∷ rows) row rise has =
    elim (Contains-cons_cases r row rows has) [
      | inl here ↦ subst (λ z. length (unlinked (r ∷ rows) z) + 1 ≡ length (r ∷ rows)) here first
      | inr later ↦
          ap (λ b. length (cond (not b) (r ∷ unlinked rows row) (unlinked rows row)) + 1)
          (below_other r.user.cell.0 r.entry r.user.section row.user.cell.0 row.entry row.user.section (all_at (λ y. below_link r y ≡ true) rows row rise.0 later))
          ∙ one_on (length (unlinked rows row)) (length rows) (one_less rows row rise.1 later)
    ]
  where
    first : length (unlinked (r ∷ rows) r) + 1 ≡ length (r ∷ rows)
    first =
        ap (λ b. length (cond (not b) (r ∷ unlinked rows r) (unlinked rows r)) + 1) (itself r.user.cell.0 r.user.section r.entry)
        ∙ ap (λ (l : List LinkRow). length l + 1) (all_kept r rows rise.0)
        ∙ one_more (length rows)

pub so_many_less : (rows gone : List LinkRow) → Rises below_link rows → AreThere rows gone → length (all_unlinked rows gone) + length gone ≡ length rows
so_many_less rows [] rise there = omega arith
so_many_less rows (r ∷ gone) rise there =
    let one = one_less rows r rise there.0 in
    let rest = so_many_less (unlinked rows r) gone (rises_filter below_link (λ l. not (is_link_of r.user r.entry l)) rows rise) there.1 in
    omega (arith, one, rest)

-- those that are left to go or to come
abbrev pub no_link : LinkRow
no_link = record { user = record { cell = record { 0 = 0 }; section = 0 }; entry = 0; target = record { cell = record { 0 = 0 }; section = 0 } }

module _ (f : List LinkRow → LinkRow → List LinkRow) (items : List LinkRow) (i : ℕ) where
  pub fold_more : (now new : List LinkRow) → i < length items → new ≡ f now (get_or items i no_link) → fold f new (drop (i + 1) items) ≡ fold f now (drop i items)
  fold_more now new lt e = ap (λ (rs : List LinkRow). fold f rs (drop (i + 1) items)) e ∙ sym (ap (fold f now) (drop_more items i no_link lt))

  pub fold_done : (now all : List LinkRow) → length items ≤ i → fold f now (drop i items) ≡ all → now ≡ all
  fold_done now all le e = sym (ap (fold f now) (drop_all i items le)) ∙ e

module _ (gone : List LinkRow) (i : ℕ) (lt : i < length gone) (now : List LinkRow) (there : AreThere now (drop i gone)) where
  both : Contains now (get_or gone i no_link) × AreThere (unlinked now (get_or gone i no_link)) (drop (i + 1) gone)
  both = subst (AreThere now) (drop_more gone i no_link lt) there

  pub there_here : Contains now (get_or gone i no_link)
  there_here = both.0

  pub there_more : (new : List LinkRow) → new ≡ unlinked now (get_or gone i no_link) → AreThere new (drop (i + 1) gone)
  there_more new e = subst (λ (rs : List LinkRow). AreThere rs (drop (i + 1) gone)) (sym e) both.1
