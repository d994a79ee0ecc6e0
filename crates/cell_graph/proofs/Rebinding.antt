-- What one link more, less or moved leaves of the list and of what is seen.
use Rattle.std.proofs.Common.{◌≡◌, ◌≢◌, inl, inr, ℕ, zero, suc, ◌<◌, Bool, true, false, ◌&&◌, ◌||◌, cond, eqb, ltb, List, [], ◌∷◌, Option, Some, None, length, get_or, map, refl, sym, ap, subst, ◌∙◌, arith, tests, Contains}
use Rattle.std.specs.Prelude.{option_map}
use Rattle.std.specs.Option.{option_map_or}
use Rattle.std.specs.List.{insert, remove}
use Rattle.std.proofs.lemmas.Bool.{cases_eq, false≢true}
use Rattle.std.proofs.lemmas.Option.{same_Some}
use Rattle.slab.proofs.SlabLemmas.{Contains-cons, Contains-cons_cases}
use Rattle.cell_world.specs.declared.state.LinkRow.{LinkRow}
use Rattle.cell_graph.specs.declared.rows.ChainRow.{ChainRow}
use Rattle.cell_graph.specs.declared.order.RowPlace.{RowPlace}
use Rattle.cell_graph.specs.Order.{IsCut, below_row, with_link}
use Rattle.cell_graph.specs.Lists.{below_row_place, RowsRise, has_row}
use Rattle.cell_graph.specs.Listed.{RowsListed, IsListed}
use Rattle.cell_graph.specs.Moves.{is_link_of, moved, moved_row}
use Rattle.cell_graph.specs.Chains.{SameLinks}
use Rattle.cell_graph.specs.Dropped.{HasNone, links_at}
use Rattle.cell_graph.specs.Heads.{HasNew}
use Rattle.cell_graph.specs.Places.{link_at}
use Rattle.cell_graph.proofs.Moving.{unmoved, retargeted}
use Rattle.cell_graph.proofs.Cuts.{below_row_trans}
use Rattle.cell_graph.proofs.Linked.{none_some}
use Rattle.cell_graph.proofs.Chained.{row_behind}
use Rattle.cell_graph.proofs.Rising.{all_at, all_from, at_index, of_insert, in_insert, in_insert_new, of_remove, in_remove, rises_insert, rises_remove, Contains-head, map_same}
use Rattle.cell_graph.proofs.Listing.{same_place, same_name, target_same, link_same, not_named, row_irreflexive}

-- a listed link, where the same link stands
pub listed_same : (at new : ℕ → Option ChainRow) (r : RowPlace) → option_map (λ c. c.row) (new r.place) ≡ option_map (λ c. c.row) (at r.place) → IsListed at r → IsListed new r
listed_same at new r same w =
    let v = row_behind (new r.place) (at r.place) w.row (sym same) w.is in
    record { row = v.0; is = v.1; user = ap (λ l. l.user) v.2 ∙ w.user; entry = ap (λ l. l.entry) v.2 ∙ w.entry }

contains_same : (list : List RowPlace) (a b : LinkRow) (place : ℕ) → a ≡ b → Contains list (record { user = a.user; entry = a.entry; place = place }) → Contains list (record { user = b.user; entry = b.entry; place = place })
contains_same list a b place same has = subst (λ l. Contains list (record { user = l.user; entry = l.entry; place = place })) same has

map_moved : (f g : RowPlace → LinkRow) (moves : List LinkRow) (xs : List RowPlace) → ((x : RowPlace) → Contains xs x → g x ≡ moved_row moves (f x)) → map g xs ≡ moved (map f xs) moves
map_moved f g moves [] same = refl
map_moved f g moves (x ∷ xs) same = λ i. same x (Contains-head x xs) i ∷ map_moved f g moves xs (λ y has. same y (Contains-cons x y xs has)) i

module _ (at mid new : ℕ → Option ChainRow) (list : List RowPlace) (r : RowPlace) (to : LinkRow)
    (listed : RowsListed at list) (has : Contains list r) (user : r.user ≡ to.user) (entry : r.entry ≡ to.entry)
    (once : SameLinks at mid) (twice : HasNew mid new r.place to) where
  same_at : (p : ℕ) → p ≢ r.place → option_map (λ c. c.row) (new p) ≡ option_map (λ c. c.row) (at p)
  same_at p other = twice.others p other ∙ once p

  abbrev its : LinkRow
  its = record { user = r.user; entry = r.entry; target = to.target }

  its_to : to ≡ its
  its_to = λ i. record { user = sym user i; entry = sym entry i; target = to.target }

  pub moved_listed : RowsListed new list
  moved_listed =
      record {
        rise = listed.rise;
        stand = all_from (λ x. IsListed new x) list (λ x there. elim (cases_eq x.place r.place) [
          | inl same ↦
              let e : x ≡ r = same_place at list x r listed there has same in
              let v = row_behind (new r.place) (Some (record { row = to; before = None; after = None })) (record { row = to; before = None; after = None }) (sym twice.stands) refl in
              subst (λ z. IsListed new z) (sym e) (record { row = v.0; is = v.1; user = ap (λ l. l.user) v.2 ∙ sym user; entry = ap (λ l. l.entry) v.2 ∙ sym entry })
          | inr other ↦ listed_same at new x (same_at x.place other) (all_at (λ z. IsListed at z) list x listed.stand there)
        ]);
        listed = λ p row is. elim (cases_eq p r.place) [
          | inl same ↦
              let e : row.row ≡ to = same_Some row.row to (sym (ap (option_map (λ c. c.row)) is) ∙ ap (λ q. option_map (λ c. c.row) (new q)) same ∙ twice.stands) in
              subst (λ q. Contains list (record { user = row.row.user; entry = row.row.entry; place = q })) (sym same)
              (contains_same list its row.row r.place (sym its_to ∙ sym e) has)
          | inr other ↦
              let v = row_behind (at p) (new p) row (same_at p other) is in
              contains_same list v.0.row row.row p v.2 (listed.listed p v.0 v.1)
        ];
      }

  pub moved_seen : map (link_at new) list ≡ moved (map (link_at at) list) (to ∷ [])
  moved_seen = map_moved (link_at at) (link_at new) (to ∷ []) list (λ x there. elim (cases_eq x.place r.place) [
    | inl same ↦
        let e : x ≡ r = same_place at list x r listed there has same in
        subst (λ z. link_at new z ≡ moved_row (to ∷ []) (link_at at z)) (sym e) own
    | inr other ↦
        link_same at new x (same_at x.place other)
        ∙ sym (unmoved to (link_at at x) (not_named to.user to.entry (link_at at x)
        (λ u n. other (ap (λ z. z.place) (same_name list x r listed.rise there has (u ∙ sym user) (n ∙ sym entry))))))
  ])
    where
      bit : (a b c d e f : ℕ) → a ≡ d → b ≡ e → c ≡ f → (eqb a d && eqb b e && eqb c f) ≡ true
      bit a b c d e f g h k = grind (arith, tests)

      named : is_link_of to.user to.entry (link_at at r) ≡ true
      named = bit r.user.cell.0 r.user.section r.entry to.user.cell.0 to.user.section to.entry (ap (λ u. u.cell.0) user) (ap (λ u. u.section) user) entry

      target : option_map_or (λ c. c.row.target) (new r.place) r.user ≡ to.target
      target = target_same (new r.place) (Some (record { row = to; before = None; after = None })) r.user twice.stands

      own : link_at new r ≡ moved_row (to ∷ []) (link_at at r)
      own = (λ i. record { user = r.user; entry = r.entry; target = target i }) ∙ sym (retargeted to (link_at at r) named)

-- one link more
module _ (at new : ℕ → Option ChainRow) (list : List RowPlace) (n : ℕ) (place : ℕ) (row : LinkRow)
    (listed : RowsListed at list) (cut : IsCut (λ r. below_row r.user r.entry row.user row.entry) list n)
    (unbound : has_row list row.user row.entry ≡ false) (empty : at place ≡ None) (fresh : HasNew at new place row) where
  abbrev pub item : RowPlace
  item = record { user = row.user; entry = row.entry; place = place }

  three_apart : (a b s d e t : ℕ) → (ltb a d || eqb a d && (ltb b e || eqb b e && ltb s t)) ≡ false → (eqb a d && eqb s t && eqb b e) ≡ false
      → (ltb d a || eqb d a && (ltb e b || eqb e b && ltb t s)) ≡ true
  three_apart a b s d e t h k = grind (arith, tests)

  unnamed : (list : List RowPlace) (x : RowPlace) → has_row list row.user row.entry ≡ false → Contains list x
      → is_link_of row.user row.entry (record { user = x.user; entry = x.entry; target = x.user }) ≡ false
  unnamed [] x none has = absurd (omega (arith, has.1))
  unnamed (r ∷ list) x none has =
      elim (Contains-cons_cases r x list has) [
        | inl here ↦ subst (λ z. is_link_of row.user row.entry (record { user = z.user; entry = z.entry; target = z.user }) ≡ false) here (left (is_link_of row.user row.entry (record { user = r.user; entry = r.entry; target = r.user })) (has_row list row.user row.entry) none)
        | inr later ↦ unnamed list x (right (is_link_of row.user row.entry (record { user = r.user; entry = r.entry; target = r.user })) (has_row list row.user row.entry) none) later
      ]
    where
      left : (a b : Bool) → (a || b) ≡ false → a ≡ false
      left a b h = grind (arith, tests)

      right : (a b : Bool) → (a || b) ≡ false → b ≡ false
      right a b h = grind (arith, tests)

  elsewhere : (x : RowPlace) → Contains list x → x.place ≢ place
  elsewhere x has same =
      let w = all_at (λ z. IsListed at z) list x listed.stand has in
      none_some w.row (at place) empty (ap at (sym same) ∙ w.is)

  pub bound_listed_more : RowsListed new (insert list n item)
  bound_listed_more =
      record {
        rise = rises_insert below_row_place list n item (λ x z a b. below_row_trans item.user item.entry x.user x.entry z.user z.entry a b) listed.rise cut
            (λ x has below. three_apart x.user.cell.0 x.entry x.user.section row.user.cell.0 row.entry row.user.section below (unnamed list x unbound has));
        stand = all_from (λ x. IsListed new x) (insert list n item) (λ x has. elim (of_insert list n item x has) [
          | inl here ↦
              let v = row_behind (new place) (Some (record { row = row; before = None; after = None })) (record { row = row; before = None; after = None }) (sym fresh.stands) refl in
              subst (λ z. IsListed new z) here (record { row = v.0; is = v.1; user = ap (λ l. l.user) v.2; entry = ap (λ l. l.entry) v.2 })
          | inr old ↦ listed_same at new x (fresh.others x.place (elsewhere x old)) (all_at (λ z. IsListed at z) list x listed.stand old)
        ]);
        listed = λ p c is. elim (cases_eq p place) [
          | inl same ↦
              let e : row ≡ c.row = same_Some row c.row (sym fresh.stands ∙ ap (λ q. option_map (λ c. c.row) (new q)) (sym same) ∙ ap (option_map (λ c. c.row)) is) in
              subst (λ q. Contains (insert list n item) (record { user = c.row.user; entry = c.row.entry; place = q })) (sym same)
              (contains_same (insert list n item) row c.row place e (in_insert_new list n item))
          | inr other ↦
              let v = row_behind (at p) (new p) c (fresh.others p other) is in
              contains_same (insert list n item) v.0.row c.row p v.2
              (in_insert list n item (record { user = v.0.row.user; entry = v.0.row.entry; place = p }) (listed.listed p v.0 v.1))
        ];
      }

  item_seen : link_at new item ≡ row
  item_seen = λ i. record { user = row.user; entry = row.entry; target = target_same (new place) (Some (record { row = row; before = None; after = None })) row.user fresh.stands i }

  inserted : (xs : List RowPlace) (k : ℕ) → ((x : RowPlace) → Contains xs x → link_at new x ≡ link_at at x) → IsCut (λ r. below_row r.user r.entry row.user row.entry) xs k
      → map (link_at new) (insert xs k item) ≡ with_link row (map (link_at at) xs)
  inserted [] zero same c = λ i. item_seen i ∷ []
  inserted [] (suc k) same c = λ i. item_seen i ∷ []
  inserted (x ∷ xs) zero same c =
      (λ i. item_seen i ∷ map_same (link_at new) (link_at at) (x ∷ xs) same i)
      ∙ sym (ap (λ b. cond b (link_at at x ∷ with_link row (map (link_at at) xs)) (row ∷ link_at at x ∷ map (link_at at) xs)) c.0)
  inserted (x ∷ xs) (suc k) same c =
      (λ i. same x (Contains-head x xs) i ∷ inserted xs k (λ y has. same y (Contains-cons x y xs has)) c.1 i)
      ∙ sym (ap (λ b. cond b (link_at at x ∷ with_link row (map (link_at at) xs)) (row ∷ link_at at x ∷ map (link_at at) xs)) c.0)

  pub bound_seen : map (link_at new) (insert list n item) ≡ with_link row (map (link_at at) list)
  bound_seen = inserted list n (λ x has. link_same at new x (fresh.others x.place (elsewhere x has))) cut

-- one link less
module _ (at new : ℕ → Option ChainRow) (list : List RowPlace) (n : ℕ) (r : RowPlace)
    (listed : RowsListed at list) (inside : n < length list) (found : (d : RowPlace) → get_or list n d ≡ r)
    (gone : HasNone (links_at at) (links_at new) r.place) where
  r_has : Contains list r
  r_has = subst (λ x. Contains list x) (found r) (at_index list n r inside)

  left_place : (x : RowPlace) → Contains (remove list n) x → x.place ≢ r.place
  left_place x has same = not_left list n listed.rise inside found x has (same_place at list x r listed (of_remove list n x has) r_has same)
    where
      not_left : (xs : List RowPlace) (k : ℕ) → RowsRise xs → k < length xs → ((d : RowPlace) → get_or xs k d ≡ r) → (x : RowPlace) → Contains (remove xs k) x → x ≡ r → ⊥
      not_left [] k rise within is x has e = absurd (omega arith)
      not_left (y ∷ xs) zero rise within is x has e =
          false≢true (sym (row_irreflexive r) ∙ (λ i. below_row_place (sym (is r) i) (sym e i)) ∙ all_at (λ z. below_row_place y z ≡ true) xs x rise.0 has)
      not_left (y ∷ xs) (suc k) rise within is x has e =
          elim (Contains-cons_cases y x (remove xs k) has) [
            | inl here ↦
                let there : Contains xs r = subst (λ z. Contains xs z) (is r) (at_index xs k r (omega arith)) in
                false≢true (sym (row_irreflexive r) ∙ (λ i. below_row_place (sym (here ∙ e) i) r) ∙ all_at (λ z. below_row_place y z ≡ true) xs r rise.0 there)
            | inr later ↦ not_left xs k rise.1 (omega arith) is x later e
          ]

  pub unbound_listed : RowsListed new (remove list n)
  unbound_listed =
      record {
        rise = rises_remove below_row_place list n listed.rise;
        stand = all_from (λ x. IsListed new x) (remove list n) (λ x has.
            listed_same at new x (gone.others x.place (left_place x has)) (all_at (λ z. IsListed at z) list x listed.stand (of_remove list n x has)));
        listed = λ p c is.
            let other : p ≢ r.place = λ same. none_some c.row (links_at new p) (ap (links_at new) same ∙ gone.gone) (ap (option_map (λ c. c.row)) is) in
            let v = row_behind (at p) (new p) c (gone.others p other) is in
            let x : RowPlace = record { user = v.0.row.user; entry = v.0.row.entry; place = p } in
            contains_same (remove list n) v.0.row c.row p v.2
            (in_remove list n x x (λ e. other (ap (λ z. z.place) (sym e ∙ found x))) (listed.listed p v.0 v.1));
      }

  pub unbound_seen : map (link_at new) (remove list n) ≡ map (link_at at) (remove list n)
  unbound_seen = map_same (link_at new) (link_at at) (remove list n) (λ x has. link_same at new x (gone.others x.place (left_place x has)))
