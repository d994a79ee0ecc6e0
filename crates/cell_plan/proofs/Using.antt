-- The links of one cell among all, and the cells with a link into an old one.
use Rattle.std.proofs.Common.{◌≡◌, ℕ, suc, ◌&&◌, Bool, true, false, Option, Some, None, List, [], ◌∷◌, ◌++◌, map, refl, sym, ap, subst, ◌∙◌, arith, inl, inr}
use Rattle.std.specs.Prelude.{◌==◌, nat_lt, IsTrue, filter, filter_map, flat_map}
use Rattle.std.specs.List.{list_any, list_all, cons_option}
use Rattle.std.proofs.lemmas.Bool.Decides.{nat_tests}
use Rattle.std.proofs.lemmas.List.Elements.{filter-append}
use Rattle.cell_graph.specs.Users.{is_user_of}
use Rattle.cell_graph.proofs.Marking.{alike, any_filter, any_found, any_of, and_yes, both}
use Rattle.cell_graph.proofs.Rising.{in_map, of_map}
use Rattle.cell_num.specs.Lists.{holds, each_pair, numbered_from, In}
use Rattle.cell_num.specs.declared.ids.CellId.{CellId}
use Rattle.cell_object.specs.declared.object.Entry.{Entry}
use Rattle.cell_world.specs.declared.state.LinkRow.{LinkRow}
use Rattle.cell_world.specs.declared.state.Target.{Target}
use Rattle.cell_world.specs.declared.state.Target.TheVariants.{Section, Number}
use Rattle.cell_world.specs.World.{World, Cell}
use Rattle.cell_world.specs.Linked.Relink.{link_of, link_to, links_of}
use Rattle.cell_world.specs.Linked.Target.{target_of}
use Rattle.cell_plan.specs.Staying.{links_in}
use Rattle.cell_plan.specs.Users.{leads_among}

abbrev is_of : ℕ → LinkRow → Bool
is_of n l = l.user.cell.0 == n

-- the links of a cell are of no other
own_row : (n : ℕ) (c : Cell) (k : ℕ) (e : Entry) (t : Option Target) (tail : List LinkRow) → (c.id.0 == n) ≡ true
    → filter (is_of n) (cons_option (elim t as (λ _. Option LinkRow) [ None ↦ None | Some target ↦ link_to c k e target ]) tail)
    ≡ cons_option (elim t as (λ _. Option LinkRow) [ None ↦ None | Some target ↦ link_to c k e target ]) (filter (is_of n) tail)
own_row n c k e None tail own = refl
own_row n c k e (Some (Number value)) tail own = refl
own_row n c k e (Some (Section key offset addr)) tail own = rw own refl

own_rows : (n : ℕ) (v : World) (c : Cell) (k : ℕ) (es : List Entry) → (c.id.0 == n) ≡ true → filter (is_of n) (filter_map (link_of v c) (numbered_from k es)) ≡ filter_map (link_of v c) (numbered_from k es)
own_rows n v c k [] own = refl
own_rows n v c k (e ∷ es) own =
    own_row n c k e (target_of v c e) (filter_map (link_of v c) (numbered_from (suc k) es)) own
    ∙ ap (cons_option (link_of v c (k, e))) (own_rows n v c (suc k) es own)

other_row : (n : ℕ) (c : Cell) (k : ℕ) (e : Entry) (t : Option Target) (tail : List LinkRow) → (c.id.0 == n) ≡ false
    → filter (is_of n) (cons_option (elim t as (λ _. Option LinkRow) [ None ↦ None | Some target ↦ link_to c k e target ]) tail) ≡ filter (is_of n) tail
other_row n c k e None tail other = refl
other_row n c k e (Some (Number value)) tail other = refl
other_row n c k e (Some (Section key offset addr)) tail other = rw other refl

other_rows : (n : ℕ) (v : World) (c : Cell) (k : ℕ) (es : List Entry) → (c.id.0 == n) ≡ false → filter (is_of n) (filter_map (link_of v c) (numbered_from k es)) ≡ []
other_rows n v c k [] other = refl
other_rows n v c k (e ∷ es) other =
    other_row n c k e (target_of v c e) (filter_map (link_of v c) (numbered_from (suc k) es)) other ∙ other_rows n v c (suc k) es other

later_none : (n : ℕ) (v : World) (cells : List Cell) → list_all (λ d. nat_lt n d.id.0) cells ≡ true → filter (is_of n) (flat_map (links_in v) cells) ≡ []
later_none n v [] later = refl
later_none n v (d ∷ cells) later =
    let parts = both (nat_lt n d.id.0) (list_all (λ x. nat_lt n x.id.0) cells) later in
    filter-append (is_of n) (links_in v d) (flat_map (links_in v) cells)
    ∙ rw (other_rows n v d 0 d.object.entries (above parts.0), later_none n v cells parts.1) refl
  where
    above : nat_lt n d.id.0 ≡ true → (d.id.0 == n) ≡ false
    above h = grind (arith, nat_tests)

one_later : (n : ℕ) (cells : List Cell) (c : Cell) → list_all (λ d. nat_lt n d.id.0) cells ≡ true → In c cells → nat_lt n c.id.0 ≡ true
one_later n [] c later there = absurd there
one_later n (d ∷ cells) c later (inl e) = rw e (both (nat_lt n d.id.0) (list_all (λ x. nat_lt n x.id.0) cells) later).0
one_later n (d ∷ cells) c later (inr there) = one_later n cells c (both (nat_lt n d.id.0) (list_all (λ x. nat_lt n x.id.0) cells) later).1 there

found_among : (v : World) (cells : List Cell) (c : Cell) → each_pair (λ a b. nat_lt a.id.0 b.id.0) cells ≡ true → In c cells → filter (is_of c.id.0) (flat_map (links_in v) cells) ≡ links_in v c
found_among v [] c rise there = absurd there
found_among v (d ∷ cells) c rise (inl e) =
    let parts = both (list_all (λ x. nat_lt d.id.0 x.id.0) cells) (each_pair (λ a b. nat_lt a.id.0 b.id.0) cells) rise in
    rw e (
    filter-append (is_of d.id.0) (links_in v d) (flat_map (links_in v) cells)
    ∙ rw (own_rows d.id.0 v d 0 d.object.entries (same d.id.0), later_none d.id.0 v cells parts.0) (append_nil (links_in v d))
    )
  where
    same : (n : ℕ) → (n == n) ≡ true
    same n = grind (arith, nat_tests)

    append_nil : (xs : List LinkRow) → xs ++ [] ≡ xs
    append_nil [] = refl
    append_nil (x ∷ xs) = ap (λ ys. x ∷ ys) (append_nil xs)
found_among v (d ∷ cells) c rise (inr there) =
    let parts = both (list_all (λ x. nat_lt d.id.0 x.id.0) cells) (each_pair (λ a b. nat_lt a.id.0 b.id.0) cells) rise in
    filter-append (is_of c.id.0) (links_in v d) (flat_map (links_in v) cells)
    ∙ rw (other_rows c.id.0 v d 0 d.object.entries (below (one_later d.id.0 cells c parts.0 there))) (found_among v cells c parts.1 there)
  where
    below : nat_lt d.id.0 c.id.0 ≡ true → (d.id.0 == c.id.0) ≡ false
    below h = grind (arith, nat_tests)

-- where the links are those that linking gives, those of a cell are its own
pub links_found : (v : World) (c : Cell) → IsTrue (each_pair (λ a b. nat_lt a.id.0 b.id.0) v.cells) → v.links ≡ links_of v → In c v.cells → filter (λ l. l.user.cell.0 == c.id.0) v.links ≡ links_in v c
links_found v c rise linked there = ap (filter (is_of c.id.0)) linked ∙ found_among v v.cells c rise there

-- a cell uses some cells where it uses one of them
pub uses_any : (cells : List CellId) (rows : List LinkRow) (n : ℕ) → list_any (λ (c : CellId). is_user_of c.0 rows n) cells ≡ leads_among (map (λ c. c.0) cells) rows n
uses_any cells rows n =
    alike (list_any (λ (c : CellId). is_user_of c.0 rows n) cells) (list_any leads rows)
    (λ h.
    let c = any_found (λ (c : CellId). is_user_of c.0 rows n) cells h in
    let r = any_found (λ (r : LinkRow). r.target.cell.0 == c.0.0 && r.user.cell.0 == n) rows c.2 in
    let tests = both (r.0.target.cell.0 == c.0.0) (r.0.user.cell.0 == n) r.2 in
    any_of leads rows r.0 r.1
    (and_yes (r.0.user.cell.0 == n) (holds numbers r.0.target.cell.0) tests.1 (any_of (λ y. y == r.0.target.cell.0) numbers c.0.0 (in_map (λ (c : CellId). c.0) cells c.0 c.1) (turned r.0.target.cell.0 c.0.0 tests.0))))
    (λ h.
    let r = any_found leads rows h in
    let tests = both (r.0.user.cell.0 == n) (holds numbers r.0.target.cell.0) r.2 in
    let y = any_found (λ y. y == r.0.target.cell.0) numbers tests.1 in
    let c = of_map (λ (c : CellId). c.0) cells y.0 y.1 in
    any_of (λ (c : CellId). is_user_of c.0 rows n) cells c.0 c.1
    (any_of (λ (r : LinkRow). r.target.cell.0 == c.0.0 && r.user.cell.0 == n) rows r.0 r.1
    (and_yes (r.0.target.cell.0 == c.0.0) (r.0.user.cell.0 == n) (turned c.0.0 r.0.target.cell.0 (subst (λ x. (x == r.0.target.cell.0) ≡ true) (sym c.2) y.2)) tests.0)))
    ∙ sym (any_filter (λ (l : LinkRow). l.user.cell.0 == n) (λ l. holds numbers l.target.cell.0) rows)
  where
    numbers : List ℕ
    numbers = map (λ c. c.0) cells

    leads : LinkRow → Bool
    leads r = r.user.cell.0 == n && holds numbers r.target.cell.0

    turned : (a b : ℕ) → (a == b) ≡ true → (b == a) ≡ true
    turned a b h = grind (arith, nat_tests)

pub filter_alike : {X : Type 0} (p q : X → Bool) → ((x : X) → p x ≡ q x) → (xs : List X) → filter p xs ≡ filter q xs
filter_alike p q same [] = refl
filter_alike p q same (x ∷ xs) = rw (same x, filter_alike p q same xs) refl
