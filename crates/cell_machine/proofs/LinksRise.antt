-- The links of a coherent machine rise by user cell and entry.
use Rattle.std.proofs.Common.{◌≡◌, refl, sym, ap, subst, arith, ℕ, suc, ◌≤◌, ◌<◌, inl, inr, Bool, true, ◌&&◌, ◌||◌, ◌==◌, List, [], ◌∷◌}
use Rattle.std.specs.Prelude.{Option, Some, None, filter_map, flat_map, nat_lt}
use Rattle.std.specs.List.{AllByRecursion, list_all, cons_option}
use Rattle.std.proofs.lemmas.Bool.{and_parts, and_from, ltb-true}
use Rattle.std.proofs.lemmas.Bool.Decides.{nat_tests}
use Rattle.cell_num.specs.Lists.{each_pair, numbered_from, In}
use Rattle.cell_object.specs.declared.object.Entry.{Entry}
use Rattle.cell_world.specs.declared.state.LinkRow.{LinkRow}
use Rattle.cell_world.specs.declared.state.Target.{Target}
use Rattle.cell_world.specs.declared.state.Target.TheVariants.{Section, Number}
use Rattle.cell_world.specs.World.{World, Cell, key_of}
use Rattle.cell_world.specs.Coherent.{IsCoherent}
use Rattle.cell_world.specs.Linked.Relink.{link_of, link_to}
use Rattle.cell_world.specs.Linked.Target.{target_of}
use Rattle.cell_num.proofs.Elements.{all-In, In-all, In-flat_map}
use Rattle.cell_num.proofs.Sublists.{pairs-append}
use Rattle.cell_graph.specs.Order.{Rises, below_link}
use Rattle.cell_machine.specs.LinkOrder.{is_before}

lower_cell : (a b m n : ℕ) → a < b → (nat_lt a b || a == b && nat_lt m n) ≡ true
lower_cell a b m n lt = grind (arith, nat_tests)

lower_entry : (a b m n : ℕ) → a ≡ b → m < n → (nat_lt a b || a == b && nat_lt m n) ≡ true
lower_entry a b m n same lt = grind (arith, nat_tests)

-- lists that rise, of elements that rise
pairs_flat : {X Y : Type 0} (t : X → X → Bool) (u : Y → Y → Bool) (f : X → List Y) (xs : List X) → each_pair t xs ≡ true
    → ((x : X) → In x xs → each_pair u (f x) ≡ true)
    → ((x y : X) → t x y ≡ true → (a b : Y) → In a (f x) → In b (f y) → u a b ≡ true)
    → each_pair u (flat_map f xs) ≡ true
pairs_flat t u f [] up own across = refl
pairs_flat {X = X} {Y = Y} t u f (x ∷ xs) up own across =
    let k : (list_all (t x) xs ≡ true) × (each_pair t xs ≡ true) = and_parts (list_all (t x) xs) (each_pair t xs) up in
    pairs-append u (f x) (flat_map f xs) (own x (inl refl)) (pairs_flat t u f xs k.1 (λ y i. own y (inr i)) across)
    (λ a b i j. let y : (y : X) × In y xs × In b (f y) = In-flat_map f xs b j in across x y.0 (all-In (t x) xs k.0 y.0 y.1) a b i y.2)

module _ (w : World) (c : Cell) where
  abbrev rows_from : ℕ → List Entry → List LinkRow
  rows_from i entries = filter_map (link_of w c) (numbered_from i entries)

  abbrev linked : ℕ → Entry → Option Target → Option LinkRow
  linked i e o = elim o as (λ _. Option LinkRow) [ None ↦ None | Some target ↦ link_to c i e target ]

  -- a link of the cell, of the i-th entry or a later one
  abbrev IsFrom : ℕ → LinkRow → Type 0
  IsFrom i r = (r.user.cell.0 ≡ c.id.0) × (i ≤ r.entry)

  from_entry : (i : ℕ) (e : Entry) (o : Option Target) (rows : List LinkRow) (r : LinkRow) → In r (cons_option (linked i e o) rows) → (In r rows → IsFrom (suc i) r) → IsFrom i r
  from_entry i e None rows r k rest = let h = rest k in (h.0, omega (arith, h.1))
  from_entry i e (Some (Number value)) rows r k rest = let h = rest k in (h.0, omega (arith, h.1))
  from_entry i e (Some (Section key offset addr)) rows r (inl same) rest =
      let at : r.entry ≡ i = ap (λ (r : LinkRow). r.entry) same in (ap (λ (r : LinkRow). r.user.cell.0) same, omega (arith, at))
  from_entry i e (Some (Section key offset addr)) rows r (inr k) rest = let h = rest k in (h.0, omega (arith, h.1))

  from_here : (i : ℕ) (entries : List Entry) (r : LinkRow) → In r (rows_from i entries) → IsFrom i r
  from_here i [] r k = absurd k
  from_here i (e ∷ entries) r k = from_entry i e (target_of w c e) (rows_from (suc i) entries) r k (from_here (suc i) entries r)

  entry_rises : (i : ℕ) (e : Entry) (o : Option Target) (rows : List LinkRow) → ((r : LinkRow) → In r rows → IsFrom (suc i) r) → each_pair is_before rows ≡ true → each_pair is_before (cons_option (linked i e o) rows) ≡ true
  entry_rises i e None rows later up = up
  entry_rises i e (Some (Number value)) rows later up = up
  entry_rises i e (Some (Section key offset addr)) rows later up = and_from (list_all (is_before row) rows) (each_pair is_before rows) (In-all (is_before row) rows before) up
    where
      row : LinkRow
      row = record { user = key_of c.id.0 e.section; entry = i; target = key }

      before : (r : LinkRow) → In r rows → is_before row r ≡ true
      before r k = let h = later r k in lower_entry c.id.0 r.user.cell.0 i r.entry (sym h.0) (omega (arith, h.1))

  own_rise : (i : ℕ) (entries : List Entry) → each_pair is_before (rows_from i entries) ≡ true
  own_rise i [] = refl
  own_rise i (e ∷ entries) = entry_rises i e (target_of w c e) (rows_from (suc i) entries) (from_here (suc i) entries) (own_rise (suc i) entries)

pub links_rise : (w : World) → IsCoherent w → each_pair is_before w.links ≡ true
links_rise w coherent =
    subst (λ (ls : List LinkRow). each_pair is_before ls ≡ true) (ap (λ (u : World). u.links) coherent.linked)
    (pairs_flat (λ (a b : Cell). nat_lt a.id.0 b.id.0) is_before (λ c. rows_from w c 0 c.object.entries) w.cells coherent.ready.cell_order (λ c i. own_rise w c 0 c.object.entries) across)
  where
    across : (c d : Cell) → nat_lt c.id.0 d.id.0 ≡ true → (a b : LinkRow) → In a (rows_from w c 0 c.object.entries) → In b (rows_from w d 0 d.object.entries) → is_before a b ≡ true
    across c d lower a b i j =
        let of_a = (from_here w c 0 c.object.entries a i).0 in
        let of_b = (from_here w d 0 d.object.entries b j).0 in
        lower_cell a.user.cell.0 b.user.cell.0 a.entry b.entry (omega (arith, of_a, of_b, ltb-true c.id.0 d.id.0 lower))

below_too : (a b m n s t : ℕ) → (nat_lt a b || a == b && nat_lt m n) ≡ true → (nat_lt a b || a == b && (nat_lt m n || m == n && nat_lt s t)) ≡ true
below_too a b m n s t h = grind (arith, nat_tests)

-- the same, as the graph has it
pub in_graph_order : (rows : List LinkRow) → each_pair is_before rows ≡ true → Rises below_link rows
in_graph_order [] up = tt
in_graph_order (r ∷ rows) up =
    let k = and_parts (list_all (is_before r) rows) (each_pair is_before rows) up in
    (above rows k.0, in_graph_order rows k.1)
  where
    above : (rows : List LinkRow) → list_all (is_before r) rows ≡ true → AllByRecursion (λ y. below_link r y ≡ true) rows
    above [] all = tt
    above (y ∷ rows) all =
        let k = and_parts (is_before r y) (list_all (is_before r) rows) all in
        (below_too r.user.cell.0 y.user.cell.0 r.entry y.entry r.user.section y.user.section k.0, above rows k.1)
