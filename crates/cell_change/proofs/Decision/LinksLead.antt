-- What becomes of the links of others when a change links them: each entry's link before and by now.
use Rattle.std.proofs.Common.{◌≡◌, refl, sym, ◌∙◌, ap, subst, arith, ℕ, suc, ◌<◌, ◌⊎◌, inl, inr, Bool, true, false, cond, not, ◌&&◌, ◌||◌, ◌==◌, List, [], ◌∷◌, ◌++◌, map, Option, Some, None}
use Rattle.std.specs.Prelude.{All, Contains, filter, filter_map, flat_map, nat_lt}
use Rattle.std.specs.List.{cons_option, list_all}
use Rattle.std.proofs.lemmas.Bool.{and_from, and_parts, ltb-true}
use Rattle.std.proofs.lemmas.Bool.Decides.{nat_tests}
use Rattle.std.proofs.lemmas.List.Elements.{filter_map-append}
use Rattle.cell_num.specs.Lists.{each_pair, numbered, numbered_from, where_true, In}
use Rattle.cell_num.proofs.Elements.{All-In, In-All, In-flat_map, In-left, In-map, In-numbered, all-In, get-In, pairs-map, pairs_same}
use Rattle.cell_num.proofs.Sublists.{pairs-append}
use Rattle.cell_object.specs.declared.object.Entry.{Entry}
use Rattle.cell_world.specs.declared.state.LinkRow.{LinkRow}
use Rattle.cell_world.specs.declared.state.NewCell.{NewCell}
use Rattle.cell_world.specs.declared.state.Target.{Target}
use Rattle.cell_world.specs.declared.state.Target.TheVariants.{Section, Number}
use Rattle.cell_world.specs.World.{World, Cell, key_of}
use Rattle.cell_world.specs.Changed.{differs, now_in}
use Rattle.cell_world.specs.Coherent.{IsCoherent, IsReady}
use Rattle.cell_world.specs.Linked.Relink.{link_of, link_to}
use Rattle.cell_world.specs.Linked.Target.{target_of}
use Rattle.cell_lemmas.specs.Grown.{IsRegrown, links_from}
use Rattle.cell_lemmas.specs.LinkSteps.{LinkStep, IsOneEntry, afters, bound_row, cell_steps, is_other_link, link_steps, moved_row, unbound_row}
use Rattle.cell_lemmas.proofs.Links.LinkSteps.{links_after, links_before, one_entry}
use Rattle.cell_lemmas.proofs.Targeting.Present.{some_same}
use Rattle.cell_graph.specs.Order.{below_link}
use Rattle.cell_commit.specs.Rewiring.{AreSteps, is_below_step, rows_of}
use Rattle.cell_commit.proofs.Rewired.{is_below, row_cases}
use Rattle.cell_machine.specs.Machine.{keys_of}
use Rattle.cell_machine.proofs.Presence.{rows_present}
use Rattle.cell_plan.specs.Staying.{IsTold}
use Rattle.cell_plan.specs.Steps.{is_change}
use Rattle.cell_plan.proofs.Stepping.{key_turned}
use Rattle.cell_space.specs.Joined.{placed_of}

lower_cell : (a b c d e f : ℕ) → a < d → (nat_lt a d || a == d && (nat_lt b e || b == e && nat_lt c f)) ≡ true
lower_cell a b c d e f lt = grind (arith, nat_tests)

lower_entry : (a b c d e f : ℕ) → a ≡ d → b < e → (nat_lt a d || a == d && (nat_lt b e || b == e && nat_lt c f)) ≡ true
lower_entry a b c d e f same lt = grind (arith, nat_tests)

pub below_cells : (l m : LinkRow) → l.user.cell.0 < m.user.cell.0 → below_link l m ≡ true
below_cells l m lt = lower_cell l.user.cell.0 l.entry l.user.section m.user.cell.0 m.entry m.user.section lt

-- entries are numbered in order
module _ {X : Type 0} where
  above : (k j : ℕ) → k < j → (xs : List X) → list_all (λ (q : ℕ × X). nat_lt k q.0) (numbered_from j xs) ≡ true
  above k j lt [] = refl
  above k j lt (x ∷ xs) = and_from (nat_lt k j) (list_all (λ (q : ℕ × X). nat_lt k q.0) (numbered_from (suc j) xs)) (lower k j lt) (above k (suc j) (omega (arith, lt)) xs)
    where
      lower : (a b : ℕ) → a < b → nat_lt a b ≡ true
      lower a b h = grind (arith, nat_tests)

  numbers_rise : (k : ℕ) (xs : List X) → each_pair (λ (p q : ℕ × X). nat_lt p.0 q.0) (numbered_from k xs) ≡ true
  numbers_rise k [] = refl
  numbers_rise k (x ∷ xs) =
      and_from (list_all (λ (q : ℕ × X). nat_lt k q.0) (numbered_from (suc k) xs)) (each_pair (λ (p q : ℕ × X). nat_lt p.0 q.0) (numbered_from (suc k) xs)) (above k (suc k) (omega arith) xs) (numbers_rise (suc k) xs)

-- the row of an entry is of its cell and its place
row_of : (v : World) (c : Cell) (p : ℕ × Entry) (l : LinkRow) → link_of v c p ≡ Some l → (l.user.cell.0 ≡ c.id.0) × (l.entry ≡ p.0)
row_of v c p l e = go (target_of v c p.1) e
  where
    go : (o : Option Target) → (elim o as (λ _. Option LinkRow) [ None ↦ None | Some target ↦ link_to c p.0 p.1 target ]) ≡ Some l → (l.user.cell.0 ≡ c.id.0) × (l.entry ≡ p.0)
    go None k = cc
    go (Some (Number value)) k = cc
    go (Some (Section key offset addr)) k =
        let r : LinkRow = record { user = key_of c.id.0 p.1.section; entry = p.0; target = key } in
        let s : r ≡ l = some_same r l k in
        (ap (λ (x : LinkRow). x.user.cell.0) (sym s), ap (λ (x : LinkRow). x.entry) (sym s))

-- where an entry's link doesn't change, nothing is picked of its step
pub unmoved : (s : LinkStep) → is_change s ≡ false → moved_row s.before s.after ≡ None
unmoved s e = go s.before s.after e
  where
    go : (b a : Option LinkRow) → is_other_link b a ≡ false → moved_row b a ≡ None
    go None a k = refl
    go (Some l) None k = refl
    go (Some l) (Some m) k = ap (λ (x : Bool). where_true x m) k

pub unreturned : (s : LinkStep) → is_change s ≡ false → moved_row s.after s.before ≡ None
unreturned s e = go s.before s.after e
  where
    go : (b a : Option LinkRow) → is_other_link b a ≡ false → moved_row a b ≡ None
    go None None k = refl
    go None (Some m) k = refl
    go (Some l) None k = refl
    go (Some l) (Some m) k = ap (λ (x : Bool). where_true (not x) l) (key_turned m.target l.target) ∙ ap (λ (x : Bool). where_true x l) k

pub uncoming : (s : LinkStep) → is_change s ≡ false → bound_row s.before s.after ≡ None
uncoming s e = go s.before s.after e
  where
    go : (b a : Option LinkRow) → is_other_link b a ≡ false → bound_row b a ≡ None
    go None None k = refl
    go None (Some m) k = cc
    go (Some l) a k = refl

pub ungone : (s : LinkStep) → is_change s ≡ false → unbound_row s.before s.after ≡ None
ungone s e = go s.before s.after e
  where
    go : (b a : Option LinkRow) → is_other_link b a ≡ false → unbound_row b a ≡ None
    go None None k = refl
    go (Some l) None k = cc
    go b (Some m) k = refl

nothing_picked : (f : LinkStep → Option LinkRow) (steps : List LinkStep) → ((s : LinkStep) → In s steps → f s ≡ None) → filter_map f steps ≡ []
nothing_picked f [] none = refl
nothing_picked f (s ∷ steps) none = ap (λ (o : Option LinkRow). cons_option o (filter_map f steps)) (none s (inl refl)) ∙ nothing_picked f steps (λ t i. none t (inr i))

picked_flat : {X : Type 0} (f : LinkStep → Option LinkRow) (g : X → List LinkStep) (xs : List X) → filter_map f (flat_map g xs) ≡ flat_map (λ x. filter_map f (g x)) xs
picked_flat f g [] = refl
picked_flat f g (x ∷ xs) = filter_map-append f (g x) (flat_map g xs) ∙ ap (λ (ys : List LinkRow). filter_map f (g x) ++ ys) (picked_flat f g xs)

flat_among : {X Y : Type 0} (g : X → List Y) (p : X → Bool) (xs : List X) → ((x : X) → In x xs → p x ≡ false → g x ≡ []) → flat_map g (filter p xs) ≡ flat_map g xs
flat_among g p [] none = refl
flat_among {X = X} {Y = Y} g p (x ∷ xs) none = go (p x) refl (flat_among g p xs (λ y i. none y (inr i)))
  where
    go : (b : Bool) → p x ≡ b → flat_map g (filter p xs) ≡ flat_map g xs → flat_map g (cond b (x ∷ filter p xs) (filter p xs)) ≡ g x ++ flat_map g xs
    go true e ih = ap (λ (ys : List Y). g x ++ ys) ih
    go false e ih = ih ∙ ap (λ (ys : List Y). ys ++ flat_map g xs) (sym (none x (inl refl) e))

module _ (v w : World) (new : List Cell) (h : IsCoherent v) (ready : IsReady w) (g : IsRegrown v w new) where
  same : (c : Cell) → In c v.cells → (now_in w c).placed ≡ c.placed
  same c i = All-In (λ (x : Cell). (now_in w x).placed ≡ x.placed) v.cells g.same c i

  abbrev step_at : Cell → ℕ × Entry → LinkStep
  step_at c p = record { before = link_of v c p; after = link_of w (now_in w c) p }

  -- both rows of a step are of its cell and its entry
  of_step : (c : Cell) → In c v.cells → (p : ℕ × Entry) → (l : LinkRow) → In l (rows_of (step_at c p)) → (l.user.cell.0 ≡ c.id.0) × (l.entry ≡ p.0)
  of_step c i p l j = go (row_cases (step_at c p) l j)
    where
      go : (link_of v c p ≡ Some l) ⊎ (link_of w (now_in w c) p ≡ Some l) → (l.user.cell.0 ≡ c.id.0) × (l.entry ≡ p.0)
      go (inl e) = row_of v c p l e
      go (inr e) = let r = row_of w (now_in w c) p l e in (r.0 ∙ ap (λ (q : NewCell). q.id.0) (same c i), r.1)

  in_cell : (c : Cell) → In c v.cells → (s : LinkStep) → In s (cell_steps v w c) → (l : LinkRow) → In l (rows_of s) → l.user.cell.0 ≡ c.id.0
  in_cell c i s j l k =
      let p = In-map (step_at c) (numbered c.object.entries) s j in
      (of_step c i p.0 l (subst (λ (t : LinkStep). In l (rows_of t)) p.2 k)).0

  own_rise : (c : Cell) → In c v.cells → each_pair is_below_step (cell_steps v w c) ≡ true
  own_rise c i =
      pairs-map is_below_step (step_at c) (numbered c.object.entries)
      ∙ pairs_same (λ (p q : ℕ × Entry). nat_lt p.0 q.0) (λ (p q : ℕ × Entry). is_below_step (step_at c p) (step_at c q)) (numbered c.object.entries)
      (λ p q a b lt. is_below (step_at c p) (step_at c q) (λ l m j k.
      let x = of_step c i p l j in
      let y = of_step c i q m k in
      lower_entry l.user.cell.0 l.entry l.user.section m.user.cell.0 m.entry m.user.section (x.0 ∙ sym y.0) (omega (arith, x.1, y.1, ltb-true p.0 q.0 lt))))
      (numbers_rise 0 c.object.entries)

  rise : (cells : List Cell) → each_pair (λ (a b : Cell). nat_lt a.id.0 b.id.0) cells ≡ true → ((c : Cell) → In c cells → In c v.cells) → each_pair is_below_step (flat_map (cell_steps v w) cells) ≡ true
  rise [] up there = refl
  rise (c ∷ cells) up there =
      let k : (list_all (λ (d : Cell). nat_lt c.id.0 d.id.0) cells ≡ true) × (each_pair (λ (a b : Cell). nat_lt a.id.0 b.id.0) cells ≡ true) =
      and_parts (list_all (λ (d : Cell). nat_lt c.id.0 d.id.0) cells) (each_pair (λ (a b : Cell). nat_lt a.id.0 b.id.0) cells) up in
      pairs-append is_below_step (cell_steps v w c) (flat_map (cell_steps v w) cells) (own_rise c (there c (inl refl))) (rise cells k.1 (λ d i. there d (inr i)))
      (λ s t i j.
      let d = In-flat_map (cell_steps v w) cells t j in
      is_below s t (λ l m a b.
      let x = in_cell c (there c (inl refl)) s i l a in
      let y = in_cell d.0 (there d.0 (inr d.1)) t d.2 m b in
      let lower = ltb-true c.id.0 d.0.id.0 (all-In (λ (e : Cell). nat_lt c.id.0 e.id.0) cells k.0 d.0 d.1) in
      below_cells l m (omega (arith, x, y, lower))))

  pub are_steps : (rows : List LinkRow) → rows ≡ v.links → AreSteps rows (link_steps v w)
  are_steps rows e = record {
    are = e ∙ links_before v w new h ready g;
    one = λ s i. All-In IsOneEntry (link_steps v w) (one_entry v w new h ready g) s i;
    rise = rise v.cells h.ready.cell_order (λ c i. i);
  }

  -- what is picked of the steps of cells that may change is picked of all
  module _ (p : Cell → Bool) (told : (c : Cell) → In c v.cells → IsTold v w c) (left : (c : Cell) → In c v.cells → p c ≡ false → (e : Entry) → In e c.object.entries → differs v w c e ≡ false)
      (f : LinkStep → Option LinkRow) (none : (s : LinkStep) → is_change s ≡ false → f s ≡ None) where
    nothing_in : (c : Cell) → In c v.cells → p c ≡ false → filter_map f (cell_steps v w c) ≡ []
    nothing_in c i unpicked = nothing_picked f (cell_steps v w c) (λ s j.
        let q = In-map (step_at c) (numbered c.object.entries) s j in
        let n = In-numbered c.object.entries 0 q.0 q.1 in
        let same : is_change (step_at c q.0) ≡ false = sym (told c i q.0 q.1) ∙ left c i unpicked q.0.1 (get-In c.object.entries n.0 q.0.1 n.1) in
        subst (λ (t : LinkStep). f t ≡ None) (sym q.2) (none (step_at c q.0) same))

    pub picked_of_all : flat_map (λ (c : Cell). filter_map f (cell_steps v w c)) (filter p v.cells) ≡ filter_map f (link_steps v w)
    picked_of_all = flat_among (λ (c : Cell). filter_map f (cell_steps v w c)) p v.cells nothing_in ∙ sym (picked_flat f (cell_steps v w) v.cells)

-- the links that others have then join sections that are there
pub steps_present : (v w : World) (new : List Cell) (h : IsCoherent v) (ready : IsReady w) (g : IsRegrown v w new) (x : World) → IsCoherent x → (rest : List LinkRow) → x.links ≡ links_from w (map (now_in w) v.cells) ++ rest
    → (cells : List NewCell) → map placed_of x.cells ≡ cells → All (λ r. Contains (keys_of cells) r.user × Contains (keys_of cells) r.target) (afters (link_steps v w))
steps_present v w new h ready g x coherent rest links cells are =
    In-All (λ (r : LinkRow). Contains (keys_of cells) r.user × Contains (keys_of cells) r.target) (afters (link_steps v w)) (λ r i.
    All-In (λ (l : LinkRow). Contains (keys_of cells) l.user × Contains (keys_of cells) l.target) x.links (rows_present x coherent cells are [] x.links refl) r
    (subst (λ (ls : List LinkRow). In r ls) (sym (links ∙ ap (λ (ls : List LinkRow). ls ++ rest) (links_after v w new h ready g))) (In-left (afters (link_steps v w)) rest r i)))
