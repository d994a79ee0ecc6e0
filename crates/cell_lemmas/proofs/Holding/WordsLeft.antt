-- Where cells are removed, the words of the tasks and of the cells that stay are as they were.
use Rattle.std.proofs.Common.{◌≡◌, refl, sym, ◌∙◌, ap, subst, arith, ℕ, zero, suc, ◌+◌, ◌-◌, ◌≤◌, ◌<◌, ◌⊎◌, inl, inr, Bool, true, false, List, [], ◌∷◌, ◌++◌, length, map, Option, Some, None, true≢false}
use Rattle.std.specs.Prelude.{All, filter, flat_map, take, drop, unwrap_or, option_and_then, slice_range, not, nat_le, nat_lt, ◌==◌, ◌&&◌}
use Rattle.std.proofs.lemmas.Bool.{and_from, le-leb, lt-ltb, eqb-true, cases_lt, false_from_ne_true}
use Rattle.cell_num.specs.Lists.{holds, where_true, In}
use Rattle.cell_object.specs.declared.object.Section.{Section as ObjectSection}
use Rattle.cell_world.specs.declared.state.Placed.{Placed}
use Rattle.cell_num.specs.Limits.{stack_size}
use Rattle.cell_world.specs.World.{World, Cell, Region, Task}
use Rattle.cell_world.specs.Kept.{Claim, holding_of, claim_of, placed_at, placed_in, is_inside, is_word_in, aligned_words, words_inside, writable_words}
use Rattle.cell_world.specs.Running.Memory.{covers, end_of, region_in, part_of, read_in}
use Rattle.cell_world.specs.Placed.Layout.{gap}
use Rattle.cell_world.specs.Linked.Target.{start_of}
use Rattle.cell_world.specs.Commands.UnloadCommand.{without_cells}
use Rattle.cell_world.specs.Running.Words.{words_in, stack_from}
use Rattle.cell_world.specs.Coherent.{IsCoherent, Shape, shape_of, stack_shape}
use Rattle.cell_lemmas.specs.Present.{IsInside}
use Rattle.cell_lemmas.proofs.Placement.Distinct.{cell_shapes}
use Rattle.cell_num.proofs.Elements.{All-In, In-map, map-In, In-right, In-flat_map, flat_map-In, In-filtered, filter-In, filter-Passes, filter_all, filter_none, flat_same, find_there, found-In, map_same, any-In, any-Has}
use Rattle.cell_lemmas.proofs.Fields.FieldsInside.{In-fold_shape}
use Rattle.cell_lemmas.proofs.Placement.Inside.{sections_lie, ready_linkable}
use Rattle.cell_lemmas.proofs.Placement.Bare.{covers_once}
use Rattle.cell_num.proofs.Sublists.{and_left}
use Rattle.cell_lemmas.proofs.Naming.Lookups.{flat_kept, unnot_false}
use Rattle.cell_lemmas.proofs.Targeting.TargetsLeft.{Closed}
use Rattle.cell_lemmas.proofs.Holding.RemoveCoherent.{remove_coherent}
use Rattle.cell_lemmas.proofs.Holding.Removals.{read_left}

-- the region that has the bytes is the one that is found by the address
inside_of : (w : World) → IsCoherent w → (q : Region) → In q w.regions → (addr n : ℕ) → 0 < n → q.start ≤ addr → addr + n ≤ end_of q → IsInside w addr n
inside_of w h q k addr n l a b =
    let c : covers q addr ≡ true = and_from (nat_le q.start addr) (nat_lt addr (end_of q)) (le-leb q.start addr a) (lt-ltb addr (end_of q) (omega (arith, l, b))) in
    let f = find_there (λ r. covers r addr) w.regions q k c in
    let g = found-In (λ r. covers r addr) w.regions f.0 f.1 in
    record { region = f.0; at = f.1; ends = subst (λ (r : Region). addr + n ≤ end_of r) (sym (covers_once w h f.0 q addr g.0 k g.1 c)) b }

-- a live task's stack is in one region
stack_inside : (w : World) → IsCoherent w → (t : Task) → In t w.tasks → IsInside w t.stack stack_size
stack_inside w h t live = go (In-map shape_of w.regions (stack_shape t) listed)
  where
    listed : In (stack_shape t) (map shape_of w.regions)
    listed = subst (λ (l : List Shape). In (stack_shape t) l) (sym h.ready.regions)
        (In-fold_shape (flat_map cell_shapes w.cells ++ map stack_shape w.tasks) [] (stack_shape t) (inr (In-right (flat_map cell_shapes w.cells) (map stack_shape w.tasks) (stack_shape t) (map-In stack_shape w.tasks t live))))

    go : (r : Region) × In r w.regions × (stack_shape t ≡ shape_of r) → IsInside w t.stack stack_size
    go r =
        let start : t.stack ≡ r.0.start = ap (λ (s : Shape). s.start) r.2 in
        let size : stack_size ≡ length r.0.bytes = ap (λ (s : Shape). s.size) r.2 in
        inside_of w h r.0 r.1 t.stack stack_size (omega arith) (omega (arith, start)) (omega (arith, start, size))

drop_nothing : (n : ℕ) → drop {A = ℕ} n [] ≡ []
drop_nothing zero = refl
drop_nothing (suc n) = refl

-- a section without bytes has no words
no_words : (regions : List Region) (s : Placed) → s.size ≡ 0 → words_inside regions s ≡ []
no_words regions s e =
    ap (λ (n : ℕ). aligned_words s.start (unwrap_or (read_in regions s.start n) [])) e
    ∙ (ap (aligned_words s.start) (nothing (region_in regions s.start)) ∙ ap words_in (drop_nothing (gap s.start 8)))
  where
    none : (b : Bool) (bytes : List ℕ) (k : ℕ) → unwrap_or (where_true b (slice_range bytes k (k + 0))) [] ≡ []
    none true bytes k = let z : k + 0 - k ≡ 0 = omega arith in ap (λ (n : ℕ). take n (drop k bytes)) z
    none false bytes k = refl

    nothing : (o : Option Region) → unwrap_or (option_and_then (λ r. part_of r s.start 0) o) [] ≡ []
    nothing None = refl
    nothing (Some r) = none (nat_le (s.start + 0) (end_of r)) r.bytes (s.start - r.start)

module _ (w : World) (h : IsCoherent w) (numbers : List ℕ) (closed : Closed w numbers) (roots : (t : Task) → In t w.tasks → holds numbers t.root ≡ false) where
  abbrev left : World
  left = without_cells w numbers

  abbrev stay : Cell → Bool
  stay c = not (holds numbers c.id.0)

  left_coherent : IsCoherent left
  left_coherent = remove_coherent w h numbers closed roots

  abbrev with_words : Task → List ℕ → Claim
  with_words t words = record { task = t.number; root = Some t.root; words = t.pc ∷ take 31 (drop 1 t.registers) ++ words }

  -- a task claims what it claimed
  pub claim_left : (t : Task) → In t w.tasks → claim_of left t ≡ claim_of w t
  claim_left t i =
      ap (λ (o : Option (List ℕ)). with_words t (words_in (drop (stack_from t) (unwrap_or o []))))
      (read_left w h _ left refl t.stack stack_size (stack_inside w h t i) (stack_inside left left_coherent t i))

  pub claims_left : (holding_of left).claims ≡ (holding_of w).claims
  claims_left = map_same (claim_of left) (claim_of w) w.tasks claim_left

  section_left : (c : Cell) → In c left.cells → (s : ObjectSection) → In s c.object.sections → words_inside left.regions (placed_at c s) ≡ words_inside w.regions (placed_at c s)
  section_left c i s j = go (cases_lt 0 s.size)
    where
      inside : (v : World) → IsCoherent v → In c v.cells → 0 < s.size → IsInside v (start_of c.placed s.number) s.size
      inside v k m = All-In (λ (t : ObjectSection). 0 < t.size → IsInside v (start_of c.placed t.number) t.size) c.object.sections
          (All-In (λ (d : Cell). All (λ (t : ObjectSection). 0 < t.size → IsInside v (start_of d.placed t.number) t.size) d.object.sections) v.cells (sections_lie v (ready_linkable v k.ready)) c m) s j

      go : (0 < s.size) ⊎ (s.size ≤ 0) → words_inside left.regions (placed_at c s) ≡ words_inside w.regions (placed_at c s)
      go (inl l) =
          ap (λ (o : Option (List ℕ)). aligned_words (start_of c.placed s.number) (unwrap_or o []))
          (read_left w h _ left refl (start_of c.placed s.number) s.size (inside w h (In-filtered stay w.cells c i) l) (inside left left_coherent i l))
      go (inr l) = let e : s.size ≡ 0 = omega (arith, l) in no_words left.regions (placed_at c s) e ∙ sym (no_words w.regions (placed_at c s) e)

  -- the sections of one cell that stays
  module _ (n : ℕ) (stays : holds numbers n ≡ false) where
    abbrev is_own : Placed → Bool
    is_own s = s.key.cell.0 == n && s.write

    others : (c : Cell) → holds numbers c.id.0 ≡ true → filter is_own (placed_in c) ≡ []
    others c g = filter_none is_own (placed_in c) (λ s i. go s (In-map (placed_at c) c.object.sections s i))
      where
        go : (s : Placed) → (t : ObjectSection) × In t c.object.sections × (s ≡ placed_at c t) → is_own s ≡ false
        go s t = false_from_ne_true (is_own s) (λ e.
            let number : c.id.0 ≡ n = sym (ap (λ (x : Placed). x.key.cell.0) t.2) ∙ eqb-true s.key.cell.0 n (and_left (s.key.cell.0 == n) s.write e) in
            true≢false (sym g ∙ (ap (holds numbers) number ∙ stays)))

    own_of : (cells : List Cell) → filter is_own (flat_map placed_in cells) ≡ flat_map (λ c. filter is_own (placed_in c)) (filter stay cells)
    own_of cells = flat_kept is_own placed_in (λ c. filter is_own (placed_in c)) stay cells (λ c i s. refl) (λ c i s. others c (unnot_false (holds numbers c.id.0) s))

    own_left : filter is_own (flat_map placed_in left.cells) ≡ filter is_own (flat_map placed_in w.cells)
    own_left =
        own_of left.cells
        ∙ (ap (flat_map (λ (c : Cell). filter is_own (placed_in c))) (filter_all stay left.cells (filter-Passes stay w.cells)) ∙ sym (own_of w.cells))

    -- and the words of the writable ones
    pub writable_left : writable_words (holding_of left) n ≡ writable_words (holding_of w) n
    writable_left =
        flat_same (words_inside left.regions) (words_inside w.regions) (filter is_own (flat_map placed_in left.cells))
        (λ s i. one s (In-flat_map placed_in left.cells s (In-filtered is_own (flat_map placed_in left.cells) s i)))
        ∙ ap (flat_map (words_inside w.regions)) own_left
      where
        one : (s : Placed) → (c : Cell) × In c left.cells × In s (placed_in c) → words_inside left.regions s ≡ words_inside w.regions s
        one s c =
            let t : (t : ObjectSection) × In t c.0.object.sections × (s ≡ placed_at c.0 t) = In-map (placed_at c.0) c.0.object.sections s c.2 in
            subst (λ (x : Placed). words_inside left.regions x ≡ words_inside w.regions x) (sym t.2) (section_left c.0 c.1 t.0 t.1)

    -- a word in the cell is in it
    pub word_left : (word : ℕ) → is_word_in (holding_of w) n word ≡ true → is_word_in (holding_of left) n word ≡ true
    word_left word e = go (any-Has (is_inside n word) (flat_map placed_in w.cells) e)
      where
        there : (s : Placed) → is_inside n word s ≡ true → (c : Cell) × In c w.cells × In s (placed_in c) → In s (flat_map placed_in left.cells)
        there s p c =
            let t : (t : ObjectSection) × In t c.0.object.sections × (s ≡ placed_at c.0 t) = In-map (placed_at c.0) c.0.object.sections s c.2 in
            let number : s.key.cell.0 ≡ n = eqb-true s.key.cell.0 n (and_left (s.key.cell.0 == n) (nat_le s.start word) (and_left (s.key.cell.0 == n && nat_le s.start word) (nat_le word (s.start + s.size)) p)) in
            let same : n ≡ c.0.id.0 = sym number ∙ ap (λ (x : Placed). x.key.cell.0) t.2 in
            flat_map-In placed_in left.cells c.0 s (filter-In stay w.cells c.0 c.1 (ap not (subst (λ m. holds numbers m ≡ false) same stays))) c.2

        go : (s : Placed) × In s (flat_map placed_in w.cells) × (is_inside n word s ≡ true) → is_word_in (holding_of left) n word ≡ true
        go s = any-In (is_inside n word) (flat_map placed_in left.cells) s.0 (there s.0 s.2 (In-flat_map placed_in w.cells s.0 s.1)) s.2
