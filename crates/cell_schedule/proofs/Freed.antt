-- The pages of a live task's stack are taken, and free once the task is gone.
use Rattle.std.proofs.Common.{◌≡◌, refl, sym, ◌∙◌, ap, subst, arith, ℕ, zero, suc, ◌+◌, ◌-◌, ◌*◌, ◌≤◌, ◌<◌, ◌⊎◌, inl, inr, Bool, true, false, not, true≢false, ◌&&◌, List, [], ◌∷◌, ◌++◌, length, map, get_or}
use Rattle.std.specs.Prelude.{◌/◌, ◌%◌, ◌==◌, flat_map, nat_le, nat_lt, slice_index_or}
use Rattle.std.specs.List.{list_all}
use Rattle.std.proofs.lemmas.Bool.{and_parts, cases_lt, eqb-true, eq-eqb, leb-true}
use Rattle.std.proofs.lemmas.List.{ext_get_or}
use Rattle.cell_num.specs.Lists.{from_on, In}
use Rattle.cell_world.specs.World.{World, Region, Task}
use Rattle.cell_world.specs.Running.Memory.{covers}
use Rattle.cell_world.specs.Placed.Pages.{filled, is_taken_run}
use Rattle.cell_world.specs.Placed.Place.{is_taken, page_table}
use Rattle.cell_world.specs.Coherent.{IsCoherent, Shape, shape_of, stack_shape, wanted_shapes, is_in_space}
use Rattle.cell_world.specs.Running.Turn.{without_task}
use Rattle.cell_lemmas.proofs.Placement.Distinct.{cell_shapes}
use Rattle.cell_num.proofs.Elements.{all-In, none-In, In-none, any-In, any-Has, filter-In, filter-Passes, In-filtered, In-map, In-right, map-In}
use Rattle.cell_lemmas.proofs.Fields.FieldsInside.{In-fold_shape}
use Rattle.cell_lemmas.proofs.Placement.Places.{table_length, taken_at, whole_region}
use Rattle.cell_mem.proofs.Filling.{filled_above, filled_below, filled_inside, length-filled}
use Rattle.cell_lemmas.proofs.Placement.Bare.{covers_once, region_once}
use Rattle.cell_lemmas.proofs.Fields.Writes.{begins_below, covered, ends_above}

not_equal : (a b : ℕ) → not (a == b) ≡ true → a ≡ b → ⊥
not_equal a b h e = true≢false (sym h ∙ ap not (eq-eqb a b e))

-- all numbers of a run are between its ends
pub each_from : (test : ℕ → Bool) (n a : ℕ) → ((q : ℕ) → a ≤ q → q < a + n → test q ≡ true) → list_all test (from_on a n) ≡ true
each_from test zero a h = refl
each_from test (suc n) a h = ap (λ b. b && list_all test (from_on (suc a) n)) (h a (omega arith) (omega arith)) ∙ each_from test n (suc a) (λ q l m. h q (omega (arith, l)) (omega (arith, m)))

-- the page of an address
abbrev pub page_of : ℕ → ℕ → ℕ
page_of base addr = (addr - base) / 4096

-- the region that is a task's stack
pub record Stack (w : World) (start : ℕ) : Type 0 where
  pub region : Region
  pub there : In region w.regions
  pub start_is : region.start ≡ start
  pub size : length region.bytes ≡ 16384
  pub stands : w.base + 4096 * page_of w.base start ≡ start
  pub fits : page_of w.base start + 4 ≤ w.pages

whole_pages : (base start pages : ℕ) → base ≤ start → (start - base) % 4096 ≡ 0 → start + 16384 ≤ base + 4096 * pages
    → (base + 4096 * page_of base start ≡ start) × (page_of base start + 4 ≤ pages)
whole_pages base start pages low aligned high = (omega (arith, low, aligned, high), omega (arith, low, aligned, high))

module _ (w : World) (h : IsCoherent w) (t : Task) (live : In t w.tasks) where
  pub stack_of : Stack w t.stack
  stack_of =
      let i : In (stack_shape t) (wanted_shapes w) = In-fold_shape (flat_map cell_shapes w.cells ++ map stack_shape w.tasks) [] (stack_shape t) (inr (In-right (flat_map cell_shapes w.cells) (map stack_shape w.tasks) (stack_shape t) (map-In stack_shape w.tasks t live))) in
      let m : (r : Region) × In r w.regions × (stack_shape t ≡ shape_of r) = In-map shape_of w.regions (stack_shape t) (subst (λ (l : List Shape). In (stack_shape t) l) (sym h.ready.regions) i) in
      let start : m.0.start ≡ t.stack = ap (λ (x : Shape). x.start) (sym m.2) in
      let size : length m.0.bytes ≡ 16384 = ap (λ (x : Shape). x.size) (sym m.2) in
      let inside : is_in_space w m.0 ≡ true = all-In (is_in_space w) w.regions h.ready.in_space m.0 m.1 in
      let whole = whole_region w m.0 inside in
      let ends : m.0.start + length m.0.bytes ≤ w.base + 4096 * w.pages =
      leb-true _ _ (and_parts (nat_le w.base m.0.start && ((m.0.start - w.base) % 4096 == 0) && nat_lt 0 (length m.0.bytes) && (length m.0.bytes % 4096 == 0)) (nat_le (m.0.start + length m.0.bytes) (w.base + 4096 * w.pages)) inside).1 in
      let aligned : (t.stack - w.base) % 4096 ≡ 0 = ap (λ (n : ℕ). (n - w.base) % 4096) (sym start) ∙ whole.1 in
      let places = whole_pages w.base t.stack w.pages (omega (arith, whole.0, start)) aligned (omega (arith, ends, start, size)) in
      record { region = m.0; there = m.1; start_is = start; size = size; stands = places.0; fits = places.1 }

  abbrev page : ℕ
  page = page_of w.base t.stack

  abbrev after : World
  after = without_task w t

  abbrev stays : Region → Bool
  stays r = not (r.start == t.stack)

  -- a page of the stack is covered by it, and no other is
  covers_own : (q : ℕ) → page ≤ q → q < page + 4 → covers stack_of.region (w.base + 4096 * q) ≡ true
  covers_own q l m = let s = stack_of in covered s.region (w.base + 4096 * q) (omega (arith, l, s.start_is, s.stands)) (omega (arith, m, s.start_is, s.stands, s.size))

  own_alone : (q : ℕ) → (q < page) ⊎ (page + 4 ≤ q) → covers stack_of.region (w.base + 4096 * q) ≡ true → ⊥
  own_alone q (inl l) c = let s = stack_of in omega (arith, l, s.start_is, s.stands, begins_below s.region (w.base + 4096 * q) c)
  own_alone q (inr l) c = let s = stack_of in omega (arith, l, s.start_is, s.stands, s.size, ends_above s.region (w.base + 4096 * q) c)

  -- no region that stays covers an address of the stack
  pub left_clear : (addr : ℕ) → covers stack_of.region addr ≡ true → (r : Region) → In r after.regions → covers r addr ≡ true → ⊥
  left_clear addr c r i d =
      let same : r ≡ stack_of.region = covers_once w h r stack_of.region addr (In-filtered stays w.regions r i) stack_of.there d c in
      not_equal r.start t.stack (filter-Passes stays w.regions r i) (ap (λ (x : Region). x.start) same ∙ stack_of.start_is)

  gone_at : (q : ℕ) → page ≤ q → q < page + 4 → is_taken after q ≡ false
  gone_at q l m = In-none (λ r. covers r (w.base + 4096 * q)) after.regions (λ r i. go r i (covers r (w.base + 4096 * q)) refl)
    where
      go : (r : Region) → In r after.regions → (b : Bool) → covers r (w.base + 4096 * q) ≡ b → covers r (w.base + 4096 * q) ≡ false
      go r i true e = absurd (left_clear (w.base + 4096 * q) (covers_own q l m) r i e)
      go r i false e = e

  taken_own : (q : ℕ) → page ≤ q → q < page + 4 → is_taken w q ≡ true
  taken_own q l m = any-In (λ r. covers r (w.base + 4096 * q)) w.regions stack_of.region stack_of.there (covers_own q l m)

  still_at : (q : ℕ) → (q < page) ⊎ (page + 4 ≤ q) → is_taken after q ≡ is_taken w q
  still_at q far = go (is_taken w q) refl
    where
      kept : (r : Region) → In r w.regions → covers r (w.base + 4096 * q) ≡ true → stays r ≡ true
      kept r i c = pick (r.start == t.stack) refl
        where
          pick : (b : Bool) → (r.start == t.stack) ≡ b → not b ≡ true
          pick false e = refl
          pick true e =
              let same : r ≡ stack_of.region = region_once w h r stack_of.region i stack_of.there (eqb-true r.start t.stack e ∙ sym stack_of.start_is) in
              absurd (own_alone q far (subst (λ (x : Region). covers x (w.base + 4096 * q) ≡ true) same c))

      go : (b : Bool) → is_taken w q ≡ b → is_taken after q ≡ b
      go true e =
          let r = any-Has (λ r. covers r (w.base + 4096 * q)) w.regions e in
          any-In (λ r. covers r (w.base + 4096 * q)) after.regions r.0 (filter-In stays w.regions r.0 r.1 (kept r.0 r.1 r.2)) r.2
      go false e = In-none (λ r. covers r (w.base + 4096 * q)) after.regions (λ r i. none-In (λ r. covers r (w.base + 4096 * q)) w.regions e r (In-filtered stays w.regions r i))

  within : page + 4 ≤ length (page_table w)
  within = omega (arith, stack_of.fits, table_length w)

  at_page : (q : ℕ) → q < w.pages → (q < page) ⊎ (page ≤ q) → (q < page + 4) ⊎ (page + 4 ≤ q) → get_or (page_table after) q true ≡ get_or (filled (page_table w) page 4 false) q true
  at_page q l (inl a) k = taken_at after q l ∙ (still_at q (inl a) ∙ (sym (taken_at w q l) ∙ sym (filled_below (page_table w) page 4 false within q true a)))
  at_page q l (inr a) (inl b) = taken_at after q l ∙ (gone_at q a b ∙ sym (filled_inside (page_table w) page 4 false within q true a b))
  at_page q l (inr a) (inr b) = taken_at after q l ∙ (still_at q (inr b) ∙ (sym (taken_at w q l) ∙ sym (filled_above (page_table w) page 4 false within q true b)))

  -- the table keeps step with the regions
  pub table_freed : page_table after ≡ filled (page_table w) page 4 false
  table_freed = ext_get_or true (page_table after) (filled (page_table w) page 4 false) (table_length after ∙ sym (length-filled (page_table w) page 4 false within ∙ table_length w))
      (λ q k. at_page q (subst (λ (n : ℕ). q < n) (table_length after) k) (cases_lt q page) (cases_lt q (page + 4)))

  -- the stack's pages are taken
  pub stack_taken : is_taken_run (page_table w) page 4 ≡ true
  stack_taken = each_from (λ k. slice_index_or (page_table w) k false) 4 page (λ q l m. in_table q (omega (arith, m, stack_of.fits)) ∙ taken_own q l m)
    where
      in_table : (q : ℕ) → q < w.pages → slice_index_or (page_table w) q false ≡ is_taken w q
      in_table q l = other (page_table w) q (omega (arith, l, table_length w)) ∙ taken_at w q l
        where
          other : (bs : List Bool) (q : ℕ) → q < length bs → slice_index_or bs q false ≡ slice_index_or bs q true
          other [] q l = absurd (omega (arith, l))
          other (b ∷ bs) zero l = refl
          other (b ∷ bs) (suc q) l = other bs q (omega (arith, l))
