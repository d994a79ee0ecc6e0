-- The pages of a region are taken, and free once it is unmapped.
use Rattle.std.proofs.Common.{◌≡◌, refl, sym, ◌∙◌, ap, subst, arith, ℕ, zero, suc, ◌+◌, ◌-◌, ◌*◌, ◌≤◌, ◌<◌, ◌⊎◌, inl, inr, Bool, true, false, not, true≢false, ◌&&◌, List, [], ◌∷◌, length, get_or}
use Rattle.std.specs.Prelude.{◌/◌, ◌%◌, ◌==◌, Some, filter, is_some, slice_index_or}
use Rattle.std.specs.List.{list_all, list_any}
use Rattle.std.proofs.lemmas.Bool.{cases_lt, eqb-true, eq-eqb}
use Rattle.std.proofs.lemmas.List.{ext_get_or}
use Rattle.cell_num.specs.Lists.{In, from_on}
use Rattle.cell_num.proofs.Elements.{In-filtered, In-none, any-Has, any-In, filter-In, filter-Passes, found-In, none-In, some_has}
use Rattle.cell_lemmas.proofs.Placement.Places.{table_length, taken_at}
use Rattle.cell_mem.specs.Index.{IsLaid}
use Rattle.cell_mem.specs.State.{MemoryState, region_from, size_of, unmapped}
use Rattle.cell_mem.proofs.Filling.{filled_above, filled_below, filled_inside, length-filled}
use Rattle.cell_mem.proofs.Laid.{Lies, covers_from, covers_high, covers_low}
use Rattle.cell_place.specs.Space.{SpaceState, with_run}
use Rattle.cell_world.specs.Running.Memory.{covers}
use Rattle.cell_world.specs.Placed.Pages.{filled, is_taken_run}
use Rattle.cell_world.specs.World.{Region, World}
use Rattle.cell_unload.specs.Unmapped.{IsTabled, table_of}
use Rattle.cell_mem.proofs.LaidApart.{covers_alone, lies_in}

not_equal : (a b : ℕ) → not (a == b) ≡ true → a ≡ b → ⊥
not_equal a b h e = true≢false (sym h ∙ ap not (eq-eqb a b e))

-- all numbers of a run are between its ends
each_from : (test : ℕ → Bool) (n a : ℕ) → ((q : ℕ) → a ≤ q → q < a + n → test q ≡ true) → list_all test (from_on a n) ≡ true
each_from test zero a h = refl
each_from test (suc n) a h = ap (λ b. b && list_all test (from_on (suc a) n)) (h a (omega arith) (omega arith)) ∙ each_from test n (suc a) (λ q l m. h q (omega (arith, l)) (omega (arith, m)))

index_other : (bs : List Bool) (q : ℕ) → q < length bs → slice_index_or bs q false ≡ slice_index_or bs q true
index_other [] q l = absurd (omega (arith, l))
index_other (b ∷ bs) zero l = refl
index_other (b ∷ bs) (suc q) l = index_other bs q (omega (arith, l))

-- a world of the memory's regions
abbrev pub world_with : MemoryState → World
world_with m =
    record {
      base = m.base;
      pages = m.pages;
      namespaces = [];
      cells = [];
      links = [];
      regions = m.regions;
      tasks = [];
      next_cell = 0;
      next_task = 0;
      swaps = 0;
    }

-- the page of an address, and the pages of a region
abbrev pub page_of : ℕ → ℕ → ℕ
page_of base addr = (addr - base) / 4096

abbrev pub count_of : MemoryState → ℕ → ℕ
count_of m start = size_of (region_from m start) / 4096

-- the region that starts there
pub record Own (m : MemoryState) (start : ℕ) : Type 0 where
  pub region : Region
  pub found : region_from m start ≡ Some region
  pub there : In region m.regions
  pub start_is : region.start ≡ start
  pub size : 4096 * count_of m start ≡ length region.bytes
  pub stands : m.base + 4096 * page_of m.base start ≡ start
  pub fits : page_of m.base start + count_of m start ≤ m.pages

whole_pages : (base start size pages : ℕ) → base % 4096 ≡ 0 → start % 4096 ≡ 0 → size % 4096 ≡ 0 → base ≤ start → start + size ≤ base + 4096 * pages
    → (4096 * (size / 4096) ≡ size) × (base + 4096 * page_of base start ≡ start) × (page_of base start + size / 4096 ≤ pages)
whole_pages base start size pages a b c low high = (omega (arith, c), omega (arith, a, b, low), omega (arith, a, b, c, low, high))

module _ (m : MemoryState) (laid : IsLaid m.base m.regions (m.base + 4096 * m.pages)) (aligned : m.base % 4096 ≡ 0) (start : ℕ) (here : is_some (region_from m start) ≡ true) where
  pub own_region : Own m start
  own_region =
      let f = some_has (region_from m start) here in
      let g = found-In (λ r. r.start == start) m.regions f.0 f.1 in
      let l : Lies m.base f.0 (m.base + 4096 * m.pages) = lies_in m.base m.regions (m.base + 4096 * m.pages) laid f.0 g.0 in
      let e : f.0.start ≡ start = eqb-true f.0.start start g.1 in
      let n : size_of (region_from m start) ≡ length f.0.bytes = ap size_of f.1 in
      let w = whole_pages m.base start (size_of (region_from m start)) m.pages aligned (omega (arith, l.whole.aligned, e)) (omega (arith, l.whole.whole, n)) (omega (arith, l.above, e)) (omega (arith, l.below, e, n)) in
      record { region = f.0; found = f.1; there = g.0; start_is = e; size = w.0 ∙ n; stands = w.1; fits = w.2 }

  abbrev page : ℕ
  page = page_of m.base start

  abbrev count : ℕ
  count = count_of m start

  abbrev stays : Region → Bool
  stays r = not (r.start == start)

  abbrev test : List Region → ℕ → Bool
  test rs q = list_any (λ r. covers r (m.base + 4096 * q)) rs

  abbrev after : List Region
  after = filter stays m.regions

  -- a page of the region is covered by it, and no other is
  covers_own : (q : ℕ) → page ≤ q → q < page + count → covers own_region.region (m.base + 4096 * q) ≡ true
  covers_own q l k = let s = own_region in covers_from s.region (m.base + 4096 * q) (omega (arith, l, s.start_is, s.stands)) (omega (arith, k, s.start_is, s.stands, s.size))

  own_pages : (q : ℕ) → (q < page) ⊎ (page + count ≤ q) → covers own_region.region (m.base + 4096 * q) ≡ true → ⊥
  own_pages q (inl l) c = let s = own_region in omega (arith, l, s.start_is, s.stands, covers_low s.region (m.base + 4096 * q) c)
  own_pages q (inr l) c = let s = own_region in omega (arith, l, s.start_is, s.stands, s.size, covers_high s.region (m.base + 4096 * q) c)

  -- no region that stays covers an address of the one that goes
  pub left_clear : (addr : ℕ) → covers own_region.region addr ≡ true → (r : Region) → In r after → covers r addr ≡ true → ⊥
  left_clear addr c r i d =
      let same : r ≡ own_region.region = covers_alone m.base m.regions (m.base + 4096 * m.pages) addr laid r own_region.region (In-filtered stays m.regions r i) own_region.there d c in
      not_equal r.start start (filter-Passes stays m.regions r i) (ap (λ (x : Region). x.start) same ∙ own_region.start_is)

  gone_at : (q : ℕ) → page ≤ q → q < page + count → test after q ≡ false
  gone_at q l k = In-none (λ r. covers r (m.base + 4096 * q)) after (λ r i. go r i (covers r (m.base + 4096 * q)) refl)
    where
      go : (r : Region) → In r after → (b : Bool) → covers r (m.base + 4096 * q) ≡ b → covers r (m.base + 4096 * q) ≡ false
      go r i true e = absurd (left_clear (m.base + 4096 * q) (covers_own q l k) r i e)
      go r i false e = e

  taken_own : (q : ℕ) → page ≤ q → q < page + count → test m.regions q ≡ true
  taken_own q l k = any-In (λ r. covers r (m.base + 4096 * q)) m.regions own_region.region own_region.there (covers_own q l k)

  still_at : (q : ℕ) → (q < page) ⊎ (page + count ≤ q) → test after q ≡ test m.regions q
  still_at q far = go (test m.regions q) refl
    where
      kept : (r : Region) → In r m.regions → covers r (m.base + 4096 * q) ≡ true → stays r ≡ true
      kept r i c = pick (r.start == start) refl
        where
          pick : (b : Bool) → (r.start == start) ≡ b → not b ≡ true
          pick false e = refl
          pick true e =
              let s : r.start ≡ own_region.region.start = eqb-true r.start start e ∙ sym own_region.start_is in
              let p : Lies m.base r (m.base + 4096 * m.pages) = lies_in m.base m.regions (m.base + 4096 * m.pages) laid r i in
              let o : Lies m.base own_region.region (m.base + 4096 * m.pages) = lies_in m.base m.regions (m.base + 4096 * m.pages) laid own_region.region own_region.there in
              let same : r ≡ own_region.region = covers_alone m.base m.regions (m.base + 4096 * m.pages) r.start laid r own_region.region i own_region.there
              (covers_from r r.start (omega arith) (omega (arith, p.whole.filled))) (covers_from own_region.region r.start (omega (arith, s)) (omega (arith, s, o.whole.filled))) in
              absurd (own_pages q far (subst (λ (x : Region). covers x (m.base + 4096 * q) ≡ true) same c))

      go : (b : Bool) → test m.regions q ≡ b → test after q ≡ b
      go true e =
          let r = any-Has (λ r. covers r (m.base + 4096 * q)) m.regions e in
          any-In (λ r. covers r (m.base + 4096 * q)) after r.0 (filter-In stays m.regions r.0 r.1 (kept r.0 r.1 r.2)) r.2
      go false e = In-none (λ r. covers r (m.base + 4096 * q)) after (λ r i. none-In (λ r. covers r (m.base + 4096 * q)) m.regions e r (In-filtered stays m.regions r i))

  abbrev old_world : World
  old_world = world_with m

  abbrev new_world : World
  new_world = world_with (unmapped m start)

  within : page + count ≤ length (table_of m)
  within = omega (arith, own_region.fits, table_length old_world)

  at_page : (q : ℕ) → q < m.pages → (q < page) ⊎ (page ≤ q) → (q < page + count) ⊎ (page + count ≤ q) → get_or (table_of (unmapped m start)) q true ≡ get_or (filled (table_of m) page count false) q true
  at_page q l (inl a) k = taken_at new_world q l ∙ (still_at q (inl a) ∙ (sym (taken_at old_world q l) ∙ sym (filled_below (table_of m) page count false within q true a)))
  at_page q l (inr a) (inl b) = taken_at new_world q l ∙ (gone_at q a b ∙ sym (filled_inside (table_of m) page count false within q true a b))
  at_page q l (inr a) (inr b) = taken_at new_world q l ∙ (still_at q (inr b) ∙ (sym (taken_at old_world q l) ∙ sym (filled_above (table_of m) page count false within q true b)))

  -- the table keeps step with the regions
  table_freed : table_of (unmapped m start) ≡ filled (table_of m) page count false
  table_freed = ext_get_or true (table_of (unmapped m start)) (filled (table_of m) page count false) (table_length new_world ∙ sym (length-filled (table_of m) page count false within ∙ table_length old_world))
      (λ q k. at_page q (subst (λ (n : ℕ). q < n) (table_length new_world) k) (cases_lt q page) (cases_lt q (page + count)))

  own_taken : is_taken_run (table_of m) page count ≡ true
  own_taken = each_from (λ k. slice_index_or (table_of m) k false) count page (λ q l k. in_table q (omega (arith, k, own_region.fits)) ∙ taken_own q l k)
    where
      in_table : (q : ℕ) → q < m.pages → slice_index_or (table_of m) q false ≡ test m.regions q
      in_table q l = index_other (table_of m) q (omega (arith, l, table_length old_world)) ∙ taken_at old_world q l

  module _ (s : SpaceState) (tabled : IsTabled m s) where
    -- the region's pages are taken
    pub given : is_taken_run s.taken (page_of s.base start) count ≡ true
    given =
        ap (λ (base : ℕ). is_taken_run s.taken (page_of base start) count) tabled.base
        ∙ (ap (λ (table : List Bool). is_taken_run table page count) tabled.table ∙ own_taken)

    -- and without it they are free
    pub tabled_after : IsTabled (unmapped m start) (with_run s (record { page = page_of s.base start; count = count }) false)
    tabled_after = record {
      base = tabled.base;
      table = ap (λ (base : ℕ). filled s.taken (page_of base start) count false) tabled.base ∙ (ap (λ (table : List Bool). filled table page count false) tabled.table ∙ sym table_freed);
      aligned = tabled.aligned;
      most = tabled.most;
    }

    pub above : s.base ≤ start
    above = omega (arith, own_region.stands, tabled.base)

    pub page_low : page_of s.base start < 4096
    page_low = go tabled.base
      where
        go : s.base ≡ m.base → page_of s.base start < 4096
        go e = let p : page_of s.base start ≡ page = ap (λ (base : ℕ). page_of base start) e in
            let o : Lies m.base own_region.region (m.base + 4096 * m.pages) = lies_in m.base m.regions (m.base + 4096 * m.pages) laid own_region.region own_region.there in
            omega (arith, p, own_region.fits, own_region.size, o.whole.filled, tabled.most)

    pub count_low : count ≤ 4096
    count_low = omega (arith, own_region.fits, tabled.most)

    abbrev run_at : ℕ → ℕ → SpaceState
    run_at base size = with_run s (record { page = page_of base start; count = size / 4096 }) false

    -- the same, as the code has it
    pub tabled_by : (new : MemoryState) (left : SpaceState) (base size : ℕ) → new ≡ unmapped m start → left ≡ run_at base size → base ≡ s.base → size ≡ size_of (region_from m start) → IsTabled new left
    tabled_by new left base size a b c d =
        subst (λ (v : MemoryState). IsTabled v left) (sym a)
        (subst (λ (v : SpaceState). IsTabled (unmapped m start) v) (sym (b ∙ (ap (λ n. run_at n size) c ∙ ap (λ n. run_at s.base n) d))) tabled_after)

    pub given_by : (base size : ℕ) → base ≡ s.base → size ≡ size_of (region_from m start) → is_taken_run s.taken (page_of base start) (size / 4096) ≡ true
    given_by base size c d =
        ap (λ n. is_taken_run s.taken (page_of n start) (size / 4096)) c ∙ (ap (λ n. is_taken_run s.taken (page_of s.base start) (n / 4096)) d ∙ given)

    pub page_fits : (base : ℕ) → base ≡ s.base → page_of base start < 4096
    page_fits base c = subst (λ n. page_of n start < 4096) (sym c) page_low

    pub count_fits : (size : ℕ) → size ≡ size_of (region_from m start) → size / 4096 ≤ 4096
    count_fits size d = subst (λ n. n / 4096 ≤ 4096) (sym d) count_low
