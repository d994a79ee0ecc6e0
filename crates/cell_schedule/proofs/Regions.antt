-- A store keeps the page table, and what is known of the memory's regions but their bytes.
use Rattle.std.proofs.Common.{◌≡◌, refl, sym, ◌∙◌, ap, arith, ℕ, ◌+◌, ◌*◌, ◌≤◌, inl, inr, Bool, true, false, cond, ◌&&◌, ◌||◌, List, [], ◌∷◌, length, map, Option, Some, None, true≢false}
use Rattle.std.specs.Prelude.{find, nat_le, nat_lt, ◌==◌, ◌-◌, ◌%◌}
use Rattle.std.specs.List.{list_any}
use Rattle.std.proofs.lemmas.Bool.{leb-true}
use Rattle.std.proofs.lemmas.List.{length-map}
use Rattle.cell_num.specs.Lists.{upto, In}
use Rattle.cell_world.specs.World.{World, Region}
use Rattle.cell_world.specs.Running.Memory.{covers, end_of, region_in, written}
use Rattle.cell_world.specs.Coherent.{IsCoherent, Shape, is_in_space, shape_of}
use Rattle.cell_world.specs.Running.Execute.{allows, seen_in}
use Rattle.cell_world.specs.Placed.Place.{is_taken, page_table}
use Rattle.cell_mem.specs.State.{size_of}
use Rattle.cell_num.proofs.Elements.{all-In, found-In, map_same}
use Rattle.cell_lemmas.proofs.Tasks.Executed.{Stored}
use Rattle.cell_num.proofs.Sublists.{and_left, and_right}
use Rattle.cell_lemmas.proofs.Tasks.Stored.{stored_shape}
use Rattle.cell_lemmas.proofs.Fields.Writes.{begins_below}
use Rattle.cell_schedule.proofs.Marks.{any_map}

-- the shapes are the same, one by one
abbrev KeepsShapes : (Region → Region) → List Region → Type 0
KeepsShapes f rs = (r : Region) → In r rs → shape_of (f r) ≡ shape_of r

covered_same : (f : Region → Region) (addr : ℕ) (rs : List Region) → KeepsShapes f rs → list_any (λ r. covers r addr) (map f rs) ≡ list_any (λ r. covers r addr) rs
covered_same f addr rs k = any_map (λ r. covers r addr) f rs ∙ pointwise rs k
  where
    pointwise : (rs : List Region) → KeepsShapes f rs → list_any (λ r. covers (f r) addr) rs ≡ list_any (λ r. covers r addr) rs
    pointwise [] k = refl
    pointwise (r ∷ rs) k =
        ap (λ (s : Shape). (nat_le s.start addr && nat_lt addr (s.start + s.size)) || list_any (λ r. covers (f r) addr) rs) (k r (inl refl))
        ∙ ap (λ b. covers r addr || b) (pointwise rs (λ s i. k s (inr i)))

sized : (f : Region → Region) (start : ℕ) (rs : List Region) → KeepsShapes f rs → size_of (find (λ r. r.start == start) (map f rs)) ≡ size_of (find (λ r. r.start == start) rs)
sized f start [] k = refl
sized f start (r ∷ rs) k =
    ap (λ (s : Shape). size_of (cond (s.start == start) (Some (f r)) (find (λ r. r.start == start) (map f rs)))) (k r (inl refl)) ∙ go (r.start == start) (sized f start rs (λ s i. k s (inr i)))
  where
    go : (b : Bool) → size_of (find (λ r. r.start == start) (map f rs)) ≡ size_of (find (λ r. r.start == start) rs) → size_of (cond b (Some (f r)) (find (λ r. r.start == start) (map f rs))) ≡ size_of (cond b (Some r) (find (λ r. r.start == start) rs))
    go true rest = ap (λ (s : Shape). s.size) (k r (inl refl))
    go false rest = rest

module _ (w : World) (h : IsCoherent w) where
  pub table_stored : (regions : List Region) → Stored (seen_in w) regions → page_table (record w { regions = regions }) ≡ page_table w
  table_stored regions (inl e) = ap (λ (rs : List Region). page_table (record w { regions = rs })) e
  table_stored regions (inr s) =
      ap (λ (rs : List Region). page_table (record w { regions = rs })) s.is
      ∙ map_same (is_taken (record w { regions = map (λ r. written r s.addr s.new) w.regions })) (is_taken w) (upto w.pages) (λ page i.
      covered_same (λ r. written r s.addr s.new) (w.base + 4096 * page) w.regions (stored_shape w h s.addr s.new s.free s.may))

  pub size_stored : (regions : List Region) → Stored (seen_in w) regions → (start : ℕ) → size_of (find (λ r. r.start == start) regions) ≡ size_of (find (λ r. r.start == start) w.regions)
  size_stored regions (inl e) start = ap (λ (rs : List Region). size_of (find (λ r. r.start == start) rs)) e
  size_stored regions (inr s) start =
      ap (λ (rs : List Region). size_of (find (λ r. r.start == start) rs)) s.is
      ∙ sized (λ r. written r s.addr s.new) start w.regions (stored_shape w h s.addr s.new s.free s.may)

  pub length_stored : (regions : List Region) → Stored (seen_in w) regions → length regions ≡ length w.regions
  length_stored regions (inl e) = ap (λ (rs : List Region). length rs) e
  length_stored regions (inr s) = ap (λ (rs : List Region). length rs) s.is ∙ length-map w.regions (λ r. written r s.addr s.new)

  -- where a store is allowed, all its bytes are in the space
  pub allowed_inside : (addr n : ℕ) → allows w.regions (λ p. p.write) addr n ≡ true → (w.base ≤ addr) × (addr + n ≤ w.base + 4096 * w.pages)
  allowed_inside addr n may = go (region_in w.regions addr) refl may
    where
      within : (r : Region) → In r w.regions → covers r addr ≡ true → addr + n ≤ r.start + length r.bytes → (w.base ≤ addr) × (addr + n ≤ w.base + 4096 * w.pages)
      within r i c l =
          let t : is_in_space w r ≡ true = all-In (is_in_space w) w.regions h.ready.in_space r i in
          let a = and_left (nat_le w.base r.start && ((r.start - w.base) % 4096 == 0) && nat_lt 0 (length r.bytes) && (length r.bytes % 4096 == 0)) (nat_le (r.start + length r.bytes) (w.base + 4096 * w.pages)) t in
          let b = and_left (nat_le w.base r.start && ((r.start - w.base) % 4096 == 0) && nat_lt 0 (length r.bytes)) (length r.bytes % 4096 == 0) a in
          let c2 = and_left (nat_le w.base r.start && ((r.start - w.base) % 4096 == 0)) (nat_lt 0 (length r.bytes)) b in
          let low : w.base ≤ r.start = leb-true w.base r.start (and_left (nat_le w.base r.start) ((r.start - w.base) % 4096 == 0) c2) in
          let high : r.start + length r.bytes ≤ w.base + 4096 * w.pages = leb-true (r.start + length r.bytes) (w.base + 4096 * w.pages) (and_right (nat_le w.base r.start && ((r.start - w.base) % 4096 == 0) && nat_lt 0 (length r.bytes) && (length r.bytes % 4096 == 0)) (nat_le (r.start + length r.bytes) (w.base + 4096 * w.pages)) t) in
          (omega (arith, low, begins_below r addr c), omega (arith, high, l))

      go : (o : Option Region) → region_in w.regions addr ≡ o → (elim o as (λ _. Bool) [ None ↦ false | Some r ↦ r.permission.write && nat_le (addr + n) (end_of r) ]) ≡ true → (w.base ≤ addr) × (addr + n ≤ w.base + 4096 * w.pages)
      go None e t = absurd (true≢false (sym t))
      go (Some r) e t =
          let f = found-In (λ x. covers x addr) w.regions r e in
          within r f.0 f.1 (leb-true (addr + n) (end_of r) (and_right r.permission.write (nat_le (addr + n) (end_of r)) t))
