-- What is left of a memory when several regions go.
use Rattle.std.proofs.Common.{◌≡◌, refl, sym, ◌∙◌, ap, arith, ℕ, ◌+◌, ◌-◌, ◌*◌, ◌≤◌, ◌<◌, ◌⊎◌, inl, inr, None, Bool, true, false, not, true≢false, ◌&&◌, List, [], ◌∷◌, ◌++◌, length, get_or}
use Rattle.std.specs.Prelude.{◌==◌, filter, is_some}
use Rattle.std.specs.List.{list_all}
use Rattle.std.proofs.lemmas.Bool.{and_parts, cases_lt, eqb-true, eq-eqb}
use Rattle.std.proofs.lemmas.List.Sums.{fold-append}
use Rattle.cell_lemmas.proofs.Placement.Distinct.{pairs_first}
use Rattle.cell_num.specs.Lists.{In, each_pair, holds}
use Rattle.cell_num.proofs.Elements.{In-filtered, In-left, all-In, filter-In, filter_all, find_there, found-In, some_has}
use Rattle.cell_mem.specs.Index.{IsLaid}
use Rattle.cell_mem.specs.State.{MemoryState, region_from, size_of, unmapped}
use Rattle.cell_mem.specs.Undo.{with_unmapped}
use Rattle.cell_mem.proofs.Filling.{filled_above, filled_below, filled_inside, length-filled}
use Rattle.cell_mem.proofs.Laid.{Lies, covers_from, covers_high, covers_low}
use Rattle.cell_world.specs.Running.Memory.{covers}
use Rattle.cell_world.specs.World.{Region}
use Rattle.cell_unload.specs.Unmapped.{CanLeave, differs, without_regions}
use Rattle.cell_mem.proofs.LaidApart.{covers_alone, laid_some, lies_in}
use Rattle.cell_unload.proofs.Leftovers.{filter_twice, not_or, turn}

pub differ_not : (a b : ℕ) → differs a b ≡ true → a ≡ b → ⊥
differ_not a b h e = true≢false (sym h ∙ ap not (eq-eqb a b e))

pub regions_left : (starts : List ℕ) (m : MemoryState) → (without_regions m starts).regions ≡ filter (λ r. not (holds starts r.start)) m.regions
regions_left [] m = sym (filter_all (λ (r : Region). not (holds [] r.start)) m.regions (λ r i. refl))
regions_left (s ∷ starts) m =
    regions_left starts (unmapped m s)
    ∙ filter_twice (λ (r : Region). not (holds starts r.start)) (λ (r : Region). not (r.start == s)) (λ (r : Region). not (holds (s ∷ starts) r.start)) m.regions
    (λ r. not_or (s == r.start) (holds starts r.start) ∙ ap (λ b. not b && not (holds starts r.start)) (turn s r.start))

-- all else is as it was
pub same_base : (starts : List ℕ) (m : MemoryState) → (without_regions m starts).base ≡ m.base
same_base [] m = refl
same_base (s ∷ starts) m = same_base starts (unmapped m s)

pub same_pages : (starts : List ℕ) (m : MemoryState) → (without_regions m starts).pages ≡ m.pages
same_pages [] m = refl
same_pages (s ∷ starts) m = same_pages starts (unmapped m s)

pub no_undo : (starts : List ℕ) (m : MemoryState) → m.undo ≡ None → (without_regions m starts).undo ≡ None
no_undo [] m none = none
no_undo (s ∷ starts) m none = no_undo starts (unmapped m s) (ap (with_unmapped s) none)

pub same_patches : (starts : List ℕ) (m : MemoryState) → (without_regions m starts).patches ≡ m.patches
same_patches [] m = refl
same_patches (s ∷ starts) m = same_patches starts (unmapped m s)

pub same_maps : (starts : List ℕ) (m : MemoryState) → (without_regions m starts).maps ≡ m.maps
same_maps [] m = refl
same_maps (s ∷ starts) m = same_maps starts (unmapped m s)

-- a region stays there where another goes
still_there : (m : MemoryState) (s t : ℕ) → is_some (region_from m t) ≡ true → differs s t ≡ true → is_some (region_from (unmapped m s) t) ≡ true
still_there m s t h d =
    let f = some_has (region_from m t) h in
    let g = found-In (λ r. r.start == t) m.regions f.0 f.1 in
    ap is_some (find_there (λ r. r.start == t) (filter (λ (r : Region). not (r.start == s)) m.regions) f.0
    (filter-In (λ (r : Region). not (r.start == s)) m.regions f.0 g.0 (ap not (ap (λ n. n == s) (eqb-true f.0.start t g.1) ∙ turn t s) ∙ d)) g.1).1

pub leave_next : (m : MemoryState) (s : ℕ) (starts : List ℕ) → CanLeave m (s ∷ starts) → CanLeave (unmapped m s) starts
leave_next m s starts h =
    let p : (list_all (differs s) starts ≡ true) × (each_pair differs starts ≡ true) = and_parts (list_all (differs s) starts) (each_pair differs starts) h.apart in
    record {
      there = λ t i. still_there m s t (h.there t (inr i)) (all-In (differs s) starts p.0 t i);
      apart = p.1;
    }

leave_later : (starts others : List ℕ) (m : MemoryState) → CanLeave m (starts ++ others) → CanLeave (without_regions m starts) others
leave_later [] others m h = h
leave_later (s ∷ starts) others m h = leave_later starts others (unmapped m s) (leave_next m s (starts ++ others) h)

-- the ones first, and then the others
pub leave_parts : (starts others : List ℕ) (m : MemoryState) → CanLeave m (starts ++ others) → CanLeave m starts × CanLeave (without_regions m starts) others
leave_parts starts others m h = (
  record {
    there = λ t i. h.there t (In-left starts others t i);
    apart = pairs_first differs starts others h.apart;
  },
  leave_later starts others m h,
)

pub without_both : (starts others : List ℕ) (m : MemoryState) → without_regions m (starts ++ others) ≡ without_regions (without_regions m starts) others
without_both starts others m = fold-append unmapped m starts others

-- the seals

-- regions that stand apart, and a mark for each byte
pub record IsWell (m : MemoryState) : Type 0 where
  pub laid : IsLaid m.base m.regions (m.base + 4096 * m.pages)
  pub long : length m.sealed ≡ 4096 * m.pages

-- where the region is that starts there
record Spot (m : MemoryState) (s : ℕ) : Type 0 where
  region : Region
  there : In region m.regions
  start_is : region.start ≡ s
  size : size_of (region_from m s) ≡ length region.bytes
  above : m.base ≤ s
  inside : s - m.base + size_of (region_from m s) ≤ length m.sealed

spot_of : (m : MemoryState) (s : ℕ) → IsWell m → is_some (region_from m s) ≡ true → Spot m s
spot_of m s w h =
    let f = some_has (region_from m s) h in
    let g = found-In (λ r. r.start == s) m.regions f.0 f.1 in
    let l : Lies m.base f.0 (m.base + 4096 * m.pages) = lies_in m.base m.regions (m.base + 4096 * m.pages) w.laid f.0 g.0 in
    let e : f.0.start ≡ s = eqb-true f.0.start s g.1 in
    let n : size_of (region_from m s) ≡ length f.0.bytes = ap size_of f.1 in
    record { region = f.0; there = g.0; start_is = e; size = n; above = omega (arith, l.above, e); inside = omega (arith, l.above, l.below, e, n, w.long) }

well_next : (m : MemoryState) (s : ℕ) → IsWell m → is_some (region_from m s) ≡ true → IsWell (unmapped m s)
well_next m s w h = record {
  laid = laid_some (λ r. not (r.start == s)) m.base m.regions (m.base + 4096 * m.pages) w.laid;
  long = length-filled m.sealed (s - m.base) (size_of (region_from m s)) false (spot_of m s w h).inside ∙ w.long;
}

pub well_left : (starts : List ℕ) (m : MemoryState) → IsWell m → CanLeave m starts → IsWell (without_regions m starts)
well_left [] m w h = w
well_left (s ∷ starts) m w h = well_left starts (unmapped m s) (well_next m s w (h.there s (inl refl))) (leave_next m s starts h)

-- a mark outside the region is left
mark_left : (m : MemoryState) (s : ℕ) → IsWell m → is_some (region_from m s) ≡ true → (k : ℕ) → ((r : Region) → In r m.regions → r.start ≡ s → covers r (m.base + k) ≡ true → ⊥)
    → get_or (unmapped m s).sealed k false ≡ get_or m.sealed k false
mark_left m s w h k out = go (spot_of m s w h) (cases_lt k (s - m.base)) (cases_lt k (s - m.base + size_of (region_from m s)))
  where
    go : Spot m s → (k < s - m.base) ⊎ (s - m.base ≤ k) → (k < s - m.base + size_of (region_from m s)) ⊎ (s - m.base + size_of (region_from m s) ≤ k) → get_or (unmapped m s).sealed k false ≡ get_or m.sealed k false
    go p (inl a) b = filled_below m.sealed (s - m.base) (size_of (region_from m s)) false p.inside k false a
    go p (inr a) (inl b) = absurd (out p.region p.there p.start_is (covers_from p.region (m.base + k) (omega (arith, a, p.start_is, p.above)) (omega (arith, b, p.start_is, p.size, p.above))))
    go p (inr a) (inr b) = filled_above m.sealed (s - m.base) (size_of (region_from m s)) false p.inside k false b

-- a byte of the region has none any more
mark_gone : (m : MemoryState) (s : ℕ) → IsWell m → is_some (region_from m s) ≡ true → (k : ℕ) (r : Region) → In r m.regions → r.start ≡ s → covers r (m.base + k) ≡ true
    → get_or (unmapped m s).sealed k false ≡ false
mark_gone m s w h k r i e c =
    let p = spot_of m s w h in
    let l : Lies m.base r (m.base + 4096 * m.pages) = lies_in m.base m.regions (m.base + 4096 * m.pages) w.laid r i in
    let o : Lies m.base p.region (m.base + 4096 * m.pages) = lies_in m.base m.regions (m.base + 4096 * m.pages) w.laid p.region p.there in
    let same : r ≡ p.region = covers_alone m.base m.regions (m.base + 4096 * m.pages) s w.laid r p.region i p.there
    (covers_from r s (omega (arith, e)) (omega (arith, e, l.whole.filled))) (covers_from p.region s (omega (arith, p.start_is)) (omega (arith, p.start_is, o.whole.filled))) in
    let n : length r.bytes ≡ length p.region.bytes = ap (λ (x : Region). length x.bytes) same in
    filled_inside m.sealed (s - m.base) (size_of (region_from m s)) false p.inside k false
    (omega (arith, covers_low r (m.base + k) c, e, p.above)) (omega (arith, covers_high r (m.base + k) c, e, n, p.size, p.above))

-- what has no mark gets none
mark_none : (m : MemoryState) (s : ℕ) → IsWell m → is_some (region_from m s) ≡ true → (k : ℕ) → get_or m.sealed k false ≡ false → get_or (unmapped m s).sealed k false ≡ false
mark_none m s w h k e = go (spot_of m s w h) (cases_lt k (s - m.base)) (cases_lt k (s - m.base + size_of (region_from m s)))
  where
    go : Spot m s → (k < s - m.base) ⊎ (s - m.base ≤ k) → (k < s - m.base + size_of (region_from m s)) ⊎ (s - m.base + size_of (region_from m s) ≤ k) → get_or (unmapped m s).sealed k false ≡ false
    go p (inl a) b = filled_below m.sealed (s - m.base) (size_of (region_from m s)) false p.inside k false a ∙ e
    go p (inr a) (inl b) = filled_inside m.sealed (s - m.base) (size_of (region_from m s)) false p.inside k false a b
    go p (inr a) (inr b) = filled_above m.sealed (s - m.base) (size_of (region_from m s)) false p.inside k false b ∙ e

none_left : (starts : List ℕ) (m : MemoryState) → IsWell m → CanLeave m starts → (k : ℕ) → get_or m.sealed k false ≡ false → get_or (without_regions m starts).sealed k false ≡ false
none_left [] m w h k e = e
none_left (s ∷ starts) m w h k e =
    let t : is_some (region_from m s) ≡ true = h.there s (inl refl) in
    none_left starts (unmapped m s) (well_next m s w t) (leave_next m s starts h) k (mark_none m s w t k e)

-- a byte of a region that goes has no mark any more
pub seal_gone : (starts : List ℕ) (m : MemoryState) → IsWell m → CanLeave m starts → (k : ℕ) (r : Region) → In r m.regions → In r.start starts → covers r (m.base + k) ≡ true
    → get_or (without_regions m starts).sealed k false ≡ false
seal_gone [] m w h k r i j c = absurd j
seal_gone (s ∷ starts) m w h k r i j c = go (r.start == s) refl j (seal_gone starts (unmapped m s) (well_next m s w t) (leave_next m s starts h) k r)
  where
    t : is_some (region_from m s) ≡ true
    t = h.there s (inl refl)

    go : (b : Bool) → (r.start == s) ≡ b → In r.start (s ∷ starts)
        → (In r (unmapped m s).regions → In r.start starts → covers r ((unmapped m s).base + k) ≡ true → get_or (without_regions (unmapped m s) starts).sealed k false ≡ false)
        → get_or (without_regions (unmapped m s) starts).sealed k false ≡ false
    go true e j f = none_left starts (unmapped m s) (well_next m s w t) (leave_next m s starts h) k (mark_gone m s w t k r i (eqb-true r.start s e) c)
    go false e (inl d) f = absurd (true≢false (sym (eq-eqb r.start s d) ∙ e))
    go false e (inr j) f = f (filter-In (λ (r : Region). not (r.start == s)) m.regions r i (ap not e)) j c

-- any other has its mark still
pub seal_left : (starts : List ℕ) (m : MemoryState) → IsWell m → CanLeave m starts → (k : ℕ) → ((r : Region) → In r m.regions → In r.start starts → covers r (m.base + k) ≡ true → ⊥)
    → get_or (without_regions m starts).sealed k false ≡ get_or m.sealed k false
seal_left [] m w h k out = refl
seal_left (s ∷ starts) m w h k out =
    let t : is_some (region_from m s) ≡ true = h.there s (inl refl) in
    seal_left starts (unmapped m s) (well_next m s w t) (leave_next m s starts h) k
    (λ r i j c. out r (In-filtered (λ (r : Region). not (r.start == s)) m.regions r i) (inr j) c)
    ∙ mark_left m s w t k (λ r i e c. out r i (inl e) c)
