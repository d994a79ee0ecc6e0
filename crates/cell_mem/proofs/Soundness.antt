-- What always holds of a memory's fields, seen from its value, and after its regions changed.
use Rattle.std.proofs.Common.{◌≡◌, ℕ, suc, ◌+◌, ◌-◌, ◌*◌, ◌^◌, ◌/◌, ◌<◌, ◌≤◌, Bool, true, false, not, List, Option, Some, None, length, map, filter, leb, ⊎_elim, get_or, refl, sym, ap, ◌∙◌, subst, arith}
use Rattle.std.specs.Prelude.{is_some, option_map, IfSome, IsSomeAnd}
use Rattle.std.specs.List.{find, list_all}
use Rattle.std.proofs.Math.ListN.{set}
use Rattle.std.specs.Borrow.{Bor}
use Rattle.std.proofs.lemmas.List.{length-set, length-map}
use Rattle.std.proofs.lemmas.Bool.{eqb-true, leb-true, or_cases}
use Rattle.cell_num.specs.Bits.{bytes_of}
use Rattle.cell_world.specs.World.{Region, Permission}
use Rattle.cell_world.specs.Running.Memory.{covers, end_of, written}
use Rattle.cell_world.specs.Placed.Pages.{filled}
use Rattle.cell_world.specs.Placed.Place.{with_region}
use Rattle.cell_world.specs.Running.Turn.{without_region}
use Rattle.cell_world.specs.Running.Undo.{AreBytes, put_in}
use Rattle.cell_mem.specs.declared.memory.Memory.TheInside.{Inside}
use Rattle.cell_mem.specs.Inside.{IsSound, is_mark, state_of, undo_over}
use Rattle.cell_mem.specs.Index.{IsLaid, IsWhole, IsIndex, AreInPlace, held, first_page, covers_page}
use Rattle.cell_mem.specs.State.{MemoryState, IsRoom, region_of, region_with, region_from, size_of, one_more, write_at, mapped, unmapped}
use Rattle.cell_mem.specs.Undo.{UndoState, with_mapped, with_unmapped}
use Rattle.cell_mem.specs.Writing.{HasBytes, put}
use Rattle.cell_mem.proofs.Held.{found_stands, in_place_set, held_new, held_less, held_put, passes_at, starts, lies_at, one_held_more, one_held_less}
use Rattle.cell_mem.proofs.Inserting.{is_apart, laid_with, find_with, find_new, apart_covers}
use Rattle.cell_mem.proofs.Laid.{Lies, find_lies}
use Rattle.cell_mem.proofs.Marking.{marked, run_inside}
use Rattle.cell_mem.proofs.Reading.{mapped_is}
use Rattle.cell_mem.proofs.Small.{small_written}
use Rattle.cell_mem.proofs.Undoing.{no_undo, over_mapped, over_unmapped}
use Rattle.cell_mem.proofs.Seals.{marks_filled}
use Rattle.cell_mem.proofs.Removing.{starts_at, laid_less, find_left, find_gone}
use Rattle.cell_mem.proofs.Writes.{laid_written, index_written, length-bytes_of}

abbrev pub IsLaidOut : MemoryState → Type 0
IsLaidOut m = IsLaid m.base m.regions (m.base + 4096 * m.pages)

-- the regions are laid out, in the value as in the fields
pub laid_of : (i : Inside) (m : MemoryState) → IsSound i → state_of i ≡ m → IsLaidOut m
laid_of i m s e = subst IsLaidOut e s.laid

-- the region that is found, at its page
pub record IsAt (i : Inside) (page : ℕ) (r : Region) : Type 0 where
  pub inside : page < length i.regions.items
  pub at : get_or i.regions.items page None ≡ Some r
  pub start_is : r.start ≡ i.base + 4096 * page
  pub lies : Lies i.base r (i.base + 4096 * i.pages)
  pub page_is : first_page i.base r ≡ page

pub is_at : (i : Inside) (test : Region → Bool) (r : Region) → IsSound i → find test (held i.regions.items) ≡ Some r → IsAt i (first_page i.base r) r
is_at i test r s e =
    let t = found_stands i.base i.regions.items test r s.in_place e in
    let l = find_lies i.base (held i.regions.items) _ test r s.laid e in
    let same : t.page ≡ first_page i.base r = omega (arith, t.start_is) in
    record {
      inside = omega (arith, t.inside, same);
      at = ap (λ k. get_or i.regions.items k None) (sym same) ∙ t.at;
      start_is = omega (arith, t.start_is, same);
      lies = l.0;
      page_is = refl;
    }

-- the region that has mapped bytes
pub record Holds (i : Inside) (addr n page : ℕ) : Type 0 where
  pub region : Region
  pub found : find (λ r. covers r addr) (held i.regions.items) ≡ Some region
  pub is_at : IsAt i page region
  pub covered : covers region addr ≡ true
  pub has : HasBytes region addr n

pub holds : (i : Inside) (m : MemoryState) (addr n page : ℕ) → IsSound i → state_of i ≡ m → is_some (region_with m addr n) ≡ true
    → Some page ≡ option_map (first_page m.base) (region_of m addr) → Holds i addr n page
holds i m addr n page s e there p =
    let f = mapped_is (state_of i) addr n _ s.laid (subst (λ k. is_some (region_with k addr n) ≡ true) (sym e) there) in
    let at : Some page ≡ option_map (first_page i.base) (region_of (state_of i) addr) = subst (λ k. Some page ≡ option_map (first_page k.base) (region_of k addr)) (sym e) p in
    let same : first_page i.base f.region ≡ page = let q : Some page ≡ Some (first_page i.base f.region) = at ∙ ap (option_map (first_page i.base)) f.found in cc in
    let l = find_lies i.base (held i.regions.items) _ (λ r. covers r addr) f.region s.laid f.found in
    record {
      region = f.region;
      found = f.found;
      is_at = subst (λ k. IsAt i k f.region) same (is_at i (λ r. covers r addr) f.region s f.found);
      covered = l.1;
      has = f.has;
    }

-- and there is one
pub holds_none : (i : Inside) (m : MemoryState) (addr n : ℕ) → IsSound i → state_of i ≡ m → is_some (region_with m addr n) ≡ true
    → None ≡ option_map (first_page m.base) (region_of m addr) → ⊥
holds_none i m addr n s e there p =
    let f = mapped_is m addr n _ (laid_of i m s e) there in
    let q : None ≡ Some (first_page m.base f.region) = p ∙ ap (option_map (first_page m.base)) f.found in cc

-- the fields with a number written
pub record Written (i : Inside) (addr : ℕ) (new : List ℕ) (pages : List (Option Region)) : Type 0 where
  pub in_place : AreInPlace i.base pages
  pub length_is : length pages ≡ length i.regions.items
  pub regions : held pages ≡ map (λ r. written r addr new) (held i.regions.items)
  pub bytes : AreBytes (held pages)
  pub laid : IsLaid i.base (held pages) (i.base + 4096 * i.pages)
  pub index : IsIndex i.base (held pages) i.firsts.items

pub written_is : (i : Inside) (addr width value page : ℕ) → IsSound i → Holds i addr width page
    → Written i addr (bytes_of width value) (set i.regions.items page (option_map (put addr (bytes_of width value)) (get_or i.regions.items page None)))
written_is i addr width value page s h =
    let new = bytes_of width value in
    let pages : List (Option Region) = set i.regions.items page (Some (put addr new h.region)) in
    let now : held pages ≡ map (λ r. written r addr new) (held i.regions.items) = held_put i.base i.regions.items _ page h.region addr new s.laid h.is_at.at h.covered in
    let fits = λ (r : Region) (e : find (λ t. covers t addr) (held i.regions.items) ≡ Some r).
    (let same : h.region ≡ r = cc (h.found, e) in
    let high : addr + length new ≤ end_of h.region = omega (arith, length-bytes_of width value, h.has.high) in
    subst (λ t. addr + length new ≤ end_of t) same high) in
    let whole : Written i addr new pages =
    record {
      in_place = in_place_set i.base i.regions.items page (Some (put addr new h.region)) s.in_place (λ r e. let same : put addr new h.region ≡ r = cc in ap (λ t. t.start) (sym same) ∙ h.is_at.start_is);
      length_is = length-set i.regions.items page (Some (put addr new h.region));
      regions = now;
      bytes = subst AreBytes (sym now) (small_written (held i.regions.items) addr width value s.bytes);
      laid = subst (λ rs. IsLaid i.base rs (i.base + 4096 * i.pages)) (sym now) (laid_written addr new i.base (held i.regions.items) _ s.laid fits);
      index = subst (λ rs. IsIndex i.base rs i.firsts.items) (sym now) (index_written addr new i.base i.base (held i.regions.items) _ i.firsts.items s.laid fits s.index);
    } in
    subst (λ o. Written i addr new (set i.regions.items page (option_map (put addr new) o))) (sym h.is_at.at) whole

-- the fields with a new region
pub record Mapped (i : Inside) (r : Region) (page : ℕ) (pages : List (Option Region)) (firsts : List (Option ℕ)) : Type 0 where
  pub in_place : AreInPlace i.base pages
  pub regions : held pages ≡ with_region r (held i.regions.items)
  pub laid : IsLaid i.base (held pages) (i.base + 4096 * i.pages)
  pub index : IsIndex i.base (held pages) firsts
  pub inside : page + length r.bytes / 4096 ≤ length i.firsts.items
  pub there : page < length i.regions.items
  pub more : length (held pages) ≡ suc (length (held i.regions.items))

pub room_of : (i : Inside) (m : MemoryState) (start n : ℕ) → state_of i ≡ m → IsRoom m start n → IsRoom (state_of i) start n
room_of i m start n e room = subst (λ k. IsRoom k start n) (sym e) room

empty : (i : Inside) (r : Region) (page : ℕ) → IsSound i → r.start ≡ i.base + 4096 * page → 1 ≤ length r.bytes → list_all (is_apart r) (held i.regions.items) ≡ true → get_or i.regions.items page None ≡ None
empty i r page s at filled apart = go (get_or i.regions.items page None) refl
  where
    go : (o : Option Region) → get_or i.regions.items page None ≡ o → o ≡ None
    go None e = refl
    go (Some t) e =
        let free = passes_at (is_apart r) i.regions.items page t apart e in
        let begins = starts i.base i.regions.items page t s.in_place e in
        let l = lies_at i.base i.regions.items _ page t s.laid e in
        absurd (⊎_elim
        (λ (x : leb (end_of t) r.start ≡ true). omega (arith, leb-true (end_of t) r.start x, begins, at, l.whole.filled))
        (λ (x : leb (end_of r) t.start ≡ true). omega (arith, leb-true (end_of r) t.start x, begins, at, filled))
        (or_cases (leb (end_of t) r.start) (leb (end_of r) t.start) free))

pub mapped_now : (i : Inside) (start : ℕ) (p : Permission) (bytes : List ℕ) → IsSound i → IsRoom (state_of i) start (length bytes)
    → (let r : Region = record { start = start; permission = p; bytes = bytes } in
    let page = (start - i.base) / 4096 in
    Mapped i r page (set i.regions.items page (Some r)) (filled i.firsts.items page (length bytes / 4096) (Some page)))
mapped_now i start p bytes s room =
    let r : Region = record { start = start; permission = p; bytes = bytes } in
    let page : ℕ = (start - i.base) / 4096 in
    let whole : IsWhole r = record { aligned = room.aligned; whole = room.whole; filled = room.filled } in
    let at : start ≡ i.base + 4096 * page = omega (arith, room.aligned, s.space.aligned, room.above) in
    let there : page < length i.regions.items = omega (arith, s.regions, room.below, room.filled, at) in
    let pages : List (Option Region) = set i.regions.items page (Some r) in
    let free = empty i r page s at room.filled room.apart in
    let now : held pages ≡ with_region r (held i.regions.items) = held_new i.base i.regions.items page r s.in_place there free at in
    let below : end_of r ≤ i.base + 4096 * length i.firsts.items = omega (arith, s.firsts, room.below) in
    record {
      in_place = in_place_set i.base i.regions.items page (Some r) s.in_place (λ t e. let same : r ≡ t = cc in ap (λ x. x.start) (sym same) ∙ at);
      regions = now;
      laid = subst (λ rs. IsLaid i.base rs (i.base + 4096 * i.pages)) (sym now)
          (laid_with i.base (held i.regions.items) (i.base + 4096 * i.pages) r s.laid whole room.above room.below room.apart);
      index = subst (λ rs. IsIndex i.base rs (filled i.firsts.items page (length bytes / 4096) (Some page))) (sym now)
          (marked i.base (held i.regions.items) i.firsts.items r s.space.aligned whole room.above below (Some page) (with_region r (held i.regions.items)) s.index
          (λ k on. sym (ap (option_map (first_page i.base)) (find_new (covers_page i.base k) r (held i.regions.items) on (apart_covers r (i.base + 4096 * k) (held i.regions.items) on room.apart))))
          (λ k off. find_with (covers_page i.base k) r (held i.regions.items) off));
      inside = run_inside i.base (held i.regions.items) i.firsts.items r s.space.aligned whole room.above below;
      there = there;
      more = one_held_more i.regions.items page r there free;
    }

-- the region that starts there
pub record Begins (i : Inside) (start page : ℕ) : Type 0 where
  pub region : Region
  pub found : find (starts_at start) (held i.regions.items) ≡ Some region
  pub is_at : IsAt i page region
  pub start_is : region.start ≡ start

pub begins : (i : Inside) (m : MemoryState) (start : ℕ) → IsSound i → state_of i ≡ m → is_some (region_from m start) ≡ true → Begins i start ((start - i.base) / 4096)
begins i m start s e there = go (find (starts_at start) (held i.regions.items)) refl (subst (λ k. is_some (region_from k start) ≡ true) (sym e) there)
  where
    go : (o : Option Region) → find (starts_at start) (held i.regions.items) ≡ o → is_some o ≡ true → Begins i start ((start - i.base) / 4096)
    go None f h = absurd cc
    go (Some r) f h =
        let l = find_lies i.base (held i.regions.items) _ (starts_at start) r s.laid f in
        let same : r.start ≡ start = eqb-true r.start start l.1 in
        record {
          region = r;
          found = f;
          is_at = subst (λ n. IsAt i ((n - i.base) / 4096) r) same (is_at i (starts_at start) r s f);
          start_is = same;
        }

-- the fields without it
pub record Unmapped (i : Inside) (start : ℕ) (pages : List (Option Region)) (firsts : List (Option ℕ)) : Type 0 where
  pub in_place : AreInPlace i.base pages
  pub regions : held pages ≡ filter (λ r. not (starts_at start r)) (held i.regions.items)
  pub laid : IsLaid i.base (held pages) (i.base + 4096 * i.pages)
  pub index : IsIndex i.base (held pages) firsts
  pub less : suc (length (held pages)) ≡ length (held i.regions.items)

pub unmapped_now : (i : Inside) (start : ℕ) → IsSound i → (b : Begins i start ((start - i.base) / 4096))
    → (let page = (start - i.base) / 4096 in Unmapped i start (set i.regions.items page None) (filled i.firsts.items page (length b.region.bytes / 4096) None))
unmapped_now i start s b =
    let page : ℕ = (start - i.base) / 4096 in
    let r : Region = b.region in
    let l = b.is_at.lies in
    let at : start ≡ i.base + 4096 * page = sym b.start_is ∙ b.is_at.start_is in
    let rs : List Region = held i.regions.items in
    let less : List Region = filter (λ t. not (starts_at start t)) rs in
    let now : held (set i.regions.items page None) ≡ less = held_less i.base i.regions.items page start s.in_place at in
    let below : end_of r ≤ i.base + 4096 * length i.firsts.items = omega (arith, s.firsts, l.below) in
    let index : IsIndex i.base less (filled i.firsts.items (first_page i.base r) (length r.bytes / 4096) None) =
    marked i.base rs i.firsts.items r s.space.aligned l.whole l.above below None less s.index
    (λ k on. sym (ap (option_map (first_page i.base)) (find_gone start r (i.base + 4096 * k) i.base rs _ s.laid b.found on)))
    (λ k off. find_left start r (covers_page i.base k) i.base rs _ s.laid b.found off) in
    record {
      in_place = in_place_set i.base i.regions.items page None s.in_place (λ t e. absurd cc);
      regions = now;
      laid = subst (λ ts. IsLaid i.base ts (i.base + 4096 * i.pages)) (sym now) (laid_less i.base rs _ (λ t. not (starts_at start t)) s.laid);
      index = subst (λ ts. IsIndex i.base ts (filled i.firsts.items page (length r.bytes / 4096) None)) (sym now)
          (subst (λ k. IsIndex i.base less (filled i.firsts.items k (length r.bytes / 4096) None)) b.is_at.page_is index);
      less = one_held_less i.regions.items page r b.is_at.at;
    }

pub pages_inside : (i : Inside) (start : ℕ) → IsSound i → (b : Begins i start ((start - i.base) / 4096)) → (start - i.base) / 4096 + length b.region.bytes / 4096 ≤ length i.firsts.items
pages_inside i start s b =
    let l = b.is_at.lies in
    let below : end_of b.region ≤ i.base + 4096 * length i.firsts.items = omega (arith, s.firsts, l.below) in
    subst (λ n. (n - i.base) / 4096 + length b.region.bytes / 4096 ≤ length i.firsts.items) b.start_is
    (run_inside i.base (held i.regions.items) i.firsts.items b.region s.space.aligned l.whole l.above below)

-- which region covers an address, and where it stands
pub record Found (i : Inside) (addr page : ℕ) : Type 0 where
  pub region : Region
  pub found : find (λ r. covers r addr) (held i.regions.items) ≡ Some region
  pub is_at : IsAt i page region

pub found_page : (i : Inside) (m : MemoryState) (addr page : ℕ) → IsSound i → state_of i ≡ m → Some page ≡ option_map (first_page m.base) (region_of m addr) → Found i addr page
found_page i m addr page s e p = go (region_of (state_of i) addr) refl (subst (λ k. Some page ≡ option_map (first_page k.base) (region_of k addr)) (sym e) p)
  where
    go : (o : Option Region) → find (λ r. covers r addr) (held i.regions.items) ≡ o → Some page ≡ option_map (first_page i.base) o → Found i addr page
    go None f q = absurd cc
    go (Some r) f q =
        let same : first_page i.base r ≡ page = cc in
        record { region = r; found = f; is_at = subst (λ k. IsAt i k r) same (is_at i (λ t. covers t addr) r s f) }

pub found_none : (m : MemoryState) (addr : ℕ) → None ≡ option_map (first_page m.base) (region_of m addr) → region_of m addr ≡ None
found_none m addr p = go (region_of m addr) p
  where
    go : (o : Option Region) → None ≡ option_map (first_page m.base) o → o ≡ None
    go None q = refl
    go (Some r) q = absurd cc

pub read_whole : (o : Option (Bor Region)) (r : Region) → option_map (λ b. b.now) o ≡ Some r → IsWhole r → IfSome o (λ b. IsWhole b.now)
read_whole None r e w = tt
read_whole (Some b) r e w = let same : r ≡ b.now = cc in subst IsWhole same w

pub has_at : (i : Inside) (addr n page : ℕ) → (h : Holds i addr n page) → IsSomeAnd (get_or i.regions.items page None) (λ r. HasBytes r addr n)
has_at i addr n page h = subst (λ o. IsSomeAnd o (λ r. HasBytes r addr n)) (sym h.is_at.at) h.has

pub few_written : (i : Inside) (addr : ℕ) (new : List ℕ) (pages : List (Option Region)) → IsSound i → Written i addr new pages → i.spare + length (held pages) ≤ 2 ^ 32 + i.pages
few_written i addr new pages s w = omega (arith, s.few, ap length w.regions, length-map (held i.regions.items) (λ r. written r addr new))

-- while no undo is begun
pub state_written : (i : Inside) (addr width value : ℕ) (pages : List (Option Region)) → (state_of i).undo ≡ None → Written i addr (bytes_of width value) pages
    → (let old : MemoryState = state_of i in
    let new : MemoryState = record old { regions = held pages; undo = option_map (undo_over (held pages)) i.undo } in
    let wanted : MemoryState = record old { regions = put_in old.regions (write_at addr width value) } in
    new ≡ wanted)
state_written i addr width value pages none w =
    let old : MemoryState = state_of i in
    let nothing : option_map (undo_over (held pages)) i.undo ≡ old.undo = ap (option_map (undo_over (held pages))) (no_undo (held i.regions.items) i.undo none) ∙ sym none in
    ap (λ (o : Option UndoState). let new : MemoryState = record old { regions = held pages; undo = o } in new) nothing
    ∙ ap (λ (rs : List Region). let new : MemoryState = record old { regions = rs } in new) w.regions

module _ (i : Inside) (m : MemoryState) (start : ℕ) (p : Permission) (bytes : List ℕ) (s : IsSound i) (e : state_of i ≡ m) (room : IsRoom m start (length bytes)) where
  here : IsRoom (state_of i) start (length bytes)
  here = subst (λ (k : MemoryState). IsRoom k start (length bytes)) (sym e) room

  -- what `map` makes of the fields
  pub mapped_by : (page count : ℕ) (r : Region) (firsts : List (Option ℕ)) → page ≡ (start - m.base) / 4096 → count ≡ length bytes / 4096
      → r ≡ record { start = start; permission = p; bytes = bytes } → firsts ≡ filled i.firsts.items page count (Some page)
      → Mapped i (record { start = start; permission = p; bytes = bytes }) page (set i.regions.items page (Some r)) firsts
  mapped_by page count r firsts at n is now =
      let new : Region = record { start = start; permission = p; bytes = bytes } in
      let first : (start - i.base) / 4096 ≡ page = ap (λ k. (start - k.base) / 4096) e ∙ sym at in
      let all : Mapped i new page (set i.regions.items page (Some new)) (filled i.firsts.items page (length bytes / 4096) (Some page)) =
      subst (λ k. Mapped i new k (set i.regions.items k (Some new)) (filled i.firsts.items k (length bytes / 4096) (Some k))) first (mapped_now i start p bytes s here) in
      let filled_so : filled i.firsts.items page (length bytes / 4096) (Some page) ≡ firsts = ap (λ k. filled i.firsts.items page k (Some page)) (sym n) ∙ sym now in
      subst (λ xs. Mapped i new page (set i.regions.items page (Some r)) xs) filled_so
      (subst (λ t. Mapped i new page (set i.regions.items page (Some t)) (filled i.firsts.items page (length bytes / 4096) (Some page))) (sym is) all)

  pub state_mapped : (page maps : ℕ) (pages : List (Option Region)) (firsts : List (Option ℕ)) → Mapped i (record { start = start; permission = p; bytes = bytes }) page pages firsts → maps ≡ one_more i.maps
      → (let old : MemoryState = state_of i in
      let new : MemoryState = record old { regions = held pages; spare = old.spare - 1; undo = option_map (undo_over (held pages)) i.undo; maps = maps } in
      new ≡ mapped m start p bytes)
  state_mapped page maps pages firsts f count =
      let old : MemoryState = state_of i in
      let r : Region = record { start = start; permission = p; bytes = bytes } in
      ap (λ (rs : List Region). let new : MemoryState = record old { regions = rs; spare = old.spare - 1; undo = option_map (undo_over rs) i.undo; maps = maps } in new) f.regions
      ∙ ap (λ (o : Option UndoState). let new : MemoryState = record old { regions = with_region r (held i.regions.items); spare = old.spare - 1; undo = o; maps = maps } in new) (over_mapped r (held i.regions.items) i.undo)
      ∙ ap (λ (n : ℕ). let new : MemoryState = record old { regions = with_region r (held i.regions.items); spare = old.spare - 1; undo = with_mapped r old.undo; maps = n } in new) count
      ∙ ap (λ k. mapped k start p bytes) e

module _ (i : Inside) (m : MemoryState) (start : ℕ) (s : IsSound i) (e : state_of i ≡ m) (there : is_some (region_from m start) ≡ true) where
  -- the region that starts there, at its page
  pub begins_at : (page : ℕ) → page ≡ (start - m.base) / 4096 → Begins i start page
  begins_at page at = subst (Begins i start) (ap (λ k. (start - k.base) / 4096) e ∙ sym at) (begins i m start s e there)

  pub above_base : m.base ≤ start
  above_base = let b = begins i m start s e there in omega (arith, b.start_is, b.is_at.lies.above, ap (λ k. k.base) e)

  -- its size
  pub size_is : (page : ℕ) (b : Begins i start page) → length b.region.bytes ≡ size_of (region_from m start)
  size_is page b = sym (ap size_of b.found) ∙ ap (λ k. size_of (region_from k start)) e

  -- what `unmap` makes of the fields
  pub unmapped_by : (page count : ℕ) (firsts : List (Option ℕ)) → page ≡ (start - m.base) / 4096 → (b : Begins i start page) → count ≡ length b.region.bytes / 4096
      → firsts ≡ filled i.firsts.items page count None → Unmapped i start (set i.regions.items page None) firsts
  unmapped_by page count firsts at b n now =
      let first : (start - i.base) / 4096 ≡ page = ap (λ k. (start - k.base) / 4096) e ∙ sym at in
      let P : ℕ → Type 0 = λ k. (b : Begins i start k) → Unmapped i start (set i.regions.items k None) (filled i.firsts.items k (length b.region.bytes / 4096) None) in
      subst (λ xs. Unmapped i start (set i.regions.items page None) xs) (ap (λ k. filled i.firsts.items page k None) (sym n) ∙ sym now)
      (subst P first (unmapped_now i start s) b)

  pub pages_within : (page : ℕ) → page ≡ (start - m.base) / 4096 → (b : Begins i start page) → page + length b.region.bytes / 4096 ≤ length i.firsts.items
  pages_within page at b =
      let first : (start - i.base) / 4096 ≡ page = ap (λ k. (start - k.base) / 4096) e ∙ sym at in
      let P : ℕ → Type 0 = λ k. (b : Begins i start k) → k + length b.region.bytes / 4096 ≤ length i.firsts.items in
      subst P first (pages_inside i start s) b

  pub state_unmapped : (page size : ℕ) (pages : List (Option Region)) (firsts : List (Option ℕ)) (sealed : List ℕ) → Unmapped i start pages firsts → (b : Begins i start page) → size ≡ length b.region.bytes
      → sealed ≡ filled i.sealed.items (start - i.base) size 0
      → (let old : MemoryState = state_of i in
      let new : MemoryState = record old { regions = held pages; sealed = map is_mark sealed; spare = old.spare + 1; undo = option_map (undo_over (held pages)) i.undo } in
      new ≡ unmapped m start)
  state_unmapped page size pages firsts sealed f b n marks =
      let old : MemoryState = state_of i in
      let wanted : size ≡ size_of (region_from old start) = n ∙ sym (ap size_of b.found) in
      ap (λ (rs : List Region). let new : MemoryState = record old { regions = rs; sealed = map is_mark sealed; spare = old.spare + 1; undo = option_map (undo_over rs) i.undo } in new) f.regions
      ∙ ap (λ (o : Option UndoState). let new : MemoryState = record old { regions = without_region start (held i.regions.items); sealed = map is_mark sealed; spare = old.spare + 1; undo = o } in new) (over_unmapped start (held i.regions.items) i.undo)
      ∙ ap (λ (bs : List Bool). let new : MemoryState = record old { regions = without_region start (held i.regions.items); sealed = bs; spare = old.spare + 1; undo = with_unmapped start old.undo } in new)
      (ap (map is_mark) marks ∙ marks_filled i.sealed.items (start - i.base) size 0 ∙ ap (λ k. filled (map is_mark i.sealed.items) (start - i.base) k false) wanted)
      ∙ ap (λ k. unmapped k start) e
