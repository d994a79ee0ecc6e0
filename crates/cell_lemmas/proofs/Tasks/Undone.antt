-- An undo gives back every byte of the regions that there were when it began.
use Rattle.std.proofs.Common.{◌≡◌, refl, sym, ◌∙◌, ap, subst, arith, ℕ, zero, suc, ◌+◌, ◌-◌, ◌*◌, ◌<◌, ◌≤◌, ◌⊎◌, inl, inr, Bool, true, false, cond, not, List, [], ◌∷◌, ◌++◌, length, map, take, drop, length-drop, true≢false, Option, Some, None}
use Rattle.std.specs.Prelude.{All, is_some, nat_le, nat_lt, option_and_then, slice_range, ◌==◌, ◌&&◌, ◌/◌, ◌%◌}
use Rattle.std.specs.List.{list_all}
use Rattle.std.proofs.lemmas.Bool.{leb-true, le-leb}
use Rattle.std.proofs.lemmas.Nat.{mod-mul-add, div-mul-add, mod_below}
use Rattle.std.proofs.lemmas.List.{length-take-le, take-append-drop}
use Rattle.cell_num.specs.Bits.{bytes_of, little}
use Rattle.cell_num.specs.Lists.{each_pair, where_true, In}
use Rattle.cell_world.specs.World.{Region}
use Rattle.cell_world.specs.Running.Memory.{covers, end_of, part_of, pasted, region_in, written}
use Rattle.cell_world.specs.Coherent.{Shape, ends_before, shape_of}
use Rattle.cell_world.specs.Running.Execute.{number_read}
use Rattle.cell_world.specs.Placed.Place.{with_region}
use Rattle.cell_world.specs.Running.Turn.{without_region}
use Rattle.cell_world.specs.declared.transfer.Record.{Record}
use Rattle.cell_world.specs.Running.Undo.{Write, put_in, put_back, put_back_in, record_of, undone, puts, journal_of, IsPut, ArePuts, AreBytes}
use Rattle.cell_num.proofs.Elements.{In-All, All-In, In-append, In-filtered, In-map, all-In, filter-In, filter-Passes, found-In, map-In, map_same}
use Rattle.cell_lemmas.proofs.Fields.FieldsInside.{length-bytes_of}
use Rattle.cell_lemmas.proofs.Fields.Patches.{length-pasted}
use Rattle.cell_lemmas.proofs.Fields.Relinked.{map_twice}
use Rattle.cell_lemmas.specs.Kept.{KeepsShapes}
use Rattle.cell_lemmas.specs.Undo.{GivesBack, undone_in}
use Rattle.cell_num.proofs.Sublists.{In-fixed, and_left, and_right, filter_same, map_filter, pairs_kept}
use Rattle.cell_lemmas.proofs.Fields.Pastes.{over}
use Rattle.cell_lemmas.proofs.Tasks.Stores.{one_covers, shape_apart}
use Rattle.cell_lemmas.proofs.Fields.Writes.{begins_below, written_in, written_out}

-- what stood there, put over what was put there
paste_back : (b u : List ℕ) (i : ℕ) → i + length u ≤ length b → pasted (pasted b i u) i (slice_range b i (i + length u)) ≡ b
paste_back b u i h =
    let n = length u in
    let a = take i b in
    let d = drop i b in
    let x = take n d in
    let z = drop n d in
    let ld : length d ≡ length b - i = length-drop i b in
    let la : length a ≡ i = length-take-le i b (omega (arith, h)) in
    let lx : length x ≡ n = length-take-le n d (omega (arith, h, ld)) in
    let count : i + n - i ≡ n = omega arith in
    let whole : a ++ (x ++ z) ≡ b = ap (λ v. a ++ v) (take-append-drop n d) ∙ take-append-drop i b in
    let same : pasted (pasted (a ++ (x ++ z)) (length a) u) (length a) x ≡ a ++ (x ++ z) =
    ap (λ v. pasted v (length a) x) (over a x z u lx) ∙ over a u z x (sym lx) in
    let there : pasted (pasted (a ++ (x ++ z)) i u) i x ≡ a ++ (x ++ z) = subst (λ j. pasted (pasted (a ++ (x ++ z)) j u) j x ≡ a ++ (x ++ z)) la same in
    ap (λ k. pasted (pasted b i u) i (take k (drop i b))) count ∙ subst (λ v. pasted (pasted v i u) i x ≡ v) whole there

-- bytes are those of their number
bytes_again : (xs : List ℕ) → ((b : ℕ) → In b xs → b < 256) → bytes_of (length xs) (little xs) ≡ xs
bytes_again [] f = refl
bytes_again (b ∷ xs) f =
    let l : b < 256 = f b (inl refl) in
    let n : b + 256 * little xs ≡ little xs * 256 + b = omega arith in
    let low : (b + 256 * little xs) % 256 ≡ b = ap (λ k. k % 256) n ∙ mod-mul-add (little xs) 256 b l in
    let high : (b + 256 * little xs) / 256 ≡ little xs = ap (λ k. k / 256) n ∙ div-mul-add (little xs) 256 b l in
    ap (λ k. k ∷ bytes_of (length xs) ((b + 256 * little xs) / 256)) low
    ∙ (ap (λ k. b ∷ bytes_of (length xs) k) high ∙ ap (λ ys. b ∷ ys) (bytes_again xs (λ c i. f c (inr i))))

small_bytes : (n v b : ℕ) → In b (bytes_of n v) → b < 256
small_bytes zero v b i = absurd i
small_bytes (suc n) v b (inl e) = let l : v % 256 < 256 = mod_below v 256 (omega arith) in omega (arith, e, l)
small_bytes (suc n) v b (inr i) = small_bytes n (v / 256) b i

module _ {X : Type 0} where
  In-take : (n : ℕ) (xs : List X) (x : X) → In x (take n xs) → In x xs
  In-take zero xs x i = absurd i
  In-take (suc n) [] x i = i
  In-take (suc n) (y ∷ ys) x (inl e) = inl e
  In-take (suc n) (y ∷ ys) x (inr i) = inr (In-take n ys x i)

  In-drop : (n : ℕ) (xs : List X) (x : X) → In x (drop n xs) → In x xs
  In-drop zero xs x i = i
  In-drop (suc n) [] x i = i
  In-drop (suc n) (y ∷ ys) x i = inr (In-drop n ys x i)

-- regions that stand apart and hold bytes
record AreRegions (regions : List Region) : Type 0 where
  pub apart : each_pair ends_before regions ≡ true
  pub small : (r : Region) → In r regions → (b : ℕ) → In b r.bytes → b < 256

module _ (regions : List Region) (g : AreRegions regions) (x : Write) (put : IsPut regions x) where
  abbrev addr : ℕ
  addr = x.addr

  abbrev new : List ℕ
  new = bytes_of x.width x.value

  size : length new ≡ x.width
  size = length-bytes_of x.width x.value

  -- a region that covers the address is the one of the write
  record Target (r : Region) : Type 0 where
    pub at : region_in regions addr ≡ Some r
    pub start : r.start ≤ addr
    pub ends : addr + x.width ≤ r.start + length r.bytes

  target : (r : Region) → In r regions → covers r addr ≡ true → Target r
  target r i c = go (region_in regions addr) refl put
    where
      ends_in : (q : Region) → is_some (part_of q addr x.width) ≡ true → addr + x.width ≤ end_of q
      ends_in q t = pick (nat_le (addr + x.width) (end_of q)) refl t
        where
          pick : (b : Bool) → nat_le (addr + x.width) (end_of q) ≡ b → is_some (where_true b (slice_range q.bytes (addr - q.start) (addr - q.start + x.width))) ≡ true → addr + x.width ≤ end_of q
          pick true e u = leb-true (addr + x.width) (end_of q) e
          pick false e u = absurd (true≢false (sym u))

      go : (o : Option Region) → region_in regions addr ≡ o → is_some (option_and_then (λ q. part_of q addr x.width) o) ≡ true → Target r
      go None e t = absurd (true≢false (sym t))
      go (Some q) e t =
          let f = found-In (λ y. covers y addr) regions q e in
          let same : q ≡ r = one_covers regions g.apart q r addr f.0 i f.1 c in
          record {
            at = e ∙ ap Some same;
            start = begins_below r addr c;
            ends = subst (λ (y : Region). addr + x.width ≤ y.start + length y.bytes) same (ends_in q t);
          }

  same_size : (r : Region) → In r regions → covers r addr ≡ true → length (pasted r.bytes (addr - r.start) new) ≡ length r.bytes
  same_size r i c = let k : Target r = target r i c in length-pasted r.bytes new (addr - r.start) (omega (arith, size, k.start, k.ends))

  put_shape : (r : Region) → In r regions → shape_of (written r addr new) ≡ shape_of r
  put_shape r i = go (covers r addr) refl
    where
      go : (b : Bool) → covers r addr ≡ b → shape_of (written r addr new) ≡ shape_of r
      go false c = ap shape_of (written_out r addr new c)
      go true c = ap shape_of (written_in r addr new c) ∙ ap (λ n. record { start = r.start; permission = r.permission; size = n }) (same_size r i c)

  small_put : (r : Region) → In r regions → (b : ℕ) → In b (written r addr new).bytes → b < 256
  small_put r i b = go (covers r addr) refl
    where
      parts : In b (take (addr - r.start) r.bytes ++ new ++ drop (addr - r.start + length new) r.bytes) → b < 256
      parts k = pick (In-append (take (addr - r.start) r.bytes ++ new) (drop (addr - r.start + length new) r.bytes) b k)
        where
          first : In b (take (addr - r.start) r.bytes) ⊎ In b new → b < 256
          first (inl j) = g.small r i b (In-take (addr - r.start) r.bytes b j)
          first (inr j) = small_bytes x.width x.value b j

          pick : In b (take (addr - r.start) r.bytes ++ new) ⊎ In b (drop (addr - r.start + length new) r.bytes) → b < 256
          pick (inl j) = first (In-append (take (addr - r.start) r.bytes) new b j)
          pick (inr j) = g.small r i b (In-drop (addr - r.start + length new) r.bytes b j)

      go : (c : Bool) → covers r addr ≡ c → In b (written r addr new).bytes → b < 256
      go false c k = g.small r i b (subst (λ (y : Region). In b y.bytes) (written_out r addr new c) k)
      go true c k = parts (subst (λ (y : Region). In b y.bytes) (written_in r addr new c) k)

  regions_then : AreRegions (put_in regions x)
  regions_then = record {
    apart = pairs_kept ends_before ends_before (λ r. written r addr new) regions (λ a b i j. shape_apart (written a addr new) a (written b addr new) b (put_shape a i) (put_shape b j)) g.apart;
    small = λ r i. at r (In-map (λ y. written y addr new) regions r i);
  }
    where
      at : (r : Region) → (y : Region) × In y regions × (r ≡ written y addr new) → (b : ℕ) → In b r.bytes → b < 256
      at r f = subst (λ (y : Region). (b : ℕ) → In b y.bytes → b < 256) (sym f.2) (small_put f.0 f.1)

  abbrev old : List ℕ
  old = bytes_of x.width (number_read regions addr x.width)

  restored : (r : Region) → In r regions → put_back_in (record_of regions x) (written r addr new) ≡ r
  restored r i = go (covers r addr) refl
    where
      outside : covers r addr ≡ false → (b : Bool) → cond b (written r addr old) r ≡ r
      outside c true = written_out r addr old c
      outside c false = refl

      go : (b : Bool) → covers r addr ≡ b → put_back_in (record_of regions x) (written r addr new) ≡ r
      go false c = ap (put_back_in (record_of regions x)) (written_out r addr new c) ∙ outside c (nat_le (addr + x.width) (end_of r))
      go true c =
          let k : Target r = target r i c in
          let at = addr - r.start in
          let had = slice_range r.bytes at (at + x.width) in
          let fits : at + x.width ≤ length r.bytes = omega (arith, k.start, k.ends) in
          let count : at + x.width - at ≡ x.width = omega arith in
          let long : length had ≡ x.width =
          ap (λ n. length (take n (drop at r.bytes))) count ∙ length-take-le x.width (drop at r.bytes) (omega (arith, length-drop at r.bytes, fits)) in
          let number : number_read regions addr x.width ≡ little had =
          ap (λ (o : Option Region). elim o as (λ _. ℕ) [ None ↦ 0 | Some y ↦ little (slice_range y.bytes (addr - y.start) (addr - y.start + x.width)) ]) k.at in
          let is_old : old ≡ had =
          ap (bytes_of x.width) number
          ∙ (ap (λ n. bytes_of n (little had)) (sym long) ∙ bytes_again had (λ b j. g.small r i b (In-drop at r.bytes b (In-take (at + x.width - at) (drop at r.bytes) b j)))) in
          let q : Region = record r { bytes = pasted r.bytes at new } in
          let still : covers q addr ≡ true = ap (λ n. nat_le r.start addr && nat_lt addr (r.start + n)) (same_size r i c) ∙ c in
          let inside : nat_le (addr + x.width) (end_of q) ≡ true = ap (λ n. nat_le (addr + x.width) (r.start + n)) (same_size r i c) ∙ le-leb (addr + x.width) (r.start + length r.bytes) k.ends in
          let back : pasted (pasted r.bytes at new) at (slice_range r.bytes at (at + length new)) ≡ r.bytes = paste_back r.bytes new at (omega (arith, size, fits)) in
          ap (put_back_in (record_of regions x)) (written_in r addr new c)
          ∙ (ap (λ b. cond b (written q addr old) q) inside
          ∙ (written_in q addr old still
          ∙ (ap (λ v. record r { bytes = pasted (pasted r.bytes at new) at v }) (is_old ∙ ap (λ n. slice_range r.bytes at (at + n)) (sym size))
          ∙ ap (λ v. record r { bytes = v }) back)))

  one_back : put_back (put_in regions x) (record_of regions x) ≡ regions
  one_back = map_twice (put_back_in (record_of regions x)) (λ r. written r addr new) regions ∙ In-fixed (λ r. put_back_in (record_of regions x) (written r addr new)) regions restored

all_back : (regions : List Region) (writes : List Write) → AreRegions regions → ArePuts regions writes → undone (puts regions writes) (journal_of regions writes) ≡ regions
all_back regions [] g h = refl
all_back regions (x ∷ writes) g h =
    ap (λ rs. put_back rs (record_of regions x)) (all_back (put_in regions x) writes (regions_then regions g x h.0) h.1) ∙ one_back regions g x h.0

are_regions : (regions : List Region) → each_pair ends_before regions ≡ true → AreBytes regions → AreRegions regions
are_regions regions apart bytes = record { apart = apart; small = λ r i b j. All-In (λ b. b < 256) r.bytes (All-In (λ (r : Region). All (λ b. b < 256) r.bytes) regions bytes r i) b j }

pub undo_one : (regions : List Region) (x : Write) → each_pair ends_before regions ≡ true → AreBytes regions → IsPut regions x → put_back (put_in regions x) (record_of regions x) ≡ regions
undo_one regions x apart bytes put = one_back regions (are_regions regions apart bytes) x put

pub undo_all : (regions : List Region) (writes : List Write) → each_pair ends_before regions ≡ true → AreBytes regions → ArePuts regions writes → undone (puts regions writes) (journal_of regions writes) ≡ regions
undo_all regions writes apart bytes h = all_back regions writes (are_regions regions apart bytes) h

-- the last record goes back first
pub undo_next : (regions : List Region) (records : List Record) (x : Record) → undone regions (records ++ x ∷ []) ≡ undone (put_back regions x) records
undo_next regions [] x = refl
undo_next regions (y ∷ records) x = ap (λ rs. put_back rs y) (undo_next regions records x)

-- putting back leaves starts, lengths and permissions
back_shape : (x : Record) (r : Region) → shape_of (put_back_in x r) ≡ shape_of r
back_shape x r = go (nat_le (x.addr + x.width) (end_of r)) refl
  where
    within : x.addr + x.width ≤ end_of r → (b : Bool) → covers r x.addr ≡ b → shape_of (written r x.addr (bytes_of x.width x.before)) ≡ shape_of r
    within l false c = ap shape_of (written_out r x.addr (bytes_of x.width x.before) c)
    within l true c =
        ap shape_of (written_in r x.addr (bytes_of x.width x.before) c)
        ∙ ap (λ n. record { start = r.start; permission = r.permission; size = n })
        (length-pasted r.bytes (bytes_of x.width x.before) (x.addr - r.start) (omega (arith, length-bytes_of x.width x.before, begins_below r x.addr c, l)))

    go : (b : Bool) → nat_le (x.addr + x.width) (end_of r) ≡ b → shape_of (cond b (written r x.addr (bytes_of x.width x.before)) r) ≡ shape_of r
    go false e = refl
    go true e = within (leb-true (x.addr + x.width) (end_of r) e) (covers r x.addr) refl

start_still : (x : Record) (r : Region) → (put_back_in x r).start ≡ r.start
start_still x r = ap (λ s. s.start) (back_shape x r)

pub undo_shapes : (regions : List Region) (records : List Record) → KeepsShapes regions (undone regions records)
undo_shapes regions [] = refl
undo_shapes regions (x ∷ records) =
    map_twice shape_of (put_back_in x) (undone regions records)
    ∙ (map_same (λ r. shape_of (put_back_in x r)) shape_of (undone regions records) (λ r i. back_shape x r) ∙ undo_shapes regions records)

-- what is mapped meanwhile stands in no region's way
inserted : (f : Region → Region) → ((r : Region) → (f r).start ≡ r.start) → (n : Region) (rs : List Region) → map f (with_region n rs) ≡ with_region (f n) (map f rs)
inserted f e n [] = refl
inserted f e n (r ∷ rs) =
    go (nat_lt n.start r.start) (inserted f e n rs)
    ∙ ap (λ k. cond (nat_lt k r.start) (f n ∷ f r ∷ map f rs) (f r ∷ with_region (f n) (map f rs))) (sym (e n))
    ∙ ap (λ k. cond (nat_lt (f n).start k) (f n ∷ f r ∷ map f rs) (f r ∷ with_region (f n) (map f rs))) (sym (e r))
  where
    go : (b : Bool) → map f (with_region n rs) ≡ with_region (f n) (map f rs)
        → map f (cond b (n ∷ r ∷ rs) (r ∷ with_region n rs)) ≡ cond b (f n ∷ f r ∷ map f rs) (f r ∷ with_region (f n) (map f rs))
    go true rest = refl
    go false rest = ap (λ v. f r ∷ v) rest

pub In-with_region : (n r : Region) (rs : List Region) → In r rs → In r (with_region n rs)
In-with_region n r [] i = absurd i
In-with_region n r (y ∷ rs) i = go (nat_lt n.start y.start) i (In-with_region n r rs)
  where
    go : (b : Bool) → (r ≡ y) ⊎ In r rs → (In r rs → In r (with_region n rs)) → In r (cond b (n ∷ y ∷ rs) (y ∷ with_region n rs))
    go true k f = inr k
    go false (inl e) f = inl e
    go false (inr k) f = inr (f k)

pub undone_start : (r : Region) (records : List Record) → (undone_in r records).start ≡ r.start
undone_start r [] = refl
undone_start r (x ∷ records) = start_still x (undone_in r records) ∙ undone_start r records

pub undone_mapped : (n : Region) (regions : List Region) (records : List Record) → undone (with_region n regions) records ≡ with_region (undone_in n records) (undone regions records)
undone_mapped n regions [] = refl
undone_mapped n regions (x ∷ records) =
    ap (λ rs. put_back rs x) (undone_mapped n regions records)
    ∙ inserted (put_back_in x) (start_still x) (undone_in n records) (undone regions records)

undo_mapped : (regions : List Region) (records : List Record) (r new : Region) → In r (undone regions records) → In r (undone (with_region new regions) records)
undo_mapped regions records r new i =
    subst (λ rs. In r rs) (sym (undone_mapped new regions records)) (In-with_region (undone_in new records) r (undone regions records) i)

pub undone_unmapped : (start : ℕ) (regions : List Region) (records : List Record) → undone (without_region start regions) records ≡ without_region start (undone regions records)
undone_unmapped start regions [] = refl
undone_unmapped start regions (x ∷ records) =
    let other : Region → Bool = λ r. not (r.start == start) in
    ap (λ rs. put_back rs x) (undone_unmapped start regions records)
    ∙ (ap (map (put_back_in x)) (filter_same other (λ r. other (put_back_in x r)) (undone regions records) (λ r i. ap (λ k. not (k == start)) (sym (start_still x r))))
    ∙ map_filter (put_back_in x) other (undone regions records))

undo_unmapped : (regions : List Region) (records : List Record) (r : Region) (start : ℕ) → not (r.start == start) ≡ true → In r (undone regions records) → In r (undone (without_region start regions) records)
undo_unmapped regions records r start e i =
    subst (λ rs. In r rs) (sym (undone_unmapped start regions records)) (filter-In (λ (y : Region). not (y.start == start)) (undone regions records) r i e)

pub undo_begun : (regions : List Region) → GivesBack regions regions []
undo_begun regions = In-All (λ (r : Region). In r regions) regions (λ r i. i)

-- after a write and its record there is as much to go back to as before
pub undo_written : (saved regions : List Region) (records : List Record) (x : Write) → each_pair ends_before regions ≡ true → AreBytes regions → IsPut regions x
    → GivesBack saved regions records → GivesBack saved (put_in regions x) (records ++ record_of regions x ∷ [])
undo_written saved regions records x apart bytes put g =
    let same : undone (put_in regions x) (records ++ record_of regions x ∷ []) ≡ undone regions records =
    undo_next (put_in regions x) records (record_of regions x) ∙ ap (λ rs. undone rs records) (undo_one regions x apart bytes put) in
    subst (λ rs. All (λ (r : Region). In r rs) saved) (sym same) g

pub undo_with : (saved regions : List Region) (records : List Record) (new : Region) → GivesBack saved regions records → GivesBack saved (with_region new regions) records
undo_with saved regions records new g =
    In-All (λ (r : Region). In r (undone (with_region new regions) records)) saved
    (λ r i. undo_mapped regions records r new (All-In (λ (r : Region). In r (undone regions records)) saved g r i))

pub undo_without : (saved regions : List Region) (records : List Record) (start : ℕ) → GivesBack saved regions records → GivesBack (without_region start saved) (without_region start regions) records
undo_without saved regions records start g =
    let other : Region → Bool = λ r. not (r.start == start) in
    In-All (λ (r : Region). In r (undone (without_region start regions) records)) (without_region start saved)
    (λ r i. undo_unmapped regions records r start (filter-Passes other saved r i) (All-In (λ (r : Region). In r (undone regions records)) saved g r (In-filtered other saved r i)))

-- regions of the same shapes are the same where one list has the other's
same_regions : (new old : List Region) → each_pair ends_before new ≡ true → ((r : Region) → In r new → 0 < length r.bytes) → map shape_of new ≡ map shape_of old → ((r : Region) → In r old → In r new) → new ≡ old
same_regions [] [] apart long e f = refl
same_regions [] (s ∷ old) apart long e f = absurd cc
same_regions (r ∷ new) [] apart long e f = absurd cc
same_regions (r ∷ new) (s ∷ old) apart long e f =
    ap (λ x. x ∷ new) head ∙ ap (λ xs. s ∷ xs) (same_regions new old (and_right (list_all (ends_before r) new) (each_pair ends_before new) apart) (λ x i. long x (inr i)) shapes (λ x i. later x i (f x (inr i))))
  where
    shape : shape_of r ≡ shape_of s
    shape = cc e

    shapes : map shape_of new ≡ map shape_of old
    shapes = cc e

    -- no later region starts where r does
    alone : (x : Region) → In x new → x.start ≡ r.start → ⊥
    alone x i k =
        let l : r.start + length r.bytes ≤ x.start = leb-true (r.start + length r.bytes) x.start (all-In (ends_before r) new (and_left (list_all (ends_before r) new) (each_pair ends_before new) apart) x i) in
        omega (arith, l, k, long r (inl refl))

    head : r ≡ s
    head = pick (f s (inl refl))
      where
        pick : (s ≡ r) ⊎ In s new → r ≡ s
        pick (inl k) = sym k
        pick (inr i) = absurd (alone s i (ap (λ (x : Shape). x.start) (sym shape)))

    later : (x : Region) → In x old → (x ≡ r) ⊎ In x new → In x new
    later x i (inr k) = k
    later x i (inl k) =
        let m = In-map shape_of new (shape_of x) (subst (λ (ss : List Shape). In (shape_of x) ss) (sym shapes) (map-In shape_of old x i)) in
        absurd (alone m.0 m.1 (ap (λ (y : Shape). y.start) (sym m.2) ∙ ap (λ (y : Region). y.start) k))

pub undo_ended : (old new : List Region) → each_pair ends_before new ≡ true → All (λ r. 0 < length r.bytes) new → KeepsShapes old new → All (λ r. In r new) old → new ≡ old
undo_ended old new apart long shapes f =
    same_regions new old apart (All-In (λ (r : Region). 0 < length r.bytes) new long) shapes (All-In (λ (r : Region). In r new) old f)
