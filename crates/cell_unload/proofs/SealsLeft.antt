-- Without the regions of the cells that go, the seals are those of the fields of the cells that stay.
use Rattle.std.proofs.Common.{◌≡◌, refl, sym, ◌∙◌, ap, subst, arith, ℕ, zero, suc, ◌+◌, ◌*◌, ◌≤◌, ◌<◌, ◌⊎◌, inl, inr, Bool, true, false, not, true≢false, ◌&&◌, List, [], length, map, get_or}
use Rattle.std.specs.Prelude.{Some, filter, nat_le, nat_lt}
use Rattle.std.specs.List.{list_any}
use Rattle.std.proofs.lemmas.Bool.{and_from, and_parts, leb-true, ltb-true}
use Rattle.std.proofs.lemmas.List.{ext_get_or, length-map}
use Rattle.cell_lemmas.proofs.Placement.Distinct.{one_class}
use Rattle.cell_num.specs.Lists.{In, from_on, holds, upto}
use Rattle.cell_num.proofs.Elements.{In-filtered, In-flat_map, In-map, In-none, any-Has, any-In, filter-In, filter-Passes, flat_map-In, none-In, pairs-In}
use Rattle.cell_lemmas.proofs.Fields.FieldsInside.{among-In, field_region}
use Rattle.cell_lemmas.proofs.Placement.Places.{length-from}
use Rattle.cell_commit.specs.Seals.{is_in_span, seal_table}
use Rattle.cell_machine.specs.Machine.{field_bytes, own_field_bytes}
use Rattle.cell_space.specs.Joined.{placed_of}
use Rattle.cell_mem.specs.State.{MemoryState}
use Rattle.cell_mem.proofs.Laid.{covers_from, covers_high, covers_low}
use Rattle.cell_num.specs.Kinds.{width_of}
use Rattle.cell_object.specs.declared.object.Entry.{Entry}
use Rattle.cell_lemmas.proofs.Holding.KeptPaths.{In-holds, holds-In}
use Rattle.cell_lemmas.proofs.Naming.Lookups.{unnot}
use Rattle.cell_lemmas.proofs.Placement.ShapesLeft.{start_lost}
use Rattle.cell_world.specs.Coherent.{IsCoherent, ends_before}
use Rattle.cell_world.specs.Linked.Field.{fields_of, place_of}
use Rattle.cell_world.specs.Running.Memory.{covers}
use Rattle.cell_world.specs.Linked.Relink.{class_start}
use Rattle.cell_world.specs.declared.layout.Class.{Class}
use Rattle.cell_world.specs.World.{Cell, Region, World, attached}
use Rattle.cell_world.specs.declared.state.NewCell.{NewCell}
use Rattle.cell_unload.specs.Unmapped.{CanLeave, lost_starts, without_regions}
use Rattle.cell_unload.proofs.Leaving.{Loser, loser_of}
use Rattle.cell_unload.proofs.Unmapping.{IsWell, seal_gone, seal_left, well_left, same_pages}

at_from : (test : ℕ → Bool) (n a k : ℕ) → k < n → get_or (map test (from_on a n)) k false ≡ test (a + k)
at_from test zero a k l = absurd (omega (arith, l))
at_from test (suc n) a zero l = ap test (omega arith)
at_from test (suc n) a (suc k) l = at_from test n (suc a) k (omega (arith, l)) ∙ ap test (omega arith)

pub table_long : (base size : ℕ) (spans : List (ℕ × ℕ)) → length (seal_table base size spans) ≡ size
table_long base size spans = length-map (upto size) (λ i. list_any (is_in_span (base + i)) spans) ∙ length-from size 0

table_at : (base size : ℕ) (spans : List (ℕ × ℕ)) (k : ℕ) → k < size → get_or (seal_table base size spans) k false ≡ list_any (is_in_span (base + k)) spans
table_at base size spans k l = at_from (λ i. list_any (is_in_span (base + i)) spans) size 0 k l ∙ ap (λ i. list_any (is_in_span (base + i)) spans) (omega arith)

module _ (w : World) (h : IsCoherent w) (numbers : List ℕ) (cells : List NewCell) (same : map placed_of w.cells ≡ cells) where
  abbrev stays : NewCell → Bool
  stays c = not (holds numbers c.id.0)

  abbrev pub staying : List NewCell
  staying = filter stays cells

  present : (c : NewCell) → In c cells → (d : Cell) × In d w.cells × (c ≡ d.placed)
  present c i = In-map placed_of w.cells c (subst (λ (cs : List NewCell). In c cs) (sym same) i)

  -- the region that has a field, and whose it is
  record Home (c : NewCell) (addr : ℕ) : Type 0 where
    region : Region
    there : In region w.regions
    covered : covers region addr ≡ true
    class : Class
    starts : class_start (attached c) class ≡ Some region.start

  home_at : (d : Cell) → In d w.cells → (s : ℕ × ℕ) → In s (own_field_bytes d.placed) → (addr : ℕ) → is_in_span addr s ≡ true → Home d.placed addr
  home_at d i s j addr is =
      let f : (f : Entry) × In f (fields_of d.object) × (s ≡ (place_of d.placed f, width_of f.kind)) = In-map (λ f. (place_of d.placed f, width_of f.kind)) (fields_of d.object) s j in
      let q = field_region w h.ready.regions h.ready.apart h.ready.placed h.ready.objects d i f.0 (among-In d.object.entries [] f.0 f.1) in
      let ends = and_parts (nat_le s.0 addr) (nat_lt addr (s.0 + s.1)) is in
      let low : place_of d.placed f.0 ≤ addr = subst (λ (p : ℕ × ℕ). p.0 ≤ addr) f.2 (leb-true s.0 addr ends.0) in
      let high : addr < place_of d.placed f.0 + width_of f.0.kind = subst (λ (p : ℕ × ℕ). addr < p.0 + p.1) f.2 (ltb-true addr (s.0 + s.1) ends.1) in
      record { region = q.0; there = q.1; covered = covers_from q.0 addr (omega (arith, q.2, low)) (omega (arith, q.3, high)); class = q.4.0; starts = q.4.1 }

  home_of : (c : NewCell) → In c cells → (s : ℕ × ℕ) → In s (own_field_bytes c) → (addr : ℕ) → is_in_span addr s ≡ true → Home c addr
  home_of c i s j addr is =
      let d = present c i in
      subst (λ (x : NewCell). Home x addr) (sym d.2) (home_at d.0 d.1 s (subst (λ (x : NewCell). In s (own_field_bytes x)) d.2 j) addr is)

  one_region : (addr : ℕ) (r q : Region) → In r w.regions → In q w.regions → covers r addr ≡ true → covers q addr ≡ true → r ≡ q
  one_region addr r q i j c d = go (pairs-In ends_before w.regions h.ready.apart r q i j)
    where
      go : (r ≡ q) ⊎ ((ends_before r q ≡ true) ⊎ (ends_before q r ≡ true)) → r ≡ q
      go (inl e) = e
      go (inr (inl e)) = absurd (omega (arith, leb-true (r.start + length r.bytes) q.start e, covers_high r addr c, covers_low q addr d))
      go (inr (inr e)) = absurd (omega (arith, leb-true (q.start + length q.bytes) r.start e, covers_high q addr d, covers_low r addr c))

  -- no cell that stays has a field in a region that goes
  stays_out : (addr : ℕ) (r : Region) → In r w.regions → In r.start (lost_starts w.cells numbers) → covers r addr ≡ true → (s : ℕ × ℕ) → In s (field_bytes staying) → is_in_span addr s ≡ true → ⊥
  stays_out addr r i l c s j is =
      let d : (d : NewCell) × In d staying × In s (own_field_bytes d) = In-flat_map own_field_bytes staying s j in
      let there : In d.0 cells = In-filtered stays cells d.0 d.1 in
      let m : Home d.0 addr = home_of d.0 there s d.2 addr is in
      let one : m.region ≡ r = one_region addr m.region r m.there i m.covered c in
      let o : Loser w h numbers r.start = loser_of w h numbers r.start l in
      let p : (p : Cell) × In p w.cells × (d.0 ≡ p.placed) = present d.0 there in
      let at : class_start p.0 m.class ≡ Some r.start = ap (λ (x : NewCell). class_start (attached x) m.class) (sym p.2) ∙ (m.starts ∙ ap (λ (x : Region). Some x.start) one) in
      let e = one_class w h.ready.regions h.ready.in_space h.ready.apart p.0 o.cell p.1 o.present m.class o.class r.start at o.at in
      true≢false
      (sym o.listed
      ∙ (ap (λ (x : Cell). holds numbers x.id.0) (sym e.0) ∙ (ap (λ (x : NewCell). holds numbers x.id.0) (sym p.2) ∙ unnot (holds numbers d.0.id.0) (filter-Passes stays cells d.0 d.1))))

  gone_at : (addr : ℕ) (r : Region) → In r w.regions → In r.start (lost_starts w.cells numbers) → covers r addr ≡ true → list_any (is_in_span addr) (field_bytes staying) ≡ false
  gone_at addr r i l c = In-none (is_in_span addr) (field_bytes staying) (λ s j. go s j (is_in_span addr s) refl)
    where
      go : (s : ℕ × ℕ) → In s (field_bytes staying) → (b : Bool) → is_in_span addr s ≡ b → is_in_span addr s ≡ false
      go s j true e = absurd (stays_out addr r i l c s j e)
      go s j false e = e

  -- where no region that goes is, the cells that stay have the fields
  left_at : (addr : ℕ) → ((r : Region) → In r w.regions → In r.start (lost_starts w.cells numbers) → covers r addr ≡ true → ⊥) → list_any (is_in_span addr) (field_bytes cells) ≡ list_any (is_in_span addr) (field_bytes staying)
  left_at addr out = go (list_any (is_in_span addr) (field_bytes cells)) refl
    where
      kept : (c : NewCell) → In c cells → (s : ℕ × ℕ) → In s (own_field_bytes c) → is_in_span addr s ≡ true → stays c ≡ true
      kept c i s j is = pick (holds numbers c.id.0) refl
        where
          pick : (b : Bool) → holds numbers c.id.0 ≡ b → not b ≡ true
          pick false e = refl
          pick true e =
              let m : Home c addr = home_of c i s j addr is in
              let p = present c i in
              absurd (out m.region m.there
              (holds-In (lost_starts w.cells numbers) m.region.start
              (start_lost w h numbers p.0 p.1 (ap (λ (x : NewCell). holds numbers x.id.0) (sym p.2) ∙ e) m.class m.region.start (ap (λ (x : NewCell). class_start (attached x) m.class) (sym p.2) ∙ m.starts))) m.covered)

      go : (b : Bool) → list_any (is_in_span addr) (field_bytes cells) ≡ b → b ≡ list_any (is_in_span addr) (field_bytes staying)
      go true e =
          let s : (s : ℕ × ℕ) × In s (field_bytes cells) × (is_in_span addr s ≡ true) = any-Has (is_in_span addr) (field_bytes cells) e in
          let c : (c : NewCell) × In c cells × In s.0 (own_field_bytes c) = In-flat_map own_field_bytes cells s.0 s.1 in
          sym (any-In (is_in_span addr) (field_bytes staying) s.0 (flat_map-In own_field_bytes staying c.0 s.0 (filter-In stays cells c.0 c.1 (kept c.0 c.1 s.0 c.2 s.2)) c.2) s.2)
      go false e = sym (In-none (is_in_span addr) (field_bytes staying) (λ s j. none-In (is_in_span addr) (field_bytes cells) e s (back s (In-flat_map own_field_bytes staying s j))))
        where
          back : (s : ℕ × ℕ) → (c : NewCell) × In c staying × In s (own_field_bytes c) → In s (field_bytes cells)
          back s c = flat_map-In own_field_bytes cells c.0 s (In-filtered stays cells c.0 c.1) c.2

  module _ (m : MemoryState) (well : IsWell m) (regions : w.regions ≡ m.regions) (sealed : m.sealed ≡ seal_table m.base (4096 * m.pages) (field_bytes cells)) (can : CanLeave m (lost_starts w.cells numbers)) where
    abbrev starts : List ℕ
    starts = lost_starts w.cells numbers

    abbrev after : MemoryState
    after = without_regions m starts

    abbrev size : ℕ
    size = 4096 * m.pages

    region_in : (r : Region) → In r m.regions → In r w.regions
    region_in r i = subst (λ (rs : List Region). In r rs) (sym regions) i

    abbrev goes_with : ℕ → Region → Bool
    goes_with addr r = holds starts r.start && covers r addr

    seal_at : (k : ℕ) → k < size → get_or after.sealed k false ≡ get_or (seal_table m.base size (field_bytes staying)) k false
    seal_at k l = go (list_any (goes_with (m.base + k)) m.regions) refl ∙ sym (table_at m.base size (field_bytes staying) k l)
      where
        go : (b : Bool) → list_any (goes_with (m.base + k)) m.regions ≡ b → get_or after.sealed k false ≡ list_any (is_in_span (m.base + k)) (field_bytes staying)
        go true e =
            let r : (r : Region) × In r m.regions × (goes_with (m.base + k) r ≡ true) = any-Has (goes_with (m.base + k)) m.regions e in
            let p : (holds starts r.0.start ≡ true) × (covers r.0 (m.base + k) ≡ true) = and_parts (holds starts r.0.start) (covers r.0 (m.base + k)) r.2 in
            let i : In r.0.start starts = holds-In starts r.0.start p.0 in
            seal_gone starts m well can k r.0 r.1 i p.1 ∙ sym (gone_at (m.base + k) r.0 (region_in r.0 r.1) i p.1)
        go false e =
            seal_left starts m well can k (λ r i j c. out r i j c)
            ∙ (ap (λ (bs : List Bool). get_or bs k false) sealed
            ∙ (table_at m.base size (field_bytes cells) k l
            ∙ left_at (m.base + k) (λ r i j c. out r (subst (λ (rs : List Region). In r rs) regions i) j c)))
          where
            out : (r : Region) → In r m.regions → In r.start starts → covers r (m.base + k) ≡ true → ⊥
            out r i j c =
                true≢false (sym (and_from (holds starts r.start) (covers r (m.base + k)) (In-holds starts r.start j) c) ∙ none-In (goes_with (m.base + k)) m.regions e r i)

    long_after : length after.sealed ≡ size
    long_after =
        let v : IsWell after = well_left starts m well can in
        v.long ∙ ap (λ (n : ℕ). 4096 * n) (same_pages starts m)

    pub seals_after : after.sealed ≡ seal_table m.base size (field_bytes staying)
    seals_after = ext_get_or false after.sealed (seal_table m.base size (field_bytes staying)) (long_after ∙ sym (table_long m.base size (field_bytes staying)))
        (λ k l. seal_at k (subst (λ (n : ℕ). k < n) long_after l))
