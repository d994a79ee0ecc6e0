-- In a machine that is ready, each section and each field of a present cell is in one region.
use Rattle.std.proofs.Common.{◌≡◌, sym, subst, arith, ℕ, ◌+◌, ◌*◌, ◌≤◌, ◌<◌, ◌⊎◌, inl, inr, true, length}
use Rattle.std.specs.Prelude.{All, nat_lt, nat_le}
use Rattle.std.proofs.lemmas.Bool.{and_parts, and_from, leb-true, ltb-true, le-leb, lt-ltb}
use Rattle.cell_num.specs.Kinds.{width_of}
use Rattle.cell_num.specs.Lists.{each_pair, In}
use Rattle.cell_object.specs.declared.object.Section.{Section as ObjectSection}
use Rattle.cell_object.specs.declared.object.Entry.{Entry}
use Rattle.cell_num.specs.declared.kinds.RelKind.{RelKind}
use Rattle.cell_world.specs.World.{World, Cell, Region}
use Rattle.cell_world.specs.Linked.Target.{start_of}
use Rattle.cell_world.specs.Running.Memory.{covers}
use Rattle.cell_world.specs.Linked.Field.{place_of}
use Rattle.cell_world.specs.Coherent.{IsReady, ends_before}
use Rattle.cell_lemmas.specs.Linkable.{IsLinkable}
use Rattle.cell_lemmas.specs.Present.{IsInside}
use Rattle.cell_num.proofs.Elements.{In-All, found-In, pairs-In, find_there}
use Rattle.cell_lemmas.proofs.Placement.InSpace.{places_in_space}
use Rattle.cell_lemmas.proofs.Fields.FieldsInside.{section_inside, field_inside}

-- the region that has the bytes is the one that is found by the address
inside_of : (w : World) → each_pair ends_before w.regions ≡ true → (q : Region) → In q w.regions → (addr n : ℕ) → 0 < n → q.start ≤ addr → addr + n ≤ q.start + length q.bytes → IsInside w addr n
inside_of w r q k addr n l a b =
    let c : covers q addr ≡ true = and_from (nat_le q.start addr) (nat_lt addr (q.start + length q.bytes)) (le-leb q.start addr a) (lt-ltb addr (q.start + length q.bytes) (omega (arith, l, b))) in
    let f = find_there (λ r. covers r addr) w.regions q k c in
    let g = found-In (λ r. covers r addr) w.regions f.0 f.1 in
    let d = and_parts (nat_le f.0.start addr) (nat_lt addr (f.0.start + length f.0.bytes)) g.1 in
    record { region = f.0; at = f.1; ends = go f.0 (leb-true f.0.start addr d.0) (ltb-true addr (f.0.start + length f.0.bytes) d.1) (pairs-In ends_before w.regions r f.0 q g.0 k) }
  where
    go : (p : Region) → p.start ≤ addr → addr < p.start + length p.bytes → (p ≡ q) ⊎ ((ends_before p q ≡ true) ⊎ (ends_before q p ≡ true)) → addr + n ≤ p.start + length p.bytes
    go p x y (inl e) = subst (λ (v : Region). addr + n ≤ v.start + length v.bytes) (sym e) b
    go p x y (inr (inl e)) = absurd (omega (arith, leb-true (p.start + length p.bytes) q.start e, y, a))
    go p x y (inr (inr e)) = absurd (omega (arith, leb-true (q.start + length q.bytes) p.start e, x, l, b))

pub wide : (kind : RelKind) → 0 < width_of kind
wide kind = grind (arith)

pub fields_lie : (w : World) → IsLinkable w → All (λ c. All (λ e. IsInside w (place_of c.placed e) (width_of e.kind)) c.object.entries) w.cells
fields_lie w r = In-All (λ (c : Cell). All (λ (e : Entry). IsInside w (place_of c.placed e) (width_of e.kind)) c.object.entries) w.cells
    (λ c k. In-All (λ (e : Entry). IsInside w (place_of c.placed e) (width_of e.kind)) c.object.entries (λ e i. one c k e i))
  where
    one : (c : Cell) → In c w.cells → (e : Entry) → In e c.object.entries → IsInside w (place_of c.placed e) (width_of e.kind)
    one c k e i = let q = field_inside w r.regions r.apart r.placed r.objects c k e i in inside_of w r.apart q.0 q.1 (place_of c.placed e) (width_of e.kind) (wide e.kind) q.2 q.3

pub sections_lie : (w : World) → IsLinkable w → All (λ c. All (λ s. 0 < s.size → IsInside w (start_of c.placed s.number) s.size) c.object.sections) w.cells
sections_lie w r = In-All (λ (c : Cell). All (λ (s : ObjectSection). 0 < s.size → IsInside w (start_of c.placed s.number) s.size) c.object.sections) w.cells
    (λ c k. In-All (λ (s : ObjectSection). 0 < s.size → IsInside w (start_of c.placed s.number) s.size) c.object.sections (λ s i l. one c k s i l))
  where
    one : (c : Cell) → In c w.cells → (s : ObjectSection) → In s c.object.sections → 0 < s.size → IsInside w (start_of c.placed s.number) s.size
    one c k s i l = let q = section_inside w r.regions r.apart r.placed r.objects c k s i in inside_of w r.apart q.0 q.1 (start_of c.placed s.number) s.size l q.2 q.3

pub places_lie : (w : World) → IsLinkable w → All (λ c. All (λ p. (w.base ≤ p.start) × (p.start ≤ w.base + 4096 * w.pages)) c.places) w.cells
places_lie w r = places_in_space w r.regions r.in_space r.apart r.placed r.objects

-- a ready machine can be linked
pub ready_linkable : (w : World) → IsReady w → IsLinkable w
ready_linkable w r = record { alone = r.alone; memory = r.memory; cells = r.cells; supplied = r.supplied }
