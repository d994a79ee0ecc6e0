-- A turn of a live task changes no cell, no region that isn't writable, and no field of a present cell.
use Rattle.std.proofs.Common.{◌≡◌, refl, sym, ◌∙◌, ap, subst, ℕ, ◌+◌, ◌-◌, Bool, true, false, not, List, [], length, map, true≢false, Option, Some}
use Rattle.std.specs.Prelude.{All, nat_le, ◌==◌, slice_range, option_and_then}
use Rattle.std.proofs.lemmas.Bool.{eqb-true}
use Rattle.cell_num.specs.Kinds.{width_of}
use Rattle.cell_num.specs.Lists.{where_true, In}
use Rattle.cell_object.specs.declared.object.Entry.{Entry}
use Rattle.cell_world.specs.World.{World, Cell, Region, Permission, Task}
use Rattle.cell_world.specs.Running.Memory.{covers, end_of, written, read}
use Rattle.cell_world.specs.Linked.Field.{fields_of, place_of}
use Rattle.cell_world.specs.Coherent.{IsCoherent}
use Rattle.cell_world.specs.Running.Execute.{allows, seen_in}
use Rattle.cell_world.specs.Running.Turn.{without_task}
use Rattle.cell_lemmas.specs.Present.{IsInside}
use Rattle.cell_num.proofs.Elements.{All-In, found-In, filter-In, In-filtered}
use Rattle.cell_lemmas.proofs.Fields.FieldsInside.{among-In}
use Rattle.cell_lemmas.proofs.Placement.Inside.{fields_lie, ready_linkable}
use Rattle.cell_lemmas.proofs.Placement.Bare.{covers_once, region_once}
use Rattle.cell_lemmas.proofs.Tasks.Stacks.{stack_region}
use Rattle.cell_lemmas.proofs.Tasks.Stored.{field_apart}
use Rattle.cell_lemmas.proofs.Tasks.Stores.{keeps_bytes, keeps_read_only}
use Rattle.cell_lemmas.proofs.Tasks.Killed.{kill_coherent}

-- the two worlds agree as the law says, point by point
pub record Kept (v w : World) : Type 0 where
  pub same : record w { regions = v.regions; tasks = v.tasks } ≡ v
  pub read_only : (r : Region) → In r v.regions → r.permission.write ≡ false → In r w.regions
  pub fields : (c : Cell) → In c v.cells → (f : Entry) → In f (fields_of c.object) → read w (place_of c.placed f) (width_of f.kind) ≡ read v (place_of c.placed f) (width_of f.kind)

pub kept_tasks : (v w : World) → Kept v w → (tasks : List Task) → Kept v (record w { tasks = tasks })
kept_tasks v w k tasks = record { same = k.same; read_only = k.read_only; fields = k.fields }

pub kept_same : (w : World) → Kept w w
kept_same w = record { same = refl; read_only = λ r i n. i; fields = λ c i f m. refl }

pub kept_then : (u v w : World) → Kept u v → Kept v w → Kept u w
kept_then u v w a b = record {
  same = ap (λ (x : World). record x { regions = u.regions; tasks = u.tasks }) b.same ∙ a.same;
  read_only = λ r i n. b.read_only r (a.read_only r i n) n;
  fields = λ c i f m. b.fields c (subst (λ (x : World). In c x.cells) (sym a.same) i) f m ∙ a.fields c i f m;
}

-- a field of a present cell is in one region
field_in : (w : World) → IsCoherent w → (c : Cell) → In c w.cells → (f : Entry) → In f (fields_of c.object) → IsInside w (place_of c.placed f) (width_of f.kind)
field_in w h c k f m =
    All-In (λ (e : Entry). IsInside w (place_of c.placed e) (width_of e.kind)) c.object.entries
    (All-In (λ (c : Cell). All (λ (e : Entry). IsInside w (place_of c.placed e) (width_of e.kind)) c.object.entries) w.cells (fields_lie w (ready_linkable w h.ready)) c k) f (among-In c.object.entries [] f m)

-- the n bytes from the address on, of the region that covers it
abbrev part : ℕ → ℕ → Region → Option (List ℕ)
part addr n r = where_true (nat_le (addr + n) (end_of r)) (slice_range r.bytes (addr - r.start) (addr - r.start + n))

-- a task that ends takes its stack with it, and nothing else
module _ (w : World) (h : IsCoherent w) (t : Task) (live : In t w.tasks) where
  stack_writable : (r : Region) → In r w.regions → r.start ≡ t.stack → r.permission.write ≡ true
  stack_writable r i e =
      let s = stack_region w h t live in
      subst (λ (x : Region). x.permission.write ≡ true) (region_once w h s.0 r s.1 i (s.2 ∙ sym e)) (ap (λ (p : Permission). p.write) s.3)

  stays : (r : Region) → In r w.regions → r.permission.write ≡ false → In r (without_task w t).regions
  stays r i n = filter-In (λ (x : Region). not (x.start == t.stack)) w.regions r i (go (r.start == t.stack) refl)
    where
      go : (b : Bool) → (r.start == t.stack) ≡ b → not b ≡ true
      go true e = absurd (true≢false (sym (stack_writable r i (eqb-true r.start t.stack e)) ∙ n))
      go false e = refl

  read_stays : (c : Cell) → In c w.cells → (f : Entry) → In f (fields_of c.object) → read (without_task w t) (place_of c.placed f) (width_of f.kind) ≡ read w (place_of c.placed f) (width_of f.kind)
  read_stays c k f m =
      let a = field_in w h c k f m in
      let b = field_in (without_task w t) (kill_coherent w h t live) c k f m in
      let x = found-In (λ r. covers r (place_of c.placed f)) w.regions a.region a.at in
      let y = found-In (λ r. covers r (place_of c.placed f)) (without_task w t).regions b.region b.at in
      let e : b.region ≡ a.region = covers_once w h b.region a.region (place_of c.placed f) (In-filtered (λ (r : Region). not (r.start == t.stack)) w.regions b.region y.0) x.0 y.1 x.1 in
      ap (λ (o : Option Region). option_and_then (part (place_of c.placed f) (width_of f.kind)) o) (b.at ∙ (ap (λ (r : Region). Some r) e ∙ sym a.at))

  pub kept_killed : Kept w (without_task w t)
  kept_killed = record { same = refl; read_only = stays; fields = read_stays }

-- a store changes neither a region that isn't writable nor a field
module _ (w : World) (h : IsCoherent w) (addr : ℕ) (new : List ℕ) (free : (seen_in w).is_sealed addr (length new) ≡ false) (may : allows w.regions (λ p. p.write) addr (length new) ≡ true) where
  abbrev after : World
  after = record w { regions = map (λ r. written r addr new) w.regions }

  pub kept_stored : Kept w after
  kept_stored = record {
    same = refl;
    read_only = keeps_read_only w.regions h.ready.apart addr new may;
    fields = λ c k f m. keeps_bytes w.regions h.ready.apart addr new may (place_of c.placed f) (width_of f.kind) (field_apart w h addr new free c k f m);
  }
