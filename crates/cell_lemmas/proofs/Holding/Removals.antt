-- What an accepted `purge` and an accepted `unload` leave.
use Rattle.std.proofs.Common.{◌≡◌, refl, sym, ◌∙◌, ap, subst, ℕ, suc, Bool, true, false, List, [], map, true≢false, ◌↔◌, Some, None, Ok}
use Rattle.std.specs.Prelude.{All, Option, IsTrue, filter, nat_lt, not, option_and_then}
use Rattle.cell_num.specs.Kinds.{width_of}
use Rattle.cell_num.specs.Lists.{holds, each_pair, In}
use Rattle.cell_object.specs.declared.object.Entry.{Entry}
use Rattle.cell_world.specs.declared.command.CellName.{CellName}
use Rattle.cell_world.specs.declared.refusal.Refusal.{Refusal}
use Rattle.cell_world.specs.declared.reply.Reply.TheVariants.{Unload as UnloadDone}
use Rattle.cell_world.specs.World.{World, Cell, Region, Task, cell_of}
use Rattle.cell_world.specs.Answer.{Done, done, ids, numbers_of}
use Rattle.cell_world.specs.Linked.Field.{fields_of, place_of}
use Rattle.cell_world.specs.Kept.{IsKept, holding_of}
use Rattle.cell_world.specs.Running.Memory.{covers, part_of, read}
use Rattle.cell_world.specs.Outcome.{Outcome, ◌>>=◌, ◌>>◌, refused_by}
use Rattle.cell_world.specs.Linked.Target.{target_of}
use Rattle.cell_world.specs.Commands.UnloadCommand.{without_cells, garbage_of, purged, put_aside, named_cells, first_held, next_unload, next_purge}
use Rattle.cell_world.specs.Coherent.{IsCoherent}
use Rattle.cell_lemmas.specs.Present.{IsInside}
use Rattle.cell_lemmas.proofs.Naming.Appended.{ok_same}
use Rattle.cell_num.proofs.Elements.{All-In, In-All, found-In, filter-In, In-filtered, filter-Passes, map-In, map_same, some_has}
use Rattle.cell_lemmas.proofs.Fields.FieldsInside.{among-In}
use Rattle.cell_lemmas.proofs.Placement.Inside.{fields_lie, ready_linkable}
use Rattle.cell_lemmas.proofs.Outcomes.{bind_ok, then_ok, refused_ok}
use Rattle.cell_lemmas.proofs.Placement.Bare.{covers_once}
use Rattle.cell_lemmas.proofs.Tasks.Changed.{live_parts}
use Rattle.cell_lemmas.specs.Left.{with_aside, IsFree, LeavesTargets, LeavesFields}
use Rattle.cell_lemmas.proofs.Naming.Lookups.{unnot}
use Rattle.cell_lemmas.proofs.Targeting.TargetsLeft.{Closed, target_stays}
use Rattle.cell_lemmas.proofs.Holding.Holders.{first_held_exact}
use Rattle.cell_lemmas.proofs.Placement.Freed.{joins_cells, garbage_closed, garbage_free, present_holds, root_stays, stays_kept}
use Rattle.cell_lemmas.proofs.Holding.RemoveCoherent.{remove_coherent}
use Rattle.cell_lemmas.proofs.Naming.PutAside.{put_number, order_aside, closed_aside, roots_aside, named_detached, aside_left}

-- w is v without cells that can go
pub record Removed (v w : World) : Type 0 where
  pub numbers : List ℕ
  pub closed : Closed v numbers
  pub roots : (t : Task) → In t v.tasks → holds numbers t.root ≡ false
  pub is : without_cells v numbers ≡ w

pub removed_coherent : (v w : World) → IsCoherent v → Removed v w → IsCoherent w
removed_coherent v w h r = subst IsCoherent r.is (remove_coherent v h r.numbers r.closed r.roots)

-- a field of a present cell is in one region
field_in : (w : World) → IsCoherent w → (c : Cell) → In c w.cells → (f : Entry) → In f (fields_of c.object) → IsInside w (place_of c.placed f) (width_of f.kind)
field_in w h c i f m =
    All-In (λ (e : Entry). IsInside w (place_of c.placed e) (width_of e.kind)) c.object.entries
    (All-In (λ (c : Cell). All (λ (e : Entry). IsInside w (place_of c.placed e) (width_of e.kind)) c.object.entries) w.cells (fields_lie w (ready_linkable w h.ready)) c i) f (among-In c.object.entries [] f m)

-- what is read in a region of both worlds is the same
pub read_left : (w : World) → IsCoherent w → (stay : Region → Bool) (v : World) → v.regions ≡ filter stay w.regions → (addr n : ℕ) → IsInside w addr n → IsInside v addr n → read v addr n ≡ read w addr n
read_left w h stay v e addr n a b =
    let x = found-In (λ r. covers r addr) w.regions a.region a.at in
    let y = found-In (λ r. covers r addr) v.regions b.region b.at in
    let same : b.region ≡ a.region = covers_once w h b.region a.region addr (In-filtered stay w.regions b.region (subst (λ (rs : List Region). In b.region rs) e y.0)) x.0 y.1 x.1 in
    ap (λ (o : Option Region). option_and_then (λ r. part_of r addr n) o) (b.at ∙ (ap (λ (r : Region). Some r) same ∙ sym a.at))

module _ (v w : World) (h : IsCoherent v) (r : Removed v w) where
  abbrev left : World
  left = without_cells v r.numbers

  abbrev stay : Cell → Bool
  stay c = not (holds r.numbers c.id.0)

  pub removed_targets : LeavesTargets v w
  removed_targets = subst (LeavesTargets v) r.is (In-All (λ (c : Cell). map (target_of left c) c.object.entries ≡ map (target_of v c) c.object.entries) left.cells
      (λ c i. map_same (target_of left c) (target_of v c) c.object.entries
      (λ e j. target_stays v h r.numbers r.closed c (In-filtered stay v.cells c i) (unnot (holds r.numbers c.id.0) (filter-Passes stay v.cells c i)) e j)))

  pub removed_fields : LeavesFields v w
  removed_fields = subst (LeavesFields v) r.is (In-All (λ (c : Cell). All (λ (f : Entry). read left (place_of c.placed f) (width_of f.kind) ≡ read v (place_of c.placed f) (width_of f.kind)) (fields_of c.object)) left.cells
      (λ c i. In-All (λ (f : Entry). read left (place_of c.placed f) (width_of f.kind) ≡ read v (place_of c.placed f) (width_of f.kind)) (fields_of c.object)
      (λ f m. read_left v h _ left refl (place_of c.placed f) (width_of f.kind) (field_in v h c (In-filtered stay v.cells c i) f m)
      (field_in left (remove_coherent v h r.numbers r.closed r.roots) c i f m))))

-- purge

pub purge_removed : (w : World) (d : Done) → IsCoherent w → next_purge w ≡ Ok d → Removed w d.world
purge_removed w d h e = record {
  numbers = garbage_of w;
  closed = garbage_closed w (joins_cells w h);
  roots = λ t i. let c = some_has (cell_of w t.root) (live_parts w h t i).root in root_stays w t i (present_holds w t.root c.0 c.1);
  is = ap (λ (x : Done). x.world) (ok_same _ d e);
}

-- a present cell is garbage exactly where it is free
pub garbage_exact : (v : World) → each_pair (λ (a b : Cell). nat_lt a.id.0 b.id.0) v.cells ≡ true → (c : Cell) → In c v.cells → IsTrue (holds (garbage_of v) c.id.0) ↔ IsFree v c
garbage_exact v rises c i = (λ g. garbage_free v rises c i g, λ f. go f (holds (garbage_of v) c.id.0) refl)
  where
    go : IsFree v c → (b : Bool) → holds (garbage_of v) c.id.0 ≡ b → b ≡ true
    go f true g = refl
    go f false g = absurd (f.1 (stays_kept v c i g))

pub garbage_all : (w : World) → IsCoherent w → All (λ c. IsTrue (holds (garbage_of w) c.id.0) ↔ IsFree w c) w.cells
garbage_all w h = In-All (λ (c : Cell). IsTrue (holds (garbage_of w) c.id.0) ↔ IsFree w c) w.cells (garbage_exact w h.ready.cell_order)

-- the cells that aren't of the numbers, where those of the numbers are the free ones
left_cells : (w : World) (numbers : List ℕ) (Free : Cell → Type 0) → ((c : Cell) → In c w.cells → IsTrue (holds numbers c.id.0) ↔ Free c) → (c : Cell) → In c (without_cells w numbers).cells ↔ (In c w.cells × (Free c → ⊥))
left_cells w numbers Free exact c = (
  λ i. let here = In-filtered (λ (x : Cell). not (holds numbers x.id.0)) w.cells c i in
      (here, λ f. true≢false (sym ((exact c here).1 f) ∙ unnot (holds numbers c.id.0) (filter-Passes (λ (x : Cell). not (holds numbers x.id.0)) w.cells c i))),
  λ p. filter-In (λ (x : Cell). not (holds numbers x.id.0)) w.cells c p.0 (go p.0 p.1 (holds numbers c.id.0) refl),
)
  where
    go : In c w.cells → (Free c → ⊥) → (b : Bool) → holds numbers c.id.0 ≡ b → not b ≡ true
    go i n true e = absurd (n ((exact c i).0 e))
    go i n false e = refl

pub purge_leaves : (w : World) (d : Done) → IsCoherent w → next_purge w ≡ Ok d → (c : Cell) → In c d.world.cells ↔ (In c w.cells × (IsFree w c → ⊥))
purge_leaves w d h e c = subst (λ (v : World). In c v.cells ↔ (In c w.cells × (IsFree w c → ⊥))) (ap (λ (x : Done). x.world) (ok_same _ d e))
    (left_cells w (garbage_of w) (IsFree w) (garbage_exact w h.ready.cell_order) c)

-- unload

-- what an accepted unload of these cells comes to
pub record Unloaded (w : World) (cells : List Cell) (d : Done) : Type 0 where
  pub none : first_held (holding_of (with_aside w cells)) (numbers_of cells) ≡ None
  pub is : purged (with_aside w cells) ≡ d.world

pub unloaded : (w : World) (names : List CellName) (d : Done) → next_unload w names ≡ Ok d → (cells : List Cell) × (named_cells w names ≡ Ok cells) × Unloaded w cells d
unloaded w names d e =
    let a = bind_ok (named_cells w names) _ d e in
    let b = then_ok (refused_by (first_held (holding_of (with_aside w a.0)) (numbers_of a.0))) _ d a.2 in
    (a.0, a.1, record { none = refused_ok (first_held (holding_of (with_aside w a.0)) (numbers_of a.0)) b.0 b.1; is = ap (λ (x : Done). x.world) (ok_same _ d b.2) })

pub unloaded_by : (w : World) (names : List CellName) (cells : List Cell) (d : Done) → named_cells w names ≡ Ok cells → next_unload w names ≡ Ok d → Unloaded w cells d
unloaded_by w names cells d n e = let u = unloaded w names d e in subst (λ (cs : List Cell). Unloaded w cs d) (ok_same u.0 cells (sym u.1 ∙ n)) u.2

module _ (w : World) (h : IsCoherent w) (cells : List Cell) where
  abbrev k : ℕ
  k = suc w.swaps

  abbrev ns : List ℕ
  ns = numbers_of cells

  pub cells_left : (d : Done) → Unloaded w cells d → without_cells w (garbage_of (with_aside w cells)) ≡ d.world
  cells_left d u = sym (aside_left w h k ns u.none) ∙ u.is

  pub cells_removed : (d : Done) → Unloaded w cells d → Removed w d.world
  cells_removed d u = record {
    numbers = garbage_of (with_aside w cells);
    closed = closed_aside w h k ns;
    roots = roots_aside w h k ns;
    is = cells_left d u;
  }

  -- the same of each cell, put aside where it is named
  free_aside : (c : Cell) → In c w.cells → IsTrue (holds (garbage_of (with_aside w cells)) c.id.0) ↔ IsFree (with_aside w cells) (put_aside k ns c)
  free_aside c i = subst (λ n. IsTrue (holds (garbage_of (with_aside w cells)) n) ↔ IsFree (with_aside w cells) (put_aside k ns c)) (put_number k ns c)
      (garbage_exact (with_aside w cells) (order_aside w h k ns) (put_aside k ns c) (map-In (put_aside k ns) w.cells c i))

  pub unload_leaves : (d : Done) → Unloaded w cells d → (c : Cell) → In c d.world.cells ↔ (In c w.cells × (IsFree (with_aside w cells) (put_aside k ns c) → ⊥))
  unload_leaves d u c = subst (λ (v : World). In c v.cells ↔ (In c w.cells × (IsFree (with_aside w cells) (put_aside k ns c) → ⊥))) (cells_left d u)
      (left_cells w (garbage_of (with_aside w cells)) (λ c. IsFree (with_aside w cells) (put_aside k ns c)) free_aside c)

  -- nobody keeps what is named
  abbrev NoneKept : Type 0
  NoneKept = All (λ n. IsKept (holding_of (with_aside w cells)) n → ⊥) ns

  none_held : (first_held (holding_of (with_aside w cells)) ns ≡ None) ↔ NoneKept
  none_held = first_held_exact (holding_of (with_aside w cells)) ns (In-All (λ (n : ℕ). holds (holding_of (with_aside w cells)).attached n ≡ false) ns (named_detached w h k ns))

  abbrev go_on : List Cell → Outcome Done
  go_on cs = refused_by (first_held (holding_of (with_aside w cs)) (numbers_of cs)) >> done (UnloadDone (ids (garbage_of (with_aside w cs)))) (purged (with_aside w cs))

  abbrev accepted : Done
  accepted = record { reply = UnloadDone (ids (garbage_of (with_aside w cells))); world = purged (with_aside w cells) }

  none_accepted : (names : List CellName) → named_cells w names ≡ Ok cells → first_held (holding_of (with_aside w cells)) ns ≡ None → next_unload w names ≡ Ok accepted
  none_accepted names n e =
      ap (λ (o : Outcome (List Cell)). o >>= go_on) n
      ∙ ap (λ (o : Option Refusal). refused_by o >> done (UnloadDone (ids (garbage_of (with_aside w cells)))) (purged (with_aside w cells))) e

  -- it is accepted exactly where nobody does
  pub unload_accepted : (names : List CellName) → named_cells w names ≡ Ok cells → ((d : Done) × (next_unload w names ≡ Ok d)) ↔ NoneKept
  unload_accepted names n = (λ p. none_held.0 (unloaded_by w names cells p.0 n p.1).none, λ f. (accepted, none_accepted names n (none_held.1 f)))

pub unload_removed : (w : World) (names : List CellName) (d : Done) → IsCoherent w → next_unload w names ≡ Ok d → Removed w d.world
unload_removed w names d h e = let u = unloaded w names d e in cells_removed w h u.0 d u.2
