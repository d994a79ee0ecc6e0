-- No field lies in a live task's stack, so no byte of it is sealed.
use Rattle.std.proofs.Common.{◌≡◌, refl, sym, ◌∙◌, ap, subst, arith, ℕ, zero, suc, ◌+◌, ◌-◌, ◌*◌, ◌≤◌, ◌<◌, ◌⊎◌, inl, inr, Bool, true, false, List, [], length, map, get_or}
use Rattle.std.specs.Prelude.{nat_le, nat_lt, All}
use Rattle.std.specs.List.{list_any}
use Rattle.std.proofs.lemmas.Bool.{and_parts, cases_lt, leb-true, ltb-true}
use Rattle.std.proofs.lemmas.List.{ext_get_or, length-map}
use Rattle.cell_num.specs.Kinds.{width_of}
use Rattle.cell_num.specs.Lists.{from_on, upto, In}
use Rattle.cell_object.specs.declared.object.Entry.{Entry}
use Rattle.cell_world.specs.declared.state.NewCell.{NewCell}
use Rattle.cell_world.specs.World.{World, Cell, Task}
use Rattle.cell_world.specs.Linked.Field.{fields_of, place_of}
use Rattle.cell_world.specs.Running.Memory.{covers}
use Rattle.cell_world.specs.Placed.Pages.{filled}
use Rattle.cell_world.specs.Coherent.{IsCoherent}
use Rattle.cell_world.specs.Running.Turn.{without_task}
use Rattle.cell_lemmas.specs.Present.{IsInside}
use Rattle.cell_num.proofs.Elements.{All-In, In-none, In-flat_map, In-map, found-In}
use Rattle.cell_lemmas.proofs.Fields.FieldsInside.{among-In}
use Rattle.cell_lemmas.proofs.Placement.Inside.{fields_lie, ready_linkable}
use Rattle.cell_lemmas.proofs.Placement.Places.{length-from}
use Rattle.cell_commit.specs.Seals.{is_in_span, seal_table}
use Rattle.cell_mem.proofs.Filling.{filled_above, filled_below, filled_inside, length-filled}
use Rattle.cell_lemmas.proofs.Tasks.Killed.{kill_coherent}
use Rattle.cell_lemmas.proofs.Fields.Writes.{begins_below, covered}
use Rattle.cell_space.specs.Joined.{placed_of}
use Rattle.cell_machine.specs.Machine.{field_bytes, own_field_bytes}
use Rattle.cell_schedule.proofs.Freed.{left_clear, stack_of}

at_from : (test : ℕ → Bool) (n a k : ℕ) → k < n → get_or (map test (from_on a n)) k false ≡ test (a + k)
at_from test zero a k l = absurd (omega (arith, l))
at_from test (suc n) a zero l = ap test (omega arith)
at_from test (suc n) a (suc k) l = at_from test n (suc a) k (omega (arith, l)) ∙ ap test (omega arith)

-- where no span has a byte, filling with false changes nothing
module _ (base size : ℕ) (spans : List (ℕ × ℕ)) (at n : ℕ) (fits : at + n ≤ size) (clear : (k : ℕ) → at ≤ k → k < at + n → list_any (is_in_span (base + k)) spans ≡ false) where
  abbrev test : ℕ → Bool
  test k = list_any (is_in_span (base + k)) spans

  abbrev table : List Bool
  table = map test (upto size)

  long : length table ≡ size
  long = length-map (upto size) test ∙ length-from size 0

  within : at + n ≤ length table
  within = omega (arith, fits, long)

  at_table : (k : ℕ) → k < size → get_or table k false ≡ test k
  at_table k l = at_from test size 0 k l ∙ ap test (omega arith)

  same_at : (k : ℕ) → k < size → (k < at) ⊎ (at ≤ k) → (k < at + n) ⊎ (at + n ≤ k) → get_or (filled table at n false) k false ≡ get_or table k false
  same_at k l (inl a) b = filled_below table at n false within k false a
  same_at k l (inr a) (inl b) = filled_inside table at n false within k false a b ∙ (sym (clear k a b) ∙ sym (at_table k l))
  same_at k l (inr a) (inr b) = filled_above table at n false within k false b

  pub unsealed : filled (seal_table base size spans) at n false ≡ seal_table base size spans
  unsealed =
      ext_get_or false (filled table at n false) table (length-filled table at n false within)
      (λ k l. same_at k (subst (λ (m : ℕ). k < m) (length-filled table at n false within ∙ long) l) (cases_lt k at) (cases_lt k (at + n)))

module _ (w : World) (h : IsCoherent w) (t : Task) (live : In t w.tasks) (cells : List NewCell) (same : map placed_of w.cells ≡ cells) where
  abbrev after : World
  after = without_task w t

  lies : (c : NewCell) → In c cells → (f : Entry) → In f (fields_of c.object) → IsInside after (place_of c f) (width_of f.kind)
  lies c i f m =
      let d = In-map placed_of w.cells c (subst (λ (cs : List NewCell). In c cs) (sym same) i) in
      All-In (λ (e : Entry). IsInside after (place_of c e) (width_of e.kind)) c.object.entries
      (subst (λ (x : NewCell). All (λ (e : Entry). IsInside after (place_of x e) (width_of e.kind)) x.object.entries) (sym d.2)
      (All-In (λ (c : Cell). All (λ (e : Entry). IsInside after (place_of c.placed e) (width_of e.kind)) c.object.entries) w.cells (fields_lie after (ready_linkable after (kill_coherent w h t live).ready)) d.0 d.1))
      f (among-In c.object.entries [] f m)

  clear_at : (addr : ℕ) → covers (stack_of w h t live).region addr ≡ true → (s : ℕ × ℕ) → In s (field_bytes cells) → is_in_span addr s ≡ true → ⊥
  clear_at addr own s i is =
      let c = In-flat_map own_field_bytes cells s i in
      let f = In-map (λ f. (place_of c.0 f, width_of f.kind)) (fields_of c.0.object) s c.2 in
      let inside = lies c.0 c.1 f.0 f.1 in
      let found = found-In (λ r. covers r (place_of c.0 f.0)) after.regions inside.region inside.at in
      let ends = and_parts (nat_le s.0 addr) (nat_lt addr (s.0 + s.1)) is in
      let low : place_of c.0 f.0 ≤ addr = subst (λ (p : ℕ × ℕ). p.0 ≤ addr) f.2 (leb-true s.0 addr ends.0) in
      let high : addr < place_of c.0 f.0 + width_of f.0.kind = subst (λ (p : ℕ × ℕ). addr < p.0 + p.1) f.2 (ltb-true addr (s.0 + s.1) ends.1) in
      left_clear w h t live addr own inside.region found.0
      (covered inside.region addr (omega (arith, low, begins_below inside.region (place_of c.0 f.0) found.1)) (omega (arith, high, inside.ends)))

  none_at : (k : ℕ) → t.stack - w.base ≤ k → k < t.stack - w.base + 16384 → list_any (is_in_span (w.base + k)) (field_bytes cells) ≡ false
  none_at k l m =
      let s = stack_of w h t live in
      let own : covers s.region (w.base + k) ≡ true = covered s.region (w.base + k) (omega (arith, l, s.start_is, s.stands)) (omega (arith, m, s.start_is, s.stands, s.size)) in
      In-none (is_in_span (w.base + k)) (field_bytes cells) (λ p i. go p i own (is_in_span (w.base + k) p) refl)
    where
      go : (p : ℕ × ℕ) → In p (field_bytes cells) → covers (stack_of w h t live).region (w.base + k) ≡ true → (b : Bool) → is_in_span (w.base + k) p ≡ b → is_in_span (w.base + k) p ≡ false
      go p i own true e = absurd (clear_at (w.base + k) own p i e)
      go p i own false e = e

  -- the seals of the stack were none
  pub seals_left : filled (seal_table w.base (4096 * w.pages) (field_bytes cells)) (t.stack - w.base) 16384 false ≡ seal_table w.base (4096 * w.pages) (field_bytes cells)
  seals_left =
      let s = stack_of w h t live in
      unsealed w.base (4096 * w.pages) (field_bytes cells) (t.stack - w.base) 16384 (omega (arith, s.stands, s.fits)) none_at
