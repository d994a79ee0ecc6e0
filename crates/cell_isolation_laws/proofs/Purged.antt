-- A purge leaves the footprint of each namespace: nothing attached goes, and nothing that it holds.
use Rattle.std.proofs.Common.{◌≡◌, refl, sym, ◌∙◌, ap, ap₂, subst, arith, ℕ, ◌+◌, ◌≤◌, ◌<◌, ◌⊎◌, inl, inr, true, false, not, ◌||◌, List, length, map, true≢false, Some}
use Rattle.std.specs.Prelude.{filter, flat_map}
use Rattle.std.proofs.lemmas.Bool.{and_parts, false_from_ne_true}
use Rattle.cell_num.specs.Lists.{holds, In}
use Rattle.cell_world.specs.declared.state.LinkRow.{LinkRow}
use Rattle.cell_world.specs.declared.layout.Class.{Class}
use Rattle.cell_world.specs.World.{World, Cell, Region, Task, is_attached}
use Rattle.cell_world.specs.Answer.{numbers_of}
use Rattle.cell_world.specs.Names.{chain}
use Rattle.cell_world.specs.Linked.Relink.{class_start}
use Rattle.cell_world.specs.Commands.UnloadCommand.{starts_of, garbage_of, purged}
use Rattle.cell_world.specs.Coherent.{IsCoherent}
use Rattle.cell_num.proofs.Elements.{In-filtered, filter-Passes, In-map, In-flat_map}
use Rattle.cell_lemmas.proofs.Holding.KeptPaths.{holds-In}
use Rattle.cell_lemmas.proofs.Placement.Freed.{garbage_free, garbage_closed, joins_cells}
use Rattle.cell_lemmas.proofs.Fields.FieldsInside.{region_There}
use Rattle.cell_lemmas.proofs.Placement.Distinct.{one_class}
use Rattle.cell_lemmas.proofs.Tasks.Stacks.{long}
use Rattle.cell_isolation_laws.specs.Touches.{regions_from}
use Rattle.cell_isolation_laws.specs.Footprint.{is_visible, links_of_cells, footprint_of, footprint}
use Rattle.cell_isolation_laws.proofs.Sorted.{filter_inside}
use Rattle.cell_lemmas.proofs.Tasks.Restarted.{region_apart}
use Rattle.cell_isolation_laws.proofs.Isolated.{same_footprint, start_class}

module _ (u : World) (h : IsCoherent u) (ns : ℕ) where
  abbrev gone : List ℕ
  gone = garbage_of u

  abbrev shown : List Cell
  shown = filter (is_visible u ns) u.cells

  stays : (c : Cell) → In c u.cells → is_attached c.standing ≡ true → holds gone c.id.0 ≡ false
  stays c i a = false_from_ne_true (holds gone c.id.0) (λ e. true≢false (sym a ∙ (garbage_free u h.ready.cell_order c i e).0))

  shown_parts : (c : Cell) → In c shown → In c u.cells × (is_attached c.standing ≡ true)
  shown_parts c i = (In-filtered (is_visible u ns) u.cells c i, (and_parts (is_attached c.standing) (holds (chain u.namespaces ns) c.ns) (filter-Passes (is_visible u ns) u.cells c i)).0)

  cells_left : filter (is_visible u ns) (filter (λ (c : Cell). not (holds gone c.id.0)) u.cells) ≡ shown
  cells_left = filter_inside (is_visible u ns) (λ (c : Cell). not (holds gone c.id.0)) u.cells (λ c i e. ap not (stays c i (and_parts (is_attached c.standing) (holds (chain u.namespaces ns) c.ns) e).0))

  links_left : links_of_cells shown (purged u).links ≡ links_of_cells shown u.links
  links_left = filter_inside (λ (l : LinkRow). holds (numbers_of shown) l.user.cell.0) (λ (l : LinkRow). not (holds gone l.user.cell.0 || holds gone l.target.cell.0)) u.links
      (λ l i e. let user = kept l e in ap not (ap₂ (λ a b. a || b) user (garbage_closed u (joins_cells u h) l i user)))
    where
      kept : (l : LinkRow) → holds (numbers_of shown) l.user.cell.0 ≡ true → holds gone l.user.cell.0 ≡ false
      kept l e =
          let d = In-map (λ (y : Cell). y.id.0) shown l.user.cell.0 (holds-In (numbers_of shown) l.user.cell.0 e) in
          let p = shown_parts d.0 d.1 in
          subst (λ m. holds gone m ≡ false) (sym d.2) (stays d.0 p.0 p.1)

  abbrev lost : List ℕ
  lost = flat_map starts_of (filter (λ (c : Cell). holds gone c.id.0) u.cells)

  regions_left : (starts : List ℕ) → ((k : ℕ) → holds starts k ≡ true → (c : Cell) → In c u.cells → holds gone c.id.0 ≡ true → (class : Class) → class_start c class ≡ Some k → ⊥) → regions_from starts (purged u).regions ≡ regions_from starts u.regions
  regions_left starts f = filter_inside (λ (r : Region). holds starts r.start) (λ (r : Region). not (holds lost r.start)) u.regions
      (λ r i e. ap not (false_from_ne_true (holds lost r.start) (λ l. let c = In-flat_map starts_of (filter (λ (c : Cell). holds gone c.id.0) u.cells) r.start (holds-In lost r.start l) in let x = start_class c.0 r.start c.2 in
      f r.start e c.0 (In-filtered (λ (y : Cell). holds gone y.id.0) u.cells c.0 c.1) (filter-Passes (λ (y : Cell). holds gone y.id.0) u.cells c.0 c.1) x.0 x.1)))

  pub footprint_purged : footprint (purged u) ns ≡ footprint u ns
  footprint_purged =
      ap (footprint_of (purged u)) cells_left
      ∙ same_footprint (footprint_of (purged u) shown) (footprint_of u shown) refl links_left
      (regions_left (flat_map starts_of shown) (λ k e c i g class s. let d = In-flat_map starts_of shown k (holds-In (flat_map starts_of shown) k e) in let x = start_class d.0 k d.2 in let p = shown_parts d.0 d.1 in
      true≢false (sym g ∙ subst (λ (y : Cell). holds gone y.id.0 ≡ false) (sym (one_class u h.ready.regions h.ready.in_space h.ready.apart c d.0 i p.0 class x.0 k s x.1).0) (stays d.0 p.0 p.1))))
      refl
      (regions_left (map (λ t. t.stack) u.tasks) (λ k e c i g class s. let t = In-map (λ (x : Task). x.stack) u.tasks k (holds-In (map (λ t. t.stack) u.tasks) k e) in
      let r = region_There u h.ready.regions h.ready.apart h.ready.placed h.ready.objects c i class k s in
      clash t.0 r.0 (r.2 ∙ t.2) (region_apart u h t.0 t.1 c i r.0 r.1 class (s ∙ ap (λ (x : ℕ). Some x) (sym r.2))) (long u h r.0 r.1)))
    where
      clash : (t : Task) (q : Region) → q.start ≡ t.stack → (q.start + length q.bytes ≤ t.stack) ⊎ (t.stack + 16384 ≤ q.start) → 0 < length q.bytes → ⊥
      clash t q e (inl x) l = omega (arith, e, x, l)
      clash t q e (inr x) l = omega (arith, e, x)
