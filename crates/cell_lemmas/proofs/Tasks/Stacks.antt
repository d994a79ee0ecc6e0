-- Each live task of a coherent machine has a number and a stack of its own, and no region of a cell starts at a stack.
use Rattle.std.proofs.Common.{◌≡◌, refl, sym, ◌∙◌, ap, subst, arith, ◌<◌, ◌⊎◌, inl, inr, Bool, true, false, not, List, [], ◌++◌, length, map}
use Rattle.std.specs.Prelude.{flat_map, nat_lt, ◌==◌}
use Rattle.std.proofs.lemmas.Bool.{eqb-true, eq-eqb, ltb-true}
use Rattle.cell_world.specs.World.{World, Region, Task}
use Rattle.cell_world.specs.Placed.Layout.{permission_of}
use Rattle.cell_world.specs.declared.layout.Class.TheVariants.{Writable}
use Rattle.cell_world.specs.Coherent.{IsCoherent, Shape, shape_of, stack_shape, wanted_shapes}
use Rattle.cell_num.specs.Lists.{In}
use Rattle.cell_num.proofs.Elements.{all-In, map-In, In-map, In-right, pairs-In, pairs-map}
use Rattle.cell_lemmas.proofs.Fields.FieldsInside.{In-fold_shape}
use Rattle.cell_lemmas.proofs.Placement.Distinct.{start_apart, apart_not, cell_shapes, all_apart, pairs_across, pairs_second}
use Rattle.cell_lemmas.proofs.Placement.Places.{whole_region}

pub long : (w : World) → IsCoherent w → (r : Region) → In r w.regions → 0 < length r.bytes
long w h r i = (whole_region w r (all-In _ w.regions h.ready.in_space r i)).2

module _ (w : World) (h : IsCoherent w) (t : Task) (live : In t w.tasks) where
  -- the region of the stack
  pub stack_region : (r : Region) × In r w.regions × (r.start ≡ t.stack) × (r.permission ≡ permission_of Writable)
  stack_region =
      let i : In (stack_shape t) (wanted_shapes w) = In-fold_shape (flat_map cell_shapes w.cells ++ map stack_shape w.tasks) [] (stack_shape t) (inr (In-right (flat_map cell_shapes w.cells) (map stack_shape w.tasks) (stack_shape t) (map-In stack_shape w.tasks t live))) in
      let m = In-map shape_of w.regions (stack_shape t) (subst (λ (l : List Shape). In (stack_shape t) l) (sym h.ready.regions) i) in
      (m.0, m.1, ap (λ (x : Shape). x.start) (sym m.2), ap (λ (x : Shape). x.permission) (sym m.2))

  -- no cell's region starts at the stack
  pub cells_elsewhere : (s : Shape) → In s (flat_map cell_shapes w.cells) → s.start ≡ t.stack → ⊥
  cells_elsewhere s i e =
      apart_not s (stack_shape t)
      (pairs_across start_apart (flat_map cell_shapes w.cells) (map stack_shape w.tasks) (all_apart w h.ready.regions h.ready.in_space h.ready.apart) s (stack_shape t) i (map-In stack_shape w.tasks t live)) e

  pub same_task : (u : Task) → In u w.tasks → u.number ≡ t.number → u ≡ t
  same_task u i e = go (pairs-In (λ (a b : Task). nat_lt a.number b.number) w.tasks h.ready.task_order u t i live)
    where
      go : (u ≡ t) ⊎ ((nat_lt u.number t.number ≡ true) ⊎ (nat_lt t.number u.number ≡ true)) → u ≡ t
      go (inl s) = s
      go (inr (inl l)) = absurd (omega (arith, ltb-true u.number t.number l, e))
      go (inr (inr l)) = absurd (omega (arith, ltb-true t.number u.number l, e))

  -- and no other task's stack
  pub stack_alone : (u : Task) → In u w.tasks → u.stack ≡ t.stack → u ≡ t
  stack_alone u i e =
      go (pairs-In (λ (a b : Task). start_apart (stack_shape a) (stack_shape b)) w.tasks
      (sym (pairs-map start_apart stack_shape w.tasks) ∙ pairs_second start_apart (flat_map cell_shapes w.cells) (map stack_shape w.tasks) (all_apart w h.ready.regions h.ready.in_space h.ready.apart)) u t i live)
    where
      go : (u ≡ t) ⊎ ((start_apart (stack_shape u) (stack_shape t) ≡ true) ⊎ (start_apart (stack_shape t) (stack_shape u) ≡ true)) → u ≡ t
      go (inl s) = s
      go (inr (inl l)) = absurd (apart_not (stack_shape u) (stack_shape t) l e)
      go (inr (inr l)) = absurd (apart_not (stack_shape t) (stack_shape u) l (sym e))

  pub same_test : (u : Task) → In u w.tasks → not (u.number == t.number) ≡ not (u.stack == t.stack)
  same_test u i = go (u.number == t.number) refl (u.stack == t.stack) refl
    where
      go : (a : Bool) → (u.number == t.number) ≡ a → (b : Bool) → (u.stack == t.stack) ≡ b → not a ≡ not b
      go true a true b = refl
      go false a false b = refl
      go true a false b = ap not (sym (eq-eqb u.stack t.stack (ap (λ (v : Task). v.stack) (same_task u i (eqb-true u.number t.number a)))) ∙ b)
      go false a true b = ap not (sym a ∙ eq-eqb u.number t.number (ap (λ (v : Task). v.number) (stack_alone u i (eqb-true u.stack t.stack b))))
