-- A machine without one of its tasks and that task's stack is coherent again.
use Rattle.std.proofs.Common.{◌≡◌, refl, sym, ◌∙◌, ap, arith, Bool, true, false, List, [], ◌++◌, map}
use Rattle.std.specs.Prelude.{filter, flat_map, ◌==◌, not}
use Rattle.std.proofs.lemmas.Bool.{eqb-true}
use Rattle.std.proofs.lemmas.List.Elements.{filter-append}
use Rattle.cell_world.specs.World.{World, Task}
use Rattle.cell_world.specs.Coherent.{IsCoherent, Shape, shape_of, stack_shape, wanted_shapes, is_in_space, ends_before, is_sound_task, has_known_origin}
use Rattle.cell_world.specs.Running.Turn.{without_task, without_region}
use Rattle.cell_num.specs.Lists.{In}
use Rattle.cell_num.proofs.Elements.{In-filtered, filter_all}
use Rattle.cell_lemmas.proofs.Placement.Distinct.{cell_shapes}
use Rattle.cell_lemmas.proofs.Placement.PlacedAll.{Put}
use Rattle.cell_num.proofs.Sublists.{all-filter, pairs-filter, filter_same, length-filter_le, map_filter}
use Rattle.cell_lemmas.proofs.Placement.Shapes.{filter_put}
use Rattle.cell_lemmas.proofs.Tasks.Stacks.{cells_elsewhere, same_test}
use Rattle.cell_lemmas.proofs.Fields.Fixed.{remade_fixed, links_fixed, relinked}

module _ (w : World) (h : IsCoherent w) (t : Task) (live : In t w.tasks) where
  abbrev other : Shape → Bool
  other s = not (s.start == t.stack)

  passes : (s : Shape) → In s (flat_map cell_shapes w.cells) → other s ≡ true
  passes s i = go (s.start == t.stack) refl
    where
      go : (b : Bool) → (s.start == t.stack) ≡ b → not b ≡ true
      go true e = absurd (cells_elsewhere w h t live s i (eqb-true s.start t.stack e))
      go false e = refl

  shapes_left : map shape_of (without_region t.stack w.regions) ≡ wanted_shapes (without_task w t)
  shapes_left =
      map_filter shape_of other w.regions
      ∙ (ap (filter other) h.ready.regions
      ∙ (filter_put other (flat_map cell_shapes w.cells ++ map stack_shape w.tasks) [] refl
      ∙ ap (Put [])
      (filter-append other (flat_map cell_shapes w.cells) (map stack_shape w.tasks)
      ∙ (ap (λ (v : List Shape). v ++ filter other (map stack_shape w.tasks)) (filter_all other (flat_map cell_shapes w.cells) passes)
      ∙ ap (λ (v : List Shape). flat_map cell_shapes w.cells ++ v) (sym (map_filter stack_shape other w.tasks) ∙ ap (map stack_shape) (sym (filter_same _ _ w.tasks (same_test w h t live))))))))

  pub kill_coherent : IsCoherent (without_task w t)
  kill_coherent = record {
    ready = record {
      alone = h.ready.alone;
      together = h.ready.together;
      counted = h.ready.counted;
      parents = h.ready.parents;
      memory = record {
        regions = shapes_left;
        in_space = all-filter (is_in_space w) _ w.regions h.ready.in_space;
        apart = pairs-filter ends_before _ w.regions h.ready.apart;
      };
      running = record {
        task_order = pairs-filter _ _ w.tasks h.ready.task_order;
        tasks = all-filter (is_sound_task w) _ w.tasks h.ready.tasks;
        few_tasks = omega (arith, length-filter_le (λ (u : Task). not (u.number == t.number)) w.tasks, h.ready.few_tasks);
        task_numbers = h.ready.task_numbers;
      };
      origins = all-filter (has_known_origin w) _ w.tasks h.ready.origins;
      space = h.ready.space;
    };
    linked = relinked (without_task w t) (links_fixed w h.linked) (λ r i. remade_fixed w h.linked r (In-filtered _ w.regions r i));
  }
