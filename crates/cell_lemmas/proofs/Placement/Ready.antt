-- The machine with the new cells in their places is ready to be linked.
use Rattle.std.proofs.Common.{◌≡◌, refl, sym, ◌∙◌, ap, subst, ℕ, ◌≤◌, ◌<◌, ◌⊎◌, inl, inr, true, ◌&&◌, List, [], ◌∷◌, ◌++◌, map, length, None, arith}
use Rattle.std.specs.Prelude.{All, flat_map, is_some, nat_lt, nat_le, slice_index, ◌==◌}
use Rattle.std.specs.List.{list_all}
use Rattle.std.proofs.lemmas.Bool.{and_parts, and_from}
use Rattle.std.proofs.lemmas.List.{length-map, map-append}
use Rattle.std.proofs.lemmas.List.Sums.{fold-append}
use Rattle.std.proofs.lemmas.Grind.{flat_map-append}
use Rattle.cell_world.specs.World.{World, Cell, Region, Task, is_attached, cell_of}
use Rattle.cell_world.specs.Names.{needs_of, provider_of}
use Rattle.cell_world.specs.Gather.{first_lack, fresh_cells}
use Rattle.cell_world.specs.Linked.Fit.{first_misfit}
use Rattle.cell_num.specs.Limits.{max_cells}
use Rattle.cell_world.specs.Placed.Pages.{IsSpace}
use Rattle.cell_world.specs.Coherent.{IsReady, AreSoundRegions, AreSoundSpaces, AreSoundTasks, only_regions, only_tasks, IsLoadable, Shape, shape_of, with_shape, stack_shape, wanted_shapes, may_both_stand, has_each_name_once, is_placed, is_supplied, is_fitting, is_known_cell, is_sound_task, has_known_origin}
use Rattle.cell_lemmas.specs.Linkable.{IsLinkable}
use Rattle.cell_num.specs.Lists.{In}
use Rattle.cell_num.proofs.Elements.{Has, all-In, In-all, All-In, In-All, In-append, In-right, In-map, filter-In, some_has}
use Rattle.cell_lemmas.proofs.Naming.Attach.{Grows, cell_grown}
use Rattle.cell_lemmas.proofs.Naming.Supplied.{none_lacking}
use Rattle.cell_lemmas.proofs.Naming.Gathered.{Ranks}
use Rattle.cell_lemmas.proofs.Fields.Fitting.{new_fits}
use Rattle.cell_lemmas.proofs.Placement.Places.{Spaced}
use Rattle.cell_lemmas.proofs.Naming.Renamed.{bare, In-bare, all_bare, pairs_bare, provider_bare}
use Rattle.cell_lemmas.proofs.Placement.PlacedAll.{Put, puts_past}
use Rattle.cell_lemmas.proofs.Placement.NewPlaced.{Adds, shapes_of}
use Rattle.cell_lemmas.proofs.Fields.FieldsInside.{In-fold_shape}

-- w with other cells, next number and regions
abbrev pub grown : World → List Cell → ℕ → List Region → World
grown w cells next regions = record w { cells = cells; next_cell = next; regions = regions }

-- what cells find that come to a machine, providers, fits and how many there are aside
pub record IsBase (v : World) : Type 0 where
  pub memory : AreSoundRegions (only_regions v)
  pub open memory use *
  pub placed : list_all is_placed v.cells ≡ true
  pub known : list_all (is_known_cell v) v.cells ≡ true
  pub parents : AreSoundSpaces v.namespaces
  pub running : AreSoundTasks (only_tasks v)
  pub open running use *
  pub origins : list_all (has_known_origin v) v.tasks ≡ true
  pub space : IsSpace v.base v.pages

pub ready_base : (v : World) → IsReady v → IsBase v
ready_base v r = record { memory = r.memory; placed = r.placed; known = r.cells; parents = r.parents; running = r.running; origins = r.origins; space = r.space }

pub append_same : {X : Type 0} (front xs ys : List X) → front ++ xs ≡ front ++ ys → xs ≡ ys
append_same [] xs ys e = e
append_same (x ∷ front) xs ys e = append_same front xs ys (tail_same e)
  where
    tail_same : x ∷ (front ++ xs) ≡ x ∷ (front ++ ys) → front ++ xs ≡ front ++ ys
    tail_same e = cc

-- the cells `new` come without places to v; with their places they are `placed`, and the cells of v are supplied then
module _ (v : World) (base : IsBase v) (new placed : List Cell) (next : ℕ) (regions : List Region)
    (ranks : Ranks (grown v (v.cells ++ new) next v.regions))
    (attached : list_all (λ c. is_attached c.standing) new ≡ true)
    (fresh : list_all (λ c. nat_le v.next_cell c.id.0) new ≡ true)
    (none_lacks : first_lack (grown v (v.cells ++ new) next v.regions) new ≡ None)
    (spaced : Spaced (grown v (v.cells ++ placed) next regions))
    (same : map bare (v.cells ++ placed) ≡ map bare (v.cells ++ new))
    (by_rule : list_all is_placed placed ≡ true)
    (adds : Adds v (grown v (v.cells ++ placed) next regions) (flat_map shapes_of placed))
    (old_supplied : (c : Cell) → In c v.cells → is_supplied (grown v (v.cells ++ placed) next regions) c ≡ true)
  where
    abbrev bare_world : World
    bare_world = grown v (v.cells ++ new) next v.regions

    abbrev after : World
    after = grown v (v.cells ++ placed) next regions

    new_same : map bare placed ≡ map bare new
    new_same = append_same (map bare v.cells) (map bare placed) (map bare new) (sym (map-append bare v.cells placed) ∙ (same ∙ map-append bare v.cells new))

    placed_attached : list_all (λ (c : Cell). is_attached c.standing) placed ≡ true
    placed_attached = all_bare (λ c. is_attached c.standing) (λ c. refl) placed new new_same attached

    grows : Grows v after
    grows = record { spaces = λ ns k. refl; new = placed; cells = refl; attached = placed_attached }

    old_or_new : (P : Cell → Type 0) → ((c : Cell) → In c v.cells → P c) → ((c : Cell) → In c placed → P c) → (c : Cell) → In c (v.cells ++ placed) → P c
    old_or_new P f g c k = go (In-append v.cells placed c k)
      where
        go : In c v.cells ⊎ In c placed → P c
        go (inl i) = f c i
        go (inr i) = g c i

    -- a new cell lacks nothing, with places or without
    new_supplied : (c : Cell) → In c placed → is_supplied after c ≡ true
    new_supplied c k =
        let d = In-bare c placed new new_same k in
        let h : is_supplied bare_world d.0 ≡ true = none_lacking bare_world new none_lacks d.0 d.1 in
        let b : is_supplied bare_world c ≡ true = ap (is_supplied bare_world) d.2 ∙ h in
        In-all (λ name. is_some (provider_of after c name)) (needs_of c.object)
        (λ name i. ap is_some (provider_bare bare_world after refl same c.standing c.ns name) ∙ all-In (λ name. is_some (provider_of bare_world c name)) (needs_of c.object) b name i)

    new_is_fresh : (c : Cell) → In c placed → In c (fresh_cells v.next_cell after)
    new_is_fresh c k = filter-In (λ c. nat_le v.next_cell c.id.0) (v.cells ++ placed) c (In-right v.cells placed c k) (all-In (λ c. nat_le v.next_cell c.id.0) placed (all_bare (λ c. nat_le v.next_cell c.id.0) (λ c. refl) placed new new_same fresh) c k)

    stacks_apart : (s t : Shape) → In s (flat_map shapes_of placed) → In t (map stack_shape v.tasks) → s.start ≡ t.start → ⊥
    stacks_apart s t k l e =
        let i : In t (wanted_shapes v) = In-fold_shape (flat_map shapes_of v.cells ++ map stack_shape v.tasks) [] t (inr (In-right (flat_map shapes_of v.cells) (map stack_shape v.tasks) t l)) in
        let r = In-map shape_of v.regions t (subst (λ (xs : List Shape). In t xs) (sym base.regions) i) in
        adds.apart s k r.0 r.1 (e ∙ ap (λ (x : Shape). x.start) r.2)

    regions_wanted : map shape_of after.regions ≡ wanted_shapes after
    regions_wanted =
        let put = λ (acc xs ys : List Shape). fold-append (λ shapes s. with_shape s shapes) acc xs ys in
        adds.shapes
        ∙ (ap (λ (xs : List Shape). Put xs (flat_map shapes_of placed)) (base.regions ∙ put [] (flat_map shapes_of v.cells) (map stack_shape v.tasks))
        ∙ (puts_past (flat_map shapes_of placed) (map stack_shape v.tasks) (Put [] (flat_map shapes_of v.cells)) stacks_apart
        ∙ (ap (λ (xs : List Shape). Put xs (map stack_shape v.tasks)) (sym (put [] (flat_map shapes_of v.cells) (flat_map shapes_of placed)))
        ∙ (sym (put [] (flat_map shapes_of v.cells ++ flat_map shapes_of placed) (map stack_shape v.tasks))
        ∙ ap (λ (xs : List Shape). Put [] (xs ++ map stack_shape v.tasks)) (sym (flat_map-append shapes_of v.cells placed))))))

    task_still : (t : Task) → is_sound_task v t ≡ true → is_sound_task after t ≡ true
    task_still t h =
        let a = and_parts (nat_lt t.number v.next_task && is_some (cell_of v t.root) && (length t.registers == 32)) (slice_index t.registers 0 == 0) h in
        let b = and_parts (nat_lt t.number v.next_task && is_some (cell_of v t.root)) (length t.registers == 32) a.0 in
        let d = and_parts (nat_lt t.number v.next_task) (is_some (cell_of v t.root)) b.0 in
        let r : Has (cell_of v t.root) = some_has (cell_of v t.root) d.1 in
        and_from _ (slice_index t.registers 0 == 0) (and_from _ (length t.registers == 32) (and_from (nat_lt t.number v.next_task) (is_some (cell_of after t.root)) d.0 (ap is_some (cell_grown v after grows t.root r.0 r.1))) b.1) a.1

    objects_after : All (λ c. IsLoadable c.object) after.cells
    objects_after = In-All (λ (c : Cell). IsLoadable c.object) after.cells (λ c k. go c (In-bare c after.cells bare_world.cells same k))
      where
        go : (c : Cell) → (d : Cell) × In d bare_world.cells × (bare c ≡ bare d) → IsLoadable c.object
        go c d = subst (λ (x : Cell). IsLoadable x.object) (sym d.2) (All-In (λ (c : Cell). IsLoadable c.object) bare_world.cells ranks.objects d.0 d.1)

    few_after : length after.cells ≤ max_cells
    few_after =
        let count : length after.cells ≡ length bare_world.cells = sym (length-map after.cells bare) ∙ (ap length same ∙ length-map bare_world.cells bare) in
        omega (arith, count, ranks.few)

    -- all that linking asks for
    pub linkable_after : IsLinkable after
    linkable_after = record {
      alone = record {
        cell_order = pairs_bare (λ a b. nat_lt a.id.0 b.id.0) (λ a b. refl) after.cells bare_world.cells same ranks.order;
        placed = In-all is_placed after.cells (old_or_new (λ c. is_placed c ≡ true) (all-In is_placed v.cells base.placed) (all-In is_placed placed by_rule));
        objects = objects_after;
      };
      memory = record { regions = regions_wanted; in_space = spaced.in_space; apart = spaced.apart };
      cells = all_bare (is_known_cell after) (λ c. refl) after.cells bare_world.cells same ranks.known;
      supplied = In-all (is_supplied after) after.cells (old_or_new (λ c. is_supplied after c ≡ true) old_supplied new_supplied);
    }

    pub ready_after : v.swaps < next → ((c : Cell) → In c v.cells → is_fitting after c ≡ true) → first_misfit after (fresh_cells v.next_cell after) ≡ None → IsReady after
    ready_after swaps old_fitting fits = record {
      alone = linkable_after.alone;
      together = record {
        names = pairs_bare (may_both_stand after) (λ a b. refl) after.cells bare_world.cells same ranks.names;
        own_names = all_bare has_each_name_once (λ c. refl) after.cells bare_world.cells same ranks.own_names;
        cells = linkable_after.cells;
        supplied = linkable_after.supplied;
        fitting = In-all (is_fitting after) after.cells (old_or_new (λ c. is_fitting after c ≡ true)
            old_fitting
            (λ c k. new_fits after (fresh_cells v.next_cell after) fits c (new_is_fresh c k)));
      };
      counted = record { few_cells = few_after; cell_numbers = ranks.last; swap_numbers = swaps };
      parents = base.parents;
      memory = linkable_after.memory;
      running = record {
        task_order = base.task_order;
        tasks = In-all (is_sound_task after) v.tasks (λ t k. task_still t (all-In (is_sound_task v) v.tasks base.tasks t k));
        few_tasks = base.few_tasks;
        task_numbers = base.task_numbers;
      };
      origins = base.origins;
      space = base.space;
    }
