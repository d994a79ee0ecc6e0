-- Cells that a swap puts aside leave the rule of names, the numbers and all that new cells need to find.
use Rattle.std.proofs.Common.{◌≡◌, refl, sym, ◌∙◌, ap, subst, arith, ℕ, suc, Bool, true, false, not, ◌&&◌, ◌||◌, List, [], ◌++◌, map, length, Option, Some, None}
use Rattle.std.specs.Prelude.{fold, option_map, is_some, nat_lt, ◌==◌, slice_index}
use Rattle.std.specs.List.{list_all, list_any}
use Rattle.std.proofs.lemmas.Bool.{and_parts, and_from, eqb-true, leb-true, le-leb}
use Rattle.std.proofs.lemmas.List.{length-map}
use Rattle.std.proofs.lemmas.List.Folds.{flat_map-map}
use Rattle.cell_num.specs.Lists.{holds, In}
use Rattle.cell_world.specs.World.{World, Cell, Task, Standing, cell_of, is_of_group}
use Rattle.cell_world.specs.declared.state.Standing.TheVariants.{Attached, Detached}
use Rattle.cell_world.specs.Names.{definitions_of}
use Rattle.cell_world.specs.Commands.UnloadCommand.{detach}
use Rattle.cell_world.specs.Coherent.{IsLoadable, IsCoherent, Shape, with_shape, stack_shape, may_both_stand, has_each_name_once, is_known_cell, is_sound_standing, is_placed, is_sound_task, wanted_shapes}
use Rattle.cell_num.proofs.Elements.{all-In, In-all, All-In, In-All, In-map, pairs-map, pairs_same, flat_same}
use Rattle.cell_lemmas.proofs.Naming.Known.{KnownParts, known_parts, known_from}
use Rattle.cell_lemmas.proofs.Naming.Gathered.{Ranks}
use Rattle.cell_lemmas.proofs.Placement.Ready.{IsBase, ready_base}
use Rattle.cell_lemmas.proofs.Placement.PlacedReady.{ready_ranks}
use Rattle.cell_lemmas.proofs.Placement.Distinct.{cell_shapes}
use Rattle.cell_lemmas.proofs.Naming.PutAside.{order_aside}
use Rattle.cell_lemmas.proofs.Fields.Values.{find_map}
use Rattle.cell_lemmas.proofs.Targeting.Detached.{put, put_same, put_in, put_out, find_equal}

-- the group of a swap is a new one
module _ (v : World) (h : IsCoherent v) where
  pub new_group : (c : Cell) → In c v.cells → is_of_group (suc v.swaps) c.standing ≡ false
  new_group c i = go c.standing (known_parts v c (all-In (is_known_cell v) v.cells h.ready.cells c i)).standing
    where
      go : (s : Standing) → is_sound_standing v s ≡ true → is_of_group (suc v.swaps) s ≡ false
      go Attached e = refl
      go (Detached l) e = pick (l == suc v.swaps) refl
        where
          pick : (b : Bool) → (l == suc v.swaps) ≡ b → b ≡ false
          pick true q = absurd (omega (arith, leb-true l v.swaps e, eqb-true l (suc v.swaps) q))
          pick false q = refl

never : (a p z : Bool) → (not (a && false && p) || z) ≡ true
never true p z = refl
never false p z = refl

module _ (w : World) (h : IsCoherent w) (ns : List ℕ) where
  -- the cells put aside, and the swap counted
  abbrev pub aside : World
  aside = record (detach (suc w.swaps) ns w) { swaps = suc w.swaps }

  abbrev moved : Cell → Cell
  moved c = put (suc w.swaps) ns c

  all_put : (p : Cell → Bool) → ((c : Cell) → p (record c { standing = Detached (suc w.swaps) }) ≡ p c) → list_all p w.cells ≡ true → list_all p (map moved w.cells) ≡ true
  all_put p f e = In-all p (map moved w.cells) (λ z m. at z (In-map moved w.cells z m))
    where
      at : (z : Cell) → (c : Cell) × In c w.cells × (z ≡ moved c) → p z ≡ true
      at z c = ap p c.2 ∙ (put_same (suc w.swaps) ns p c.0 (f c.0) ∙ all-In p w.cells e c.0 c.1)

  stand : (x y : Cell) → may_both_stand w x y ≡ true → may_both_stand aside (moved x) (moved y) ≡ true
  stand x y e = go (holds ns x.id.0) refl (holds ns y.id.0) refl
    where
      go : (a : Bool) → holds ns x.id.0 ≡ a → (b : Bool) → holds ns y.id.0 ≡ b → may_both_stand aside (moved x) (moved y) ≡ true
      go true p b q = ap (λ (z : Cell). may_both_stand aside z (moved y)) (put_in (suc w.swaps) ns x p)
      go false p true q =
          ap (λ (z : Cell). may_both_stand aside z (moved y)) (put_out (suc w.swaps) ns x p)
          ∙ (ap (λ (z : Cell). may_both_stand aside x z) (put_in (suc w.swaps) ns y q) ∙ never _ _ _)
      go false p false q =
          ap (λ (z : Cell). may_both_stand aside z (moved y)) (put_out (suc w.swaps) ns x p)
          ∙ (ap (λ (z : Cell). may_both_stand aside x z) (put_out (suc w.swaps) ns y q) ∙ e)

  known_aside : (z : Cell) → (c : Cell) × In c w.cells × (z ≡ moved c) → is_known_cell aside z ≡ true
  known_aside z c = subst (λ (x : Cell). is_known_cell aside x ≡ true) (sym c.2) (known_from aside (moved c.0) (record {
    number = put_same (suc w.swaps) ns (λ x. nat_lt x.id.0 w.next_cell) c.0 refl ∙ p.number;
    ns = put_same (suc w.swaps) ns (λ x. nat_lt x.ns (length w.namespaces)) c.0 refl ∙ p.ns;
    standing = go (holds ns c.0.id.0) refl;
    aliases = put_same (suc w.swaps) ns (λ x. list_all (λ a. list_any (λ d. d.symbol == a.symbol) (definitions_of x.object)) x.aliases) c.0 refl ∙ p.aliases;
  }))
    where
      p : KnownParts w c.0
      p = known_parts w c.0 (all-In (is_known_cell w) w.cells h.ready.cells c.0 c.1)

      more : (s : Standing) → is_sound_standing w s ≡ true → is_sound_standing aside s ≡ true
      more Attached e = refl
      more (Detached k) e = le-leb k (suc w.swaps) (omega (arith, leb-true k w.swaps e))

      go : (b : Bool) → holds ns c.0.id.0 ≡ b → is_sound_standing aside (moved c.0).standing ≡ true
      go true e = ap (λ (x : Cell). is_sound_standing aside x.standing) (put_in (suc w.swaps) ns c.0 e) ∙ le-leb (suc w.swaps) (suc w.swaps) (omega arith)
      go false e = ap (λ (x : Cell). is_sound_standing aside x.standing) (put_out (suc w.swaps) ns c.0 e) ∙ more c.0.standing p.standing

  known : list_all (is_known_cell aside) aside.cells ≡ true
  known = In-all (is_known_cell aside) aside.cells (λ z m. known_aside z (In-map moved w.cells z m))

  pub aside_ranks : Ranks aside
  aside_ranks = record {
    names = pairs-map (may_both_stand aside) moved w.cells ∙ pairs_same (may_both_stand w) (λ x y. may_both_stand aside (moved x) (moved y)) w.cells (λ x y i j e. stand x y e) h.ready.names;
    own_names = all_put has_each_name_once (λ c. refl) h.ready.own_names;
    order = order_aside w h (suc w.swaps) ns;
    known = known;
    objects = In-All (λ (c : Cell). IsLoadable c.object) (map moved w.cells) (λ z m. objects z (In-map moved w.cells z m));
    few = omega (arith, length-map w.cells moved, r.few);
    last = r.last;
  }
    where
      r : Ranks w
      r = ready_ranks w h.ready

      keep : (c : Cell) → IsLoadable c.object → IsLoadable (moved c).object
      keep c l = subst IsLoadable (sym (put_same (suc w.swaps) ns (λ x. x.object) c refl)) l

      objects : (z : Cell) → (c : Cell) × In c w.cells × (z ≡ moved c) → IsLoadable z.object
      objects z c = subst (λ (x : Cell). IsLoadable x.object) (sym c.2) (keep c.0 (All-In (λ (x : Cell). IsLoadable x.object) w.cells h.ready.objects c.0 c.1))

  shapes_aside : wanted_shapes aside ≡ wanted_shapes w
  shapes_aside = ap (λ (xs : List Shape). fold (λ shapes s. with_shape s shapes) [] (xs ++ map stack_shape w.tasks))
      (flat_map-map cell_shapes moved w.cells ∙ flat_same (λ c. cell_shapes (moved c)) cell_shapes w.cells (λ c i. put_same (suc w.swaps) ns cell_shapes c refl))

  there_still : (n : ℕ) → is_some (cell_of w n) ≡ true → is_some (cell_of aside n) ≡ true
  there_still n e =
      ap is_some (find_map (λ c. c.id.0 == n) moved w.cells ∙ ap (option_map moved) (find_equal (λ c. (moved c).id.0 == n) (λ c. c.id.0 == n) w.cells (λ c. put_same (suc w.swaps) ns (λ x. x.id.0 == n) c refl)))
      ∙ (go (cell_of w n) ∙ e)
    where
      go : (o : Option Cell) → is_some (option_map moved o) ≡ is_some o
      go None = refl
      go (Some c) = refl

  task_still : (t : Task) → is_sound_task w t ≡ true → is_sound_task aside t ≡ true
  task_still t e =
      let a = and_parts (nat_lt t.number w.next_task && is_some (cell_of w t.root) && (length t.registers == 32)) (slice_index t.registers 0 == 0) e in
      let b = and_parts (nat_lt t.number w.next_task && is_some (cell_of w t.root)) (length t.registers == 32) a.0 in
      let d = and_parts (nat_lt t.number w.next_task) (is_some (cell_of w t.root)) b.0 in
      and_from _ (slice_index t.registers 0 == 0) (and_from _ (length t.registers == 32) (and_from (nat_lt t.number w.next_task) (is_some (cell_of aside t.root)) d.0 (there_still t.root d.1)) b.1) a.1

  pub aside_base : IsBase aside
  aside_base = record {
    memory = record { regions = b.regions ∙ sym shapes_aside; in_space = b.in_space; apart = b.apart };
    placed = all_put is_placed (λ c. refl) b.placed;
    known = known;
    parents = b.parents;
    running = record {
      task_order = b.task_order;
      tasks = In-all (is_sound_task aside) w.tasks (λ t i. task_still t (all-In (is_sound_task w) w.tasks b.tasks t i));
      few_tasks = b.few_tasks;
      task_numbers = b.task_numbers;
    };
    origins = b.origins;
    space = b.space;
  }
    where
      b : IsBase w
      b = ready_base w h.ready
