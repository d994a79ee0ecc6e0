-- An accepted clone changes no target that was there, so the fields that it counts are those of its new cells.
use Rattle.std.proofs.Common.{◌≡◌, refl, sym, ◌∙◌, ap, subst, arith, inl, inr, ℕ, ◌+◌, true, false, ◌&&◌, Option, List, [], ◌∷◌, ◌++◌, map, length}
use Rattle.std.specs.Prelude.{All, flat_map, nat_lt, unwrap_or}
use Rattle.cell_num.specs.Lists.{In}
use Rattle.cell_object.specs.declared.object.Entry.{Entry}
use Rattle.cell_world.specs.World.{World, Cell}
use Rattle.cell_world.specs.Answer.{Done}
use Rattle.cell_world.specs.Change.{Made, Plan}
use Rattle.cell_world.specs.Changed.{FieldAt, changed_fields, changed_in, differs, is_changed, is_other_target, now_in}
use Rattle.cell_world.specs.Coherent.{AreSound, IsCoherent}
use Rattle.cell_world.specs.Gather.{Source, fresh_cells}
use Rattle.cell_world.specs.Linked.Field.{fields_of, is_at}
use Rattle.cell_world.specs.Linked.Relink.{field_count, relink}
use Rattle.cell_world.specs.Linked.Target.{target_of}
use Rattle.cell_num.proofs.Elements.{In-All, In-left, In-none, filter_none}
use Rattle.cell_lemmas.proofs.Naming.Spaces.{stands_there, target_stays}
use Rattle.cell_lemmas.proofs.Targeting.Targets.{In-find}
use Rattle.std.proofs.lemmas.Bool.{ltb-true}
use Rattle.cell_change_law.specs.Cloned.{HasCloned}
use Rattle.cell_change_law.proofs.Asking.{base_coherent, clone_base, clone_change, clone_sound}
use Rattle.cell_change_law.proofs.Steps.{plan_ready}
use Rattle.cell_isolation_laws.proofs.Copies.{behind, fresh_is, hidden_from, made_is, x, y}
use Rattle.cell_isolation_laws.proofs.Isolated.{and_none, other_self}
use Rattle.cell_isolation_laws.proofs.Unmoved.{unmoved}

flat_none : {X Y : Type 0} (f : X → List Y) (xs : List X) → ((x : X) → In x xs → f x ≡ []) → flat_map f xs ≡ []
flat_none f [] h = refl
flat_none f (x ∷ xs) h = ap (λ ys. ys ++ flat_map f xs) (h x (inl refl)) ∙ flat_none f xs (λ z i. h z (inr i))

module _ (sources : List Source) (sound : AreSound sources) (w : World) (h : IsCoherent w) (name sibling : List ℕ) (d : Done) (k : HasCloned sources w name sibling d) where
  abbrev base : World
  base = clone_base sources w h sibling k.may

  abbrev placed : World
  placed = (x sources w h name sibling d k).world

  below : (c : Cell) → In c w.cells → nat_lt c.ns (length w.namespaces) ≡ true
  below = stands_there w h.ready.spaces sibling k.parent h.ready.cells

  targets_placed : (c : Cell) → In c w.cells → (e : Entry) → target_of placed c e ≡ target_of base c e
  targets_placed c i =
      unmoved base placed (fresh_cells w.next_cell placed) (behind sources w h name sibling d k sound) h.ready.cell_order c
      (λ z j. hidden_from sources w h name sibling d k sound c.ns (ltb-true c.ns (length w.namespaces) (below c i)) z (subst (In z) (fresh_is sources w h name sibling d k) j))

  there : (c : Cell) → In c w.cells → In c placed.cells
  there c i = subst (In c) (sym (behind sources w h name sibling d k sound).cells) (In-left w.cells (fresh_cells w.next_cell placed) c i)

  world_is : relink placed ≡ d.world
  world_is = sym (made_is sources w h name sibling d k) ∙ k.world

  -- each cell is there as it was, and each entry names what it named
  pub clone_keeps : All (λ c. In c d.world.cells × All (λ e. target_of d.world c e ≡ target_of w c e) c.object.entries) w.cells
  clone_keeps = In-All (λ (c : Cell). In c d.world.cells × All (λ e. target_of d.world c e ≡ target_of w c e) c.object.entries) w.cells
      (λ c i. (
        subst (λ (u : World). In c u.cells) world_is (there c i),
        In-All (λ (e : Entry). target_of d.world c e ≡ target_of w c e) c.object.entries
            (λ e j. subst (λ (u : World). target_of u c e ≡ target_of w c e) world_is (targets_placed c i e ∙ target_stays w h.ready.spaces sibling k.parent c (below c i) e)),
      ))

  now : (c : Cell) → In c w.cells → now_in placed c ≡ c
  now c i = ap (λ (o : Option Cell). unwrap_or o c)
      (In-find placed.cells (plan_ready sources sound base (base_coherent sources w h sibling k.may) (clone_change sources w h sibling k.may) (clone_sound sources w h sibling k.may)
      (y sources w h name sibling d k).plan (x sources w h name sibling d k)).cell_order c (there c i))

  unchanged : (c : Cell) → In c w.cells → (f : Entry) → is_changed base placed c f ≡ false
  unchanged c i f = In-none (λ e. is_at f e && differs base placed c e) c.object.entries (λ e j. and_none (is_at f e) (differs base placed c e)
      (ap (λ (z : Cell). is_other_target (target_of base c e) (target_of placed z e)) (now c i)
      ∙ (ap (is_other_target (target_of base c e)) (targets_placed c i e) ∙ other_self (target_of base c e))))

  none_changed : changed_fields base placed ≡ []
  none_changed = flat_none (changed_in base placed) w.cells
      (λ c i. ap (map {B = FieldAt} (λ f. record { cell = now_in placed c; field = f })) (filter_none (is_changed base placed c) (fields_of c.object) (λ f j. unchanged c i f)))

  pub clone_counts_own : k.made.patched ≡ field_count k.made.fresh
  clone_counts_own =
      let own : field_count (y sources w h name sibling d k).plan.fresh ≡ field_count k.made.fresh = ap (λ (m : Made). field_count m.fresh) (y sources w h name sibling d k).is in
      let all : field_count (y sources w h name sibling d k).plan.fresh + length (y sources w h name sibling d k).plan.changed ≡ k.made.patched = ap (λ (m : Made). m.patched) (y sources w h name sibling d k).is in
      let none : 0 ≡ length (y sources w h name sibling d k).plan.changed = ap (λ (fields : List FieldAt). length fields) (sym none_changed) ∙ ap (λ (p : Plan). length p.changed) (x sources w h name sibling d k).is in
      omega (arith, own, all, none)
