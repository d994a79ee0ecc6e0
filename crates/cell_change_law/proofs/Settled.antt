-- Each entry of a cell that stays names at the end of a change what it named when all was linked.
use Rattle.std.proofs.Common.{◌≡◌, refl, sym, ◌∙◌, ap, subst, ℕ, List, [], ◌∷◌, map, Ok}
use Rattle.std.specs.Prelude.{All, IsTrue}
use Rattle.cell_num.specs.Lists.{holds, In}
use Rattle.cell_object.specs.declared.object.Object.{Object}
use Rattle.cell_object.specs.declared.object.Entry.{Entry}
use Rattle.cell_world.specs.declared.reply.Reply.TheVariants.{Purge as PurgeDone}
use Rattle.cell_world.specs.declared.state.NewCell.{NewCell}
use Rattle.cell_world.specs.World.{World, Cell}
use Rattle.cell_world.specs.Linked.Target.{target_of}
use Rattle.cell_world.specs.Gather.{Source}
use Rattle.cell_world.specs.Changed.{now_in}
use Rattle.cell_world.specs.Commands.UnloadCommand.{garbage_of, purged, without_cells}
use Rattle.cell_world.specs.Answer.{Done, ids, numbers_of}
use Rattle.cell_world.specs.Coherent.{AreSound, IsCoherent}
use Rattle.cell_num.proofs.Elements.{All-In, In-All, In-filtered, In-map}
use Rattle.cell_lemmas.proofs.Naming.Appended.{ok_same}
use Rattle.cell_lemmas.specs.Left.{LeavesTargets}
use Rattle.cell_lemmas.proofs.Holding.KeptPaths.{holds-In}
use Rattle.cell_lemmas.proofs.Holding.Removals.{purge_removed, removed_targets}
use Rattle.cell_lemmas.proofs.Holding.Settled.{found_now, mapped_same}
use Rattle.cell_world.specs.Change.{Change, Plan, Made, old_of, plan_of, garbage_after, make_change}
use Rattle.cell_change_law.specs.Sound.{IsSound}
use Rattle.cell_change_law.proofs.Steps.{Planned, planned, plan_regrown, Changed, changed}
use Rattle.cell_change_law.proofs.Ending.{last_coherent, last_parts, made_coherent, without_none}

targets_same : (w : World) → LeavesTargets w w
targets_same w = In-All (λ (c : Cell). map (target_of w c) c.object.entries ≡ map (target_of w c) c.object.entries) w.cells (λ c i. refl)

swept_targets : (w : World) → IsCoherent w → (old : List ℕ) → LeavesTargets w (without_cells w (garbage_after old w))
swept_targets w h [] = subst (LeavesTargets w) (sym (without_none w)) (targets_same w)
swept_targets w h (n ∷ old) = let d : Done = record { reply = PurgeDone (ids (garbage_of w)); world = purged w } in removed_targets w (purged w) h (purge_removed w d h refl)

module _ (sources : List Source) (sound : AreSound sources) (v : World) (h : IsCoherent v) (asked : Change) (good : IsSound sources v asked) (made : Made) (e : make_change sources v asked ≡ Ok made) where
  x : Changed sources v asked made
  x = changed sources v asked made e

  last : IsCoherent x.last
  last = last_coherent sources sound v h asked good x.plan x.planned x.last x.run

  end : IsCoherent made.world
  end = made_coherent sources sound v h asked good made e

  targets_left : LeavesTargets x.last made.world
  targets_left = subst (λ (m : Made). LeavesTargets x.last m.world) x.is (swept_targets x.last last (old_of asked))

  present_before : (c : Cell) → In c made.world.cells → In c x.last.cells
  present_before c i = In-filtered _ x.last.cells c (subst (λ (m : Made). In c m.world.cells) (sym x.is) i)

  linked_now : (c y : Cell) → In y x.last.cells → c.id.0 ≡ y.id.0 → now_in x.plan.linked c ≡ y
  linked_now c y i n = ap (λ (w : World). now_in w c) (sym (last_parts asked x.plan x.last x.run)) ∙ found_now x.last last c y i n

  same_object : (c : Cell) → In c v.cells → (now_in x.plan.linked c).object ≡ c.object
  same_object c i =
      let p : Planned sources v asked x.plan = planned sources v asked x.plan x.planned in
      subst (λ (y : Plan). (now_in y.linked c).object ≡ c.object) p.is
      (ap (λ (n : NewCell). n.object) (All-In (λ (c : Cell). (now_in p.world c).placed ≡ c.placed) v.cells (plan_regrown sources sound v h asked good x.plan p).same c i))

  settled : (c : Cell) → In c v.cells → IsTrue (holds (numbers_of made.world.cells) c.id.0) → (f : Entry) → In f c.object.entries → target_of made.world (now_in made.world c) f ≡ target_of x.plan.linked (now_in x.plan.linked c) f
  settled c i there f j =
      let y = In-map (λ (y : Cell). y.id.0) made.world.cells c.id.0 (holds-In (numbers_of made.world.cells) c.id.0 there) in
      let before : In y.0 x.last.cells = present_before y.0 y.1 in
      let now : now_in made.world c ≡ y.0 = found_now made.world end c y.0 y.1 y.2 in
      let then : now_in x.plan.linked c ≡ y.0 = linked_now c y.0 before y.2 in
      let object : y.0.object ≡ c.object = ap (λ (z : Cell). z.object) (sym then) ∙ same_object c i in
      let left = All-In (λ (z : Cell). map (target_of made.world z) z.object.entries ≡ map (target_of x.last z) z.object.entries) made.world.cells targets_left y.0 y.1 in
      ap (λ (z : Cell). target_of made.world z f) now
      ∙ (mapped_same (target_of made.world y.0) (target_of x.last y.0) y.0.object.entries left f (subst (λ (o : Object). In f o.entries) (sym object) j)
      ∙ (ap (λ (w : World). target_of w y.0 f) (last_parts asked x.plan x.last x.run)
      ∙ ap (λ (z : Cell). target_of x.plan.linked z f) (sym then)))

  pub change_settles : (plan : Plan) → plan_of sources v asked ≡ Ok plan
      → All (λ c. IsTrue (holds (numbers_of made.world.cells) c.id.0) → All (λ f. target_of made.world (now_in made.world c) f ≡ target_of plan.linked (now_in plan.linked c) f) c.object.entries) v.cells
  change_settles plan p =
      subst (λ (y : Plan). All (λ c. IsTrue (holds (numbers_of made.world.cells) c.id.0) → All (λ f. target_of made.world (now_in made.world c) f ≡ target_of y.linked (now_in y.linked c) f) c.object.entries) v.cells)
      (ok_same x.plan plan (sym x.planned ∙ p))
      (In-All (λ (c : Cell). IsTrue (holds (numbers_of made.world.cells) c.id.0) → All (λ (f : Entry). target_of made.world (now_in made.world c) f ≡ target_of x.plan.linked (now_in x.plan.linked c) f) c.object.entries) v.cells
      (λ c i there. In-All (λ (f : Entry). target_of made.world (now_in made.world c) f ≡ target_of x.plan.linked (now_in x.plan.linked c) f) c.object.entries (settled c i there)))
