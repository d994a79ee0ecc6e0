-- An accepted recovery is the swap of its cells and the restart of the task.
use Rattle.std.proofs.Common.{◌≡◌, refl, sym, ◌∙◌, ap, ap₂, subst, arith, ℕ, ◌+◌, ◌<◌, true, false, not, ◌&&◌, List, [], ◌∷◌, ◌++◌, map, length, Option, Some, None, Ok}
use Rattle.std.specs.Prelude.{filter, filter_map, nat_le, nat_lt, ◌==◌}
use Rattle.std.specs.List.{cons_option, list_any}
use Rattle.std.proofs.lemmas.Bool.{and_parts, eqb-true, leb-true, ltb-true}
use Rattle.std.proofs.lemmas.List.{append-nil, append_assoc, length-map}
use Rattle.std.proofs.lemmas.List.Elements.{filter_map-append}
use Rattle.cell_num.specs.Lists.{In, or_else}
use Rattle.cell_num.specs.declared.ids.CellId.{CellId}
use Rattle.cell_object.specs.declared.object.Section.{Section as ObjectSection}
use Rattle.cell_world.specs.declared.refusal.Refusal.{Refusal}
use Rattle.cell_world.specs.declared.refusal.Refusal.TheVariants.{NoCrate, NotFaulted, Unknown}
use Rattle.cell_world.specs.declared.reply.Reply.{Reply}
use Rattle.cell_world.specs.declared.reply.Reply.TheVariants.{Recover, Rebuild}
use Rattle.cell_world.specs.World.{World, Cell, Region, Task, task_of, is_attached, is_ready}
use Rattle.cell_world.specs.Answer.{Done, done, live_task, numbers_of}
use Rattle.cell_world.specs.Change.{Change, Made, Plan, Want, first_held_old, made_by, make_change, old_of, plan_of, replaced, with_sequel}
use Rattle.cell_world.specs.Changed.{changed_fields, first_changed_misfit}
use Rattle.cell_world.specs.Commands.Asked.{exchange_reply, next_rebuild, next_recover, next_renewed, next_swap, renewal, renewals, renewing, swap_reply}
use Rattle.cell_world.specs.Commands.Recovery.{faulted_task, is_run_at, rebuild_of, recovery_of, runs_at}
use Rattle.cell_world.specs.Commands.SwapTransfer.{Begin, routines_in}
use Rattle.cell_world.specs.Gather.{Source, file_named, fresh_cells}
use Rattle.cell_world.specs.Linked.Linking.{link_refusal}
use Rattle.cell_world.specs.Linked.Relink.{relink}
use Rattle.cell_world.specs.Linked.Target.{start_of}
use Rattle.cell_world.specs.Outcome.{Outcome, ◌>>=◌, ◌>>◌, each, found, need, refused_by}
use Rattle.cell_world.specs.Running.Restart.{entry_again, restart, restart_by, restarted}
use Rattle.cell_world.specs.Torn.{first_torn}
use Rattle.cell_world.specs.Coherent.{AreSound, IsCoherent}
use Rattle.cell_num.proofs.Elements.{any-Has, found-In}
use Rattle.cell_lemmas.proofs.Outcomes.{bind_ok, found_ok, need_ok, then_ok}
use Rattle.cell_lemmas.proofs.Naming.Appended.{ok_same}
use Rattle.cell_lemmas.proofs.Fields.FieldsInside.{section_region}
use Rattle.cell_lemmas.proofs.Fields.Writes.{covered}
use Rattle.cell_lemmas.proofs.Placement.Distinct.{one_class}
use Rattle.cell_lemmas.proofs.Targeting.Present.{some_same}
use Rattle.cell_lemmas.proofs.Tasks.Stores.{one_covers}
use Rattle.cell_change_law.specs.Again.{BeginsAgain}
use Rattle.cell_change_law.specs.Sound.{HasCome, IsSound}
use Rattle.cell_change_law.proofs.Again.{begins_again}
use Rattle.cell_change_law.proofs.Asking.{AreAttached, rebuild_taken, recovery_taken, renewed_sound}
use Rattle.cell_change_law.proofs.Ending.{no_restart, no_routines, swept_is}
use Rattle.cell_change_law.proofs.EntryStays.{surely_begins}
use Rattle.cell_change_law.proofs.Planning.{plan_is}
use Rattle.cell_change_law.proofs.Steps.{Changed, Followed, Planned, changed, followed, planned}
use Rattle.cell_laws.specs.Recovery.{HasRenewed, own_item}
use Rattle.cell_laws.proofs.OwnItems.{items_renew}

-- the task is live, and has that number
faulted_live : (w : World) (number : ℕ) (t : Task) → faulted_task w number ≡ Ok t → task_of w t.number ≡ Some t
faulted_live w number t e =
    let a = bind_ok (live_task w number) _ t e in
    let b = then_ok (need (not (is_ready a.0)) (NotFaulted number)) _ t a.2 in
    let f = found_ok (task_of w number) _ a.0 a.1 in
    let own : a.0.number ≡ number = eqb-true a.0.number number (found-In (λ (x : Task). x.number == number) w.tasks a.0 f).1 in
    subst (λ (x : Task). task_of w x.number ≡ Some x) (ok_same a.0 t b.2) (ap (task_of w) own ∙ f)

-- the replaced cells of renewals are the cells themselves
renewed_olds : (sources : List Source) (cells : List Cell) (before wants : List Want) → each (λ wants c. renewal sources c >>= (λ want. Ok (wants ++ want ∷ []))) before cells ≡ Ok wants
    → filter_map (λ (want : Want). want.replaces) wants ≡ filter_map (λ (want : Want). want.replaces) before ++ cells
renewed_olds sources [] before wants e = ap (filter_map (λ (want : Want). want.replaces)) (sym (ok_same before wants e)) ∙ sym (append-nil (filter_map (λ (want : Want). want.replaces) before))
renewed_olds sources (c ∷ cells) before wants e =
    let a = bind_ok (renewal sources c >>= (λ want. Ok (before ++ want ∷ []))) _ wants e in
    let b = bind_ok (renewal sources c) _ a.0 a.1 in
    let f = bind_ok (found (file_named sources c.file) (Unknown c.file)) _ b.0 b.1 in
    let one : b.0.replaces ≡ Some c = ap (λ (want : Want). want.replaces) (sym (ok_same _ b.0 f.2)) in
    let now : filter_map (λ (want : Want). want.replaces) a.0 ≡ filter_map (λ (want : Want). want.replaces) before ++ c ∷ [] =
    ap (filter_map (λ (want : Want). want.replaces)) (sym (ok_same _ a.0 b.2))
    ∙ (filter_map-append (λ (want : Want). want.replaces) before (b.0 ∷ []) ∙ ap (λ (o : Option Cell). filter_map (λ (want : Want). want.replaces) before ++ cons_option o []) one) in
    renewed_olds sources cells a.0 wants a.2 ∙ (ap (λ (cs : List Cell). cs ++ cells) now ∙ append_assoc (filter_map (λ (want : Want). want.replaces) before) (c ∷ []) cells)

module _ (sources : List Source) (sound : AreSound sources) (w : World) (h : IsCoherent w) where
  module _ (t : Task) (live : task_of w t.number ≡ Some t) (cells : List Cell) (all : AreAttached w cells) (said : ℕ → List CellId → ℕ → List CellId → List CellId → Reply) (d : Done) where
    pub renewed : next_renewed sources w t cells said ≡ Ok d → HasRenewed sources w t cells said d
    renewed e =
        let n = then_ok (need (not (length cells == 0)) (NoCrate t.number t.pc)) _ d e in
        let a = bind_ok (renewals sources cells) _ d n.2 in
        let m = bind_ok (make_change sources w (renewing a.0 t.number)) _ d a.2 in
        with_wants (need_ok _ _ n.0 n.1) a.0 a.1 m.0 m.1 (ok_same _ d m.2)
      where
        some : (cs : List Cell) → not (length cs == 0) ≡ true → 0 < length cs
        some [] k = absurd cc
        some (c ∷ cs) k = omega arith

        with_wants : not (length cells == 0) ≡ true → (wants : List Want) → renewals sources cells ≡ Ok wants → (made : Made) → make_change sources w (renewing wants t.number) ≡ Ok made → record { reply = exchange_reply said made; world = made.world } ≡ d → HasRenewed sources w t cells said d
        with_wants n wants renews made making is =
            let asked : Change = renewing wants t.number in
            let s : Changed sources w asked made = changed sources w asked made making in
            let x : Planned sources w asked s.plan = planned sources w asked s.plan s.planned in
            let good : IsSound sources w asked = renewed_sound sources w h t cells all wants renews in
            let u = surely_begins sources sound w h asked good s.plan s.planned t live in
            let b : BeginsAgain w asked s.plan u.0 = begins_again sources w asked s.plan x u.0 u.1 in
            let task : b.task ≡ t = some_same b.task t (sym b.live ∙ live) in
            let f : Followed asked s.plan s.last = followed asked s.plan s.last s.run in
            let linked : f.second ≡ s.plan.linked = ok_same f.second s.plan.linked (sym f.run ∙ no_routines sources w asked s.plan refl s.planned) in
            let begun : u.0 ≡ restarted t b.entry = sym b.is ∙ ap (λ (y : Task). restarted y b.entry) task in
            let last : s.last ≡ restart (restarted t b.entry) s.plan.linked =
            sym f.begun ∙ (ap (λ (o : Option Task). restart_by o f.second) u.1 ∙ ap₂ (λ (y : Task) (v : World). restart y v) begun linked) in
            let olds : replaced asked ≡ cells = renewed_olds sources cells [] wants renews in
            let many : 0 < length cells = some cells n in
            let old_numbers : 0 < length (old_of asked) =
            omega (arith, many, ap (λ (cs : List Cell). length (numbers_of cs)) olds, length-map cells (λ (c : Cell). c.id.0)) in
            let said_is : made_by asked s.plan (restart (restarted t b.entry) s.plan.linked) ≡ made = ap (made_by asked s.plan) (sym last) ∙ s.is in
            record {
              some = many;
              wants = wants;
              renews = renews;
              olds = olds;
              plan = s.plan;
              planned = s.planned;
              entry = b.entry;
              begins = subst (λ (y : Task). entry_again s.plan.linked y ≡ Some b.entry) task b.there;
              reply = ap (exchange_reply said) said_is ∙ ap (λ (y : Done). y.reply) is;
              world = sym (swept_is (restart (restarted t b.entry) s.plan.linked) (old_of asked) old_numbers).1 ∙ (ap (λ (y : Made). y.world) said_is ∙ ap (λ (y : Done). y.world) is);
            }

  module _ (t : Task) (cells : List Cell) (all : AreAttached w cells) (said : ℕ → List CellId → ℕ → List CellId → List CellId → Reply) (d : Done) where
    -- the swap that it is
    module _ (budget : ℕ) (b : HasRenewed sources w t cells said d) where
      abbrev asked : Change
      asked = renewing b.wants t.number

      abbrev swap : Change
      swap = record { wants = b.wants; reexport = true; strict = false; routines = []; budget = budget; restarts = None; copies = [] }

      x : Planned sources w asked b.plan
      x = planned sources w asked b.plan b.planned

      abbrev plan_after : Option ℕ → List Begin → Plan
      plan_after stack begins =
          record {
            fresh = fresh_cells w.next_cell x.world;
            changed = changed_fields w x.world;
            linked = relink x.world;
            stack = stack;
            routines = routines_in x.world begins;
            restarted = None;
          }

      come : HasCome sources w swap x.world
      come = record { gathered = x.gathered; gathering = x.gathering; covered = x.covered; placing = x.placing }

      unrefused : link_refusal w x.world ≡ None
      unrefused =
          ap (λ (o : Option Refusal). or_else o (or_else (first_changed_misfit w x.world w.cells) (first_torn (changed_fields w x.world) (filter is_ready w.tasks)))) x.new_fit
          ∙ (ap (λ (o : Option Refusal). or_else o (first_torn (changed_fields w x.world) (filter is_ready w.tasks))) x.changed_fit ∙ x.untorn)

      same_plan : plan_after None [] ≡ record b.plan { restarted = None }
      same_plan = ap₂ plan_after (ok_same None x.stack x.stack_free) (ok_same [] x.begins x.begin_all) ∙ ap (λ (y : Plan). record y { restarted = None }) x.is

      planned_swap : plan_of sources w swap ≡ Ok (record b.plan { restarted = None })
      planned_swap =
          plan_is sources w swap x.world come [] None refl refl refl
          ∙ (ap (λ (o : Option Refusal). refused_by o >> (let y : Outcome Plan = Ok (plan_after None []) in y)) unrefused ∙ ap (λ (y : Plan). let z : Outcome Plan = Ok y in z) same_plan)

      abbrev after_sequel : Plan → World → Outcome Made
      after_sequel plan last = refused_by (first_held_old swap last) >> Ok (made_by swap plan last)

      abbrev after_plan : Plan → Outcome Made
      after_plan plan = with_sequel swap plan >>= after_sequel plan

      made_swap : make_change sources w swap ≡ Ok (made_by swap b.plan b.plan.linked)
      made_swap =
          ap (λ (o : Outcome Plan). o >>= after_plan) planned_swap
          ∙ ap (λ (o : Outcome World). o >>= after_sequel (record b.plan { restarted = None }))
          (no_restart sources w swap (record b.plan { restarted = None }) b.plan.linked refl planned_swap (no_routines sources w swap (record b.plan { restarted = None }) refl planned_swap))

      abbrev after_wants : List Want → Outcome Done
      after_wants wants = make_change sources w (record { wants = wants; reexport = true; strict = false; routines = []; budget = budget; restarts = None; copies = [] }) >>= (λ made. done (swap_reply made) made.world)

      pub swap_accepted : next_swap sources w (map (own_item w) cells) true false [] budget ≡ done (swap_reply (made_by asked b.plan b.plan.linked)) (made_by asked b.plan b.plan.linked).world
      swap_accepted =
          ap (λ (o : Outcome (List Want)). o >>= after_wants) (items_renew w h sources cells all ∙ b.renews)
          ∙ ap (λ (o : Outcome Made). o >>= (λ made. done (swap_reply made) made.world)) made_swap

-- executable bytes of two cells stand apart
pub runs_once : (w : World) → IsCoherent w → (pc : ℕ) (c d : Cell) → In c w.cells → In d w.cells → runs_at pc c ≡ true → runs_at pc d ≡ true → c ≡ d
runs_once w h pc c d i j p q = go (found_run c p) (found_run d q)
  where
    found_run : (x : Cell) → runs_at pc x ≡ true → (s : ObjectSection) × In s x.object.sections × (is_run_at pc x s ≡ true)
    found_run x e = any-Has (is_run_at pc x) x.object.sections (and_parts (is_attached x.standing) (list_any (is_run_at pc x) x.object.sections) e).1

    low : (x : Cell) (s : ObjectSection) → is_run_at pc x s ≡ true → (nat_le (start_of x.placed s.number) pc ≡ true) × (nat_lt pc (start_of x.placed s.number + s.size) ≡ true)
    low x s e =
        let a = and_parts (s.exec && nat_le (start_of x.placed s.number) pc) (nat_lt pc (start_of x.placed s.number + s.size)) e in
        ((and_parts s.exec (nat_le (start_of x.placed s.number) pc) a.0).1, a.1)

    go : (s : ObjectSection) × In s c.object.sections × (is_run_at pc c s ≡ true) → (s : ObjectSection) × In s d.object.sections × (is_run_at pc d s ≡ true) → c ≡ d
    go s t =
        let a = section_region w h.ready.regions h.ready.apart h.ready.placed h.ready.objects c i s.0 s.1 in
        let b = section_region w h.ready.regions h.ready.apart h.ready.placed h.ready.objects d j t.0 t.1 in
        let x = low c s.0 s.2 in
        let y = low d t.0 t.2 in
        let same = one_covers w.regions h.ready.apart a.0 b.0 pc a.1 b.1
        (covered a.0 pc (omega (arith, a.2, leb-true (start_of c.placed s.0.number) pc x.0)) (omega (arith, a.3, ltb-true pc (start_of c.placed s.0.number + s.0.size) x.1)))
        (covered b.0 pc (omega (arith, b.2, leb-true (start_of d.placed t.0.number) pc y.0)) (omega (arith, b.3, ltb-true pc (start_of d.placed t.0.number + t.0.size) y.1))) in
        (one_class w h.ready.regions h.ready.in_space h.ready.apart c d i j a.4.0 b.4.0 a.0.start a.4.1 (b.4.1 ∙ ap (λ (z : Region). Some z.start) (sym same))).0

module _ (sources : List Source) (sound : AreSound sources) (w : World) (h : IsCoherent w) (task : ℕ) (d : Done) where
  pub recovered : next_recover sources w task ≡ Ok d → (t : Task) × (faulted_task w task ≡ Ok t) × HasRenewed sources w t (recovery_of w t) (Recover task) d
  recovered e =
      let t = bind_ok (faulted_task w task) (λ t. next_renewed sources w t (recovery_of w t) (Recover task)) d e in
      (t.0, t.1, renewed sources sound w h t.0 (faulted_live w task t.0 t.1) (recovery_of w t.0) (recovery_taken w t.0) (Recover task) d t.2)

  pub rebuilt : next_rebuild sources w task ≡ Ok d → (t : Task) × (faulted_task w task ≡ Ok t) × HasRenewed sources w t (rebuild_of w t) (Rebuild task) d
  rebuilt e =
      let t = bind_ok (faulted_task w task) (λ t. next_renewed sources w t (rebuild_of w t) (Rebuild task)) d e in
      (t.0, t.1, renewed sources sound w h t.0 (faulted_live w task t.0 t.1) (rebuild_of w t.0) (rebuild_taken w t.0) (Rebuild task) d t.2)
