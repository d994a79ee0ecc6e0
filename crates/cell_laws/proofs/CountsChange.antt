-- A change says how many cells come and go: the replaced ones are put aside, new ones appended, and what names, places and routines do leaves their numbers.
use Rattle.std.proofs.Common.{◌≡◌, refl, sym, ◌∙◌, ap, subst, arith, ℕ, suc, Bool, true, false, not, cond, List, [], ◌∷◌, ◌+◌, ◌≤◌, map, length, Option, Some, None, Ok}
use Rattle.std.specs.Prelude.{fold, nat_lt, ◌==◌, option_and_then}
use Rattle.cell_num.specs.Lists.{each_pair}
use Rattle.cell_num.specs.declared.ids.CellId.{CellId}
use Rattle.cell_world.specs.declared.command.SwapItem.{SwapItem}
use Rattle.cell_world.specs.declared.reply.Reply.{Reply}
use Rattle.cell_world.specs.declared.reply.Reply.TheVariants.{Recover, Rebuild}
use Rattle.cell_world.specs.declared.refusal.Refusal.TheVariants.{NoCrate, NoObject}
use Rattle.cell_world.specs.World.{World, Cell, Alias, Task, cell_of}
use Rattle.cell_world.specs.Answer.{Done, fresh_by, ids, numbers_of, space_of}
use Rattle.cell_world.specs.Commands.Asked.{next_clone, next_load, next_swap, next_recover, next_rebuild, next_renewed, exchange_reply, renewals, renewing, wants_of}
use Rattle.cell_world.specs.Commands.Recovery.{faulted_task, rebuild_of, recovery_of}
use Rattle.cell_world.specs.Change.{Change, Made, Plan, Want, adding, append_copy, append_want, exchanges_from, garbage_after, gather, make_change, old_of, set_aside, swapped_out, with_names}
use Rattle.cell_world.specs.Coherent.{IsCoherent}
use Rattle.cell_world.specs.Gather.{Source, bring, depot_files, fresh_cells, one_file}
use Rattle.cell_num.specs.Limits.{max_cells}
use Rattle.cell_world.specs.Names.{names_of}
use Rattle.cell_world.specs.Outcome.{each, need}
use Rattle.cell_world.specs.Reexport.{heir_of, take_on, with_alias, with_reexports}
use Rattle.cell_world.specs.Commands.UnloadCommand.{put_aside, without_cells}
use Rattle.cell_lemmas.proofs.Naming.Appended.{ok_same}
use Rattle.cell_lemmas.proofs.Outcomes.{bind_ok, then_ok}
use Rattle.cell_lemmas.proofs.Placement.PlacedAll.{each_keeps}
use Rattle.cell_lemmas.proofs.Naming.PutAside.{put_number}
use Rattle.cell_lemmas.proofs.Naming.Reexported.{renamed_same}
use Rattle.cell_change_law.proofs.Asking.{base_coherent, clone_base, clone_change, cloned}
use Rattle.cell_change_law.proofs.Ending.{last_parts, without_none}
use Rattle.cell_change_law.proofs.Steps.{Changed, Planned, changed, planned}
use Rattle.cell_laws.specs.Counts.{removed_by}
use Rattle.cell_laws.proofs.Counted.{Counted, CountedIn, CountsCells, all_counted, begins, cells_rise, few_counted, numbers_mapped}
use Rattle.cell_laws.proofs.CountsLoad.{append_counted, bring_counted, copy_counted, placed_counted}
use Rattle.cell_laws.proofs.CountsRemoval.{purged_counted}

fold_keeps : {X A : Type 0} (P : X → Type 0) (f : X → A → X) → ((x : X) (a : A) → P x → P (f x a)) → (items : List A) (x : X) → P x → P (fold f x items)
fold_keeps P f step [] x p = p
fold_keeps P f step (a ∷ items) x p = fold_keeps P f step items (f x a) (step x a p)

module _ {from had : ℕ} where
  -- a name that is taken on leaves the numbers
  named_counted : (number : ℕ) (u : World) (old : Alias) → CountedIn from had u → CountedIn from had (take_on number u old)
  named_counted number u old c = go (option_and_then (λ c. heir_of u c old.name) (cell_of u number))
    where
      go : (o : Option ℕ) → CountedIn from had (elim o as (λ _. World) [ None ↦ u | Some symbol ↦ record u { cells = map (with_alias number (record { name = old.name; symbol = symbol })) u.cells } ])
      go None = c
      go (Some symbol) = subst (λ (numbers : List ℕ). Counted from had numbers u.next_cell) (sym (numbers_mapped _ (λ d. renamed_same number _ (λ x. x.id.0) d refl) u.cells)) c

  names_counted : (first : ℕ) (asked : Change) (u : World) → CountedIn from had u → CountedIn from had (with_names first asked u)
  names_counted first asked u c = go asked.reexport
    where
      go : (b : Bool) → CountedIn from had (cond b (with_reexports u (exchanges_from first asked.wants)) u)
      go false = c
      go true =
          fold_keeps (CountedIn from had) (λ v x. fold (take_on x.fresh) v (names_of x.old))
          (λ v x k. fold_keeps (CountedIn from had) (take_on x.fresh) (named_counted x.fresh) (names_of x.old) v k) (exchanges_from first asked.wants) u c

module _ (sources : List Source) (w : World) (h : IsCoherent w) where
  abbrev IsCounted : World → Type 0
  IsCounted = CountedIn w.next_cell (length w.cells)

  aside_counted : (old : List ℕ) → IsCounted (swapped_out w old)
  aside_counted [] = begins w h
  aside_counted (n ∷ old) =
      subst (λ (numbers : List ℕ). Counted w.next_cell (length w.cells) numbers w.next_cell)
      (sym (numbers_mapped (put_aside (suc w.swaps) (n ∷ old)) (put_number (suc w.swaps) (n ∷ old)) w.cells)) (begins w h)

  module _ (asked : Change) where
    gathered_counted : (v : World) → gather sources w asked ≡ Ok v → IsCounted v
    gathered_counted v e =
        let a = bind_ok (each append_want (set_aside w asked) asked.wants) _ v e in
        let appended = each_keeps IsCounted append_want (λ u want x k c. append_counted u want.file want.ns x k c) asked.wants (set_aside w asked) a.0 a.1 (aside_counted (old_of asked)) in
        let b = bind_ok (bring sources w.next_cell (with_names w.next_cell asked a.0)) _ v a.2 in
        each_keeps IsCounted append_copy copy_counted asked.copies b.0 v b.2 (bring_counted sources (with_names w.next_cell asked a.0) b.0 b.1 (names_counted w.next_cell asked a.0 appended))

    module _ (made : Made) (e : make_change sources w asked ≡ Ok made) where
      c : Changed sources w asked made
      c = changed sources w asked made e

      x : Planned sources w asked c.plan
      x = planned sources w asked c.plan c.planned

      placed : Counted w.next_cell (length w.cells) (numbers_of x.world.cells) x.gathered.next_cell
      placed = placed_counted x.gathered (fresh_cells w.next_cell x.gathered) x.world x.placing (gathered_counted x.gathered x.gathering)

      -- linking, the routines and a task that begins again leave the cells
      same : c.last.cells ≡ x.world.cells
      same = ap (λ (u : World). u.cells) (last_parts asked c.plan c.last c.run) ∙ ap (λ (p : Plan). p.linked.cells) (sym x.is)

      rises : each_pair (λ (a b : Cell). nat_lt a.id.0 b.id.0) c.last.cells ≡ true
      rises = subst (λ (cells : List Cell). each_pair (λ (a b : Cell). nat_lt a.id.0 b.id.0) cells ≡ true) (sym same) (cells_rise x.world.cells placed)

      counted : length c.last.cells ≡ length w.cells + length (ids (numbers_of c.plan.fresh))
      counted =
          ap (λ (cells : List Cell). length cells) same
          ∙ (all_counted x.world.cells placed ∙ ap (λ (p : Plan). length w.cells + length (ids (numbers_of p.fresh))) x.is)

      few : length c.last.cells ≤ max_cells
      few = omega (arith, ap (λ (cells : List Cell). length cells) same, few_counted x.world.cells placed)

      swept : (old : List ℕ) → length (without_cells c.last (garbage_after old c.last)).cells + length (ids (garbage_after old c.last)) ≡ length c.last.cells
      swept [] = omega (arith, ap (λ (u : World). length u.cells) (without_none c.last))
      swept (n ∷ old) = purged_counted c.last rises

      -- as many cells more as are new, less those that went
      pub made_counted : (length made.world.cells + length (ids made.removed) ≡ length w.cells + length (ids (numbers_of made.fresh))) × (length w.cells + length (ids (numbers_of made.fresh)) ≤ max_cells)
      made_counted =
          subst (λ (m : Made). (length m.world.cells + length (ids m.removed) ≡ length w.cells + length (ids (numbers_of m.fresh))) × (length w.cells + length (ids (numbers_of m.fresh)) ≤ max_cells)) c.is
          (omega (arith, swept (old_of asked), counted), omega (arith, counted, few))

  pub load_counts : (name stem : List ℕ) (d : Done) → next_load sources w name stem ≡ Ok d → CountsCells w d
  load_counts name stem d e =
      let s = bind_ok (space_of w name) _ d e in
      let f = bind_ok (one_file (depot_files sources name stem) (NoObject stem)) _ d s.2 in
      let want : Want = record { file = f.0; ns = s.0; replaces = None } in
      let asked : Change = adding (want ∷ []) in
      let m = bind_ok (make_change sources w asked) _ d f.2 in
      let n = made_counted asked m.0 m.1 in
      let none : length (ids m.0.removed) ≡ 0 = ap (λ (x : Made). length (ids x.removed)) (sym (changed sources w asked m.0 m.1).is) in
      subst (CountsCells w) (ok_same _ d m.2) (record { counted = omega (arith, n.0, none); room = n.1 })

  pub swap_counts : (items : List SwapItem) (reexport strict : Bool) (words : List (List ℕ)) (budget : ℕ) (d : Done) → next_swap sources w items reexport strict words budget ≡ Ok d → CountsCells w d
  swap_counts items reexport strict words budget d e =
      let a = bind_ok (wants_of sources w items) _ d e in
      let asked : Change = record { wants = a.0; reexport = reexport; strict = strict; routines = words; budget = budget; restarts = None; copies = [] } in
      let m = bind_ok (make_change sources w asked) _ d a.2 in
      let n = made_counted asked m.0 m.1 in
      subst (CountsCells w) (ok_same _ d m.2) (record { counted = n.0; room = n.1 })

  -- a recovery answers by what its change has made
  module _ (task : Task) (cells : List Cell) (d : Done) where
    renewed_counts : (said : ℕ → List CellId → ℕ → List CellId → List CellId → Reply) → next_renewed sources w task cells said ≡ Ok d
        → ((made : Made) → fresh_by (exchange_reply said made) ≡ ids (numbers_of made.fresh)) → ((made : Made) → removed_by (exchange_reply said made) ≡ ids made.removed) → CountsCells w d
    renewed_counts said e fresh removed =
        let n = then_ok (need (not (length cells == 0)) (NoCrate task.number task.pc)) _ d e in
        let a = bind_ok (renewals sources cells) _ d n.2 in
        let m = bind_ok (make_change sources w (renewing a.0 task.number)) _ d a.2 in
        let c = made_counted (renewing a.0 task.number) m.0 m.1 in
        subst (CountsCells w) (ok_same _ d m.2) (record {
          counted = omega (arith, c.0, ap (λ (xs : List CellId). length xs) (fresh m.0), ap (λ (xs : List CellId). length xs) (removed m.0));
          room = omega (arith, c.1, ap (λ (xs : List CellId). length xs) (fresh m.0));
        })

  pub recover_counts : (task : ℕ) (d : Done) → next_recover sources w task ≡ Ok d → CountsCells w d
  recover_counts task d e = let t = bind_ok (faulted_task w task) _ d e in renewed_counts t.0 (recovery_of w t.0) d (Recover task) t.2 (λ made. refl) (λ made. refl)

  pub rebuild_counts : (task : ℕ) (d : Done) → next_rebuild sources w task ≡ Ok d → CountsCells w d
  rebuild_counts task d e = let t = bind_ok (faulted_task w task) _ d e in renewed_counts t.0 (rebuild_of w t.0) d (Rebuild task) t.2 (λ made. refl) (λ made. refl)

-- of the machine that has the namespace already, which has the same cells
pub clone_counts : (sources : List Source) (w : World) → IsCoherent w → (name sibling : List ℕ) (d : Done) → next_clone sources w name sibling ≡ Ok d → CountsCells w d
clone_counts sources w h name sibling d e =
    let k = cloned sources w name sibling d e in
    let base = clone_base sources w h sibling k.may in
    let asked = clone_change sources w h sibling k.may in
    let n = made_counted sources base (base_coherent sources w h sibling k.may) asked k.made k.making in
    let none : length (ids k.made.removed) ≡ 0 = ap (λ (x : Made). length (ids x.removed)) (sym (changed sources base asked k.made k.making).is) in
    let now : length k.made.world.cells ≡ length d.world.cells = ap (λ (x : World). length x.cells) k.world in
    let fresh : length (ids (numbers_of k.made.fresh)) ≡ length (fresh_by d.reply) = ap (λ (x : Reply). length (fresh_by x)) k.reply in
    let gone : 0 ≡ length (removed_by d.reply) = ap (λ (x : Reply). length (removed_by x)) k.reply in
    record { counted = omega (arith, n.0, none, now, fresh, gone); room = omega (arith, n.1, fresh) }
