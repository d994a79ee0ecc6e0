-- A change without routines and without a task that begins again, an accepted load and an accepted clone leave the footprint of each namespace in
-- whose chain none of their cells stands.
use Rattle.std.proofs.Common.{◌≡◌, refl, sym, ◌∙◌, ap, subst, arith, ℕ, suc, ◌<◌, Bool, true, false, ◌&&◌, List, [], ◌∷◌, length, length-append, true≢false, None, Ok}
use Rattle.std.specs.Prelude.{All, filter}
use Rattle.std.proofs.lemmas.Bool.{ltb-true, lt-ltb, false_from_ne_true}
use Rattle.cell_num.specs.Lists.{holds, In}
use Rattle.cell_world.specs.declared.refusal.Refusal.TheVariants.{NoObject}
use Rattle.cell_world.specs.declared.command.SwapItem.{SwapItem}
use Rattle.cell_world.specs.World.{World, Cell, is_attached}
use Rattle.cell_world.specs.Answer.{Done, space_of}
use Rattle.cell_world.specs.Names.{chain}
use Rattle.cell_world.specs.Gather.{Source, depot_files, fresh_cells, one_file}
use Rattle.cell_world.specs.Commands.Asked.{next_clone, next_load, next_swap, wants_of}
use Rattle.cell_world.specs.Commands.UnloadCommand.{without_cells}
use Rattle.cell_world.specs.Change.{Change, Made, Plan, Want, garbage_after, make_change, old_of, plan_of, replaced}
use Rattle.cell_world.specs.Changed.{now_in}
use Rattle.cell_world.specs.Coherent.{AreSound, IsCoherent, is_known_cell}
use Rattle.cell_num.proofs.Elements.{all-In, All-In, In-All, In-map}
use Rattle.cell_lemmas.proofs.Outcomes.{bind_ok}
use Rattle.cell_lemmas.proofs.Naming.Appended.{ok_same}
use Rattle.cell_lemmas.proofs.Naming.Known.{known_parts}
use Rattle.cell_lemmas.proofs.Naming.Spaces.{chain_stays, child}
use Rattle.cell_lemmas.proofs.Placement.Freed.{same_cell}
use Rattle.cell_lemmas.proofs.Holding.KeptPaths.{holds-In}
use Rattle.cell_lemmas.proofs.Targeting.Detached.{put_out}
use Rattle.cell_change_law.specs.Sound.{IsSound}
use Rattle.cell_change_law.specs.Cloned.{HasCloned}
use Rattle.cell_change_law.proofs.Asking.{asked, base_coherent, clone_base, clone_change, clone_sound, cloned, good, swap_sound}
use Rattle.cell_change_law.proofs.Ending.{last_coherent, no_restart, no_routines, without_none}
use Rattle.cell_change_law.proofs.Placing.{grows, now_is, same_tasks}
use Rattle.cell_change_law.proofs.Steps.{Changed, Planned, changed, plan_ready, plan_regrown, planned}
use Rattle.cell_isolation_laws.specs.Footprint.{footprint, footprint_of}
use Rattle.cell_isolation_laws.proofs.Copies.{hidden_from, lower_in}
use Rattle.cell_isolation_laws.proofs.Isolated.{footprint_linked}
use Rattle.cell_isolation_laws.proofs.Purged.{footprint_purged}

range_in : (w : World) → IsCoherent w → (c : Cell) → In c w.cells → c.ns < length w.namespaces
range_in w h c i = ltb-true c.ns (length w.namespaces) (known_parts w c (all-In (is_known_cell w) w.cells h.ready.cells c i)).ns

-- what goes at a change's end is in no footprint
footprint_swept : (w : World) → IsCoherent w → (ns : ℕ) (old : List ℕ) → footprint (without_cells w (garbage_after old w)) ns ≡ footprint w ns
footprint_swept w h ns [] = ap (λ (x : World). footprint x ns) (without_none w)
footprint_swept w h ns (n ∷ old) = footprint_purged w h ns

module _ (sources : List Source) (sound : AreSound sources) (v : World) (h : IsCoherent v) (c : Change) (s : IsSound sources v c) (ns : ℕ) (there : ns < length v.namespaces)
    (none : c.routines ≡ []) (calm : c.restarts ≡ None) (olds : All (λ d. holds (chain v.namespaces ns) d.ns ≡ false) (replaced c)) where
  module _ (plan : Plan) (e : plan_of sources v c ≡ Ok plan) (news : All (λ d. holds (chain v.namespaces ns) d.ns ≡ false) plan.fresh) where
    x : Planned sources v c plan
    x = planned sources v c plan e

    kept : (d : Cell) → In d v.cells → holds (chain v.namespaces ns) d.ns ≡ true → now_in x.world d ≡ d
    kept d i on =
        now_is sources sound v h c s x.gathered x.gathering x.world x.placing x.covered d i
        ∙ put_out (suc v.swaps) (old_of c) d (false_from_ne_true (holds (old_of c) d.id.0) (λ o.
        let y = In-map (λ (z : Cell). z.id.0) (replaced c) d.id.0 (holds-In (old_of c) d.id.0 o) in
        let equal : d ≡ y.0 = same_cell v.cells h.ready.cell_order d y.0 i (All-In (λ (old : Cell). In old v.cells) (replaced c) s.present y.0 y.1) y.2 in
        true≢false (sym on ∙ (ap (λ (k : Cell). holds (chain v.namespaces ns) k.ns) equal ∙ All-In (λ (k : Cell). holds (chain v.namespaces ns) k.ns ≡ false) (replaced c) olds y.0 y.1))))

    hidden : (d : Cell) → In d (fresh_cells v.next_cell x.world) → holds (chain v.namespaces ns) d.ns ≡ false
    hidden d i = All-In (λ (y : Cell). holds (chain v.namespaces ns) y.ns ≡ false) plan.fresh news d (subst (λ (y : Plan). In d y.fresh) x.is i)

    pub plan_isolated : footprint plan.linked ns ≡ footprint v ns
    plan_isolated =
        ap (λ (y : Plan). footprint y.linked ns) (sym x.is)
        ∙ footprint_linked v x.world (fresh_cells v.next_cell x.world) h (plan_ready sources sound v h c s plan x) (plan_regrown sources sound v h c s plan x) ns there (lower_in v h)
        (λ k l. (grows sources sound v h c s x.gathered x.gathering x.world x.placing).spaces k (lt-ltb k (length v.namespaces) l)) (range_in v h) kept hidden
        (same_tasks sources sound v h c s x.gathered x.gathering x.world x.placing)

  module _ (made : Made) (e : make_change sources v c ≡ Ok made) where
    y : Changed sources v c made
    y = changed sources v c made e

    last_is : y.last ≡ y.plan.linked
    last_is = ok_same y.last y.plan.linked (sym y.run ∙ no_restart sources v c y.plan y.plan.linked calm y.planned (no_routines sources v c y.plan none y.planned))

    pub change_isolated : All (λ d. holds (chain v.namespaces ns) d.ns ≡ false) made.fresh → footprint made.world ns ≡ footprint v ns
    change_isolated news =
        ap (λ (m : Made). footprint m.world ns) (sym y.is)
        ∙ (footprint_swept y.last (last_coherent sources sound v h c s y.plan y.planned y.last y.run) ns (old_of c)
        ∙ (ap (λ (u : World). footprint u ns) last_is
        ∙ plan_isolated y.plan y.planned (subst (λ (m : Made). All (λ d. holds (chain v.namespaces ns) d.ns ≡ false) m.fresh) (sym y.is) news)))

-- the new cells of a change that replaces none are those of numbers from there on
module _ (sources : List Source) (v : World) (c : Change) (none : c.routines ≡ []) (calm : c.restarts ≡ None) (alone : old_of c ≡ []) (made : Made) (e : make_change sources v c ≡ Ok made) where
  fresh_made : fresh_cells v.next_cell made.world ≡ made.fresh
  fresh_made =
      let y : Changed sources v c made = changed sources v c made e in
      let x : Planned sources v c y.plan = planned sources v c y.plan y.planned in
      let last : y.last ≡ y.plan.linked = ok_same y.last y.plan.linked (sym y.run ∙ no_restart sources v c y.plan y.plan.linked calm y.planned (no_routines sources v c y.plan none y.planned)) in
      ap (λ (m : Made). fresh_cells v.next_cell m.world) (sym y.is)
      ∙ (ap (λ (old : List ℕ). fresh_cells v.next_cell (without_cells y.last (garbage_after old y.last))) alone
      ∙ (ap (fresh_cells v.next_cell) (without_none y.last)
      ∙ (ap (fresh_cells v.next_cell) last
      ∙ (ap (λ (p : Plan). fresh_cells v.next_cell p.linked) (sym x.is)
      ∙ (ap (λ (p : Plan). p.fresh) x.is ∙ ap (λ (m : Made). m.fresh) y.is)))))

module _ (sources : List Source) (sound : AreSound sources) (w : World) (h : IsCoherent w) (ns : ℕ) (there : ns < length w.namespaces) where
  pub load_isolated : (name stem : List ℕ) (d : Done) → next_load sources w name stem ≡ Ok d → All (λ c. holds (chain w.namespaces ns) c.ns ≡ false) (fresh_cells w.next_cell d.world) → footprint d.world ns ≡ footprint w ns
  load_isolated name stem d e hidden =
      let a = bind_ok (space_of w name) _ d e in
      let f = bind_ok (one_file (depot_files sources name stem) (NoObject stem)) _ d a.2 in
      let m = bind_ok (make_change sources w (asked sources sound w h name stem a.0 f.0 a.1 f.1)) _ d f.2 in
      let is : m.0.world ≡ d.world = ap (λ (x : Done). x.world) (ok_same _ d m.2) in
      ap (λ (x : World). footprint x ns) (sym is)
      ∙ change_isolated sources sound w h (asked sources sound w h name stem a.0 f.0 a.1 f.1) (good sources sound w h name stem a.0 f.0 a.1 f.1) ns there refl refl (In-All (λ (c : Cell). holds (chain w.namespaces ns) c.ns ≡ false) [] (λ c i. absurd i)) m.0 m.1
      (subst (λ (cells : List Cell). All (λ c. holds (chain w.namespaces ns) c.ns ≡ false) cells)
      (ap (fresh_cells w.next_cell) (sym is) ∙ fresh_made sources w (asked sources sound w h name stem a.0 f.0 a.1 f.1) refl refl refl m.0 m.1) hidden)

  module _ (items : List SwapItem) (reexport strict : Bool) (budget : ℕ) (wants : List Want) (want : wants_of sources w items ≡ Ok wants) where
    abbrev swapping : List Want → Change
    swapping all = record { wants = all; reexport = reexport; strict = strict; routines = []; budget = budget; restarts = None; copies = [] }

    pub swap_isolated : (made : Made) (d : Done) → make_change sources w (swapping wants) ≡ Ok made → next_swap sources w items reexport strict [] budget ≡ Ok d
        → All (λ c. holds (chain w.namespaces ns) c.ns ≡ false) (replaced (swapping wants)) → All (λ c. holds (chain w.namespaces ns) c.ns ≡ false) made.fresh → footprint d.world ns ≡ footprint w ns
    swap_isolated made d making accepted olds news =
        let a = bind_ok (wants_of sources w items) _ d accepted in
        let m = bind_ok (make_change sources w (swapping a.0)) _ d a.2 in
        let all : a.0 ≡ wants = ok_same a.0 wants (sym a.1 ∙ want) in
        let one : m.0 ≡ made = ok_same m.0 made (sym m.1 ∙ (ap (λ (xs : List Want). make_change sources w (swapping xs)) all ∙ making)) in
        let is : m.0.world ≡ d.world = ap (λ (x : Done). x.world) (ok_same _ d m.2) in
        ap (λ (x : World). footprint x ns) (sym is ∙ ap (λ (x : Made). x.world) one)
        ∙ change_isolated sources sound w h (swapping wants) (swap_sound sources w h items (swapping wants) refl want) ns there refl refl olds made making news

  module _ (name sibling : List ℕ) (d : Done) (e : next_clone sources w name sibling ≡ Ok d) where
    k : HasCloned sources w name sibling d
    k = cloned sources w name sibling d e

    abbrev base : World
    base = clone_base sources w h sibling k.may

    stays : chain base.namespaces ns ≡ chain w.namespaces ns
    stays = chain_stays w h.ready.spaces sibling k.parent ns (lt-ltb ns (length w.namespaces) there)

    -- one more namespace leaves it
    footprint_base : footprint base ns ≡ footprint w ns
    footprint_base = ap (λ (xs : List ℕ). footprint_of w (filter (λ x. is_attached x.standing && holds xs x.ns) w.cells)) stays

    further : ns < length base.namespaces
    further = omega (arith, there, length-append w.namespaces (child sibling k.parent ∷ []))

    news : All (λ c. holds (chain base.namespaces ns) c.ns ≡ false) k.made.fresh
    news = In-All (λ (c : Cell). holds (chain base.namespaces ns) c.ns ≡ false) k.made.fresh (λ c i. hidden_from sources w h name sibling d k sound ns there c i)

    pub clone_isolated : footprint d.world ns ≡ footprint w ns
    clone_isolated =
        ap (λ (x : World). footprint x ns) (sym k.world)
        ∙ (change_isolated sources sound base (base_coherent sources w h sibling k.may) (clone_change sources w h sibling k.may) (clone_sound sources w h sibling k.may) ns further refl refl
        (In-All (λ (c : Cell). holds (chain base.namespaces ns) c.ns ≡ false) [] (λ c i. absurd i)) k.made k.making news
        ∙ footprint_base)
