-- The machine with a change's new cells in their places is ready to be linked, where what is new and what changes fits.
use Rattle.std.proofs.Common.{◌≡◌, refl, sym, ◌∙◌, ap, subst, arith, ℕ, suc, ◌+◌, ◌≤◌, Bool, true, false, not, List, ◌++◌, length, Option, None, Ok}
use Rattle.std.specs.Prelude.{filter, is_some, unwrap_or, nat_lt}
use Rattle.std.specs.List.{list_all}
use Rattle.std.proofs.lemmas.Bool.{and_from}
use Rattle.cell_num.specs.Lists.{holds, In}
use Rattle.cell_world.specs.World.{World, Cell, Standing, cell_of, is_attached}
use Rattle.cell_world.specs.Names.{needs_of, provider_of, provider_for}
use Rattle.cell_world.specs.Placed.Place.{place_all}
use Rattle.cell_world.specs.Gather.{Source, first_lack, fresh_cells}
use Rattle.cell_world.specs.Linked.Fit.{first_misfit}
use Rattle.cell_world.specs.Changed.{now_in, first_changed_misfit}
use Rattle.cell_world.specs.Coherent.{AreSound, IsReady, IsCoherent, is_known_cell, is_supplied, is_fitting}
use Rattle.cell_lemmas.specs.Linkable.{IsLinkable}
use Rattle.cell_num.proofs.Elements.{Has, all-In, In-all, All-In, In-All, In-left, In-map, map-In, filter-In, map_same, some_has}
use Rattle.cell_lemmas.proofs.Naming.Known.{known_parts, named}
use Rattle.cell_lemmas.proofs.Naming.Attach.{Grows, provider_grown}
use Rattle.cell_lemmas.proofs.Naming.Supplied.{none_lacking}
use Rattle.cell_lemmas.proofs.Naming.Gathered.{Ranks, Extends}
use Rattle.cell_lemmas.proofs.Placement.Places.{Spaced}
use Rattle.cell_lemmas.proofs.Placement.PlacedAll.{Placed, all_placed}
use Rattle.cell_lemmas.proofs.Naming.Renamed.{provider_bare}
use Rattle.cell_lemmas.proofs.Placement.Ready.{IsBase, grown}
use Rattle.cell_lemmas.proofs.Placement.PlacedReady.{fresh_is, placed_grows, placed_linkable, placed_ready}
use Rattle.cell_lemmas.proofs.Placement.PlacedGrown.{placed_attached, placed_regrown}
use Rattle.cell_lemmas.proofs.Targeting.Present.{some_same}
use Rattle.cell_lemmas.proofs.Targeting.Targets.{In-find}
use Rattle.cell_lemmas.proofs.Holding.KeptPaths.{holds-In}
use Rattle.cell_lemmas.specs.Grown.{HasAttached, IsRegrown}
use Rattle.cell_lemmas.proofs.Fields.ChangedFits.{cell_fits}
use Rattle.cell_lemmas.proofs.Targeting.Detached.{put, put_same, put_out, own_needs}
use Rattle.cell_lemmas.proofs.Naming.SetAside.{new_group}
use Rattle.cell_world.specs.Change.{Change, replaced, old_of, gather, is_bystander, first_uncovered}
use Rattle.cell_change_law.specs.Sound.{IsSound}
use Rattle.cell_change_law.proofs.Gathering.{at, base_world, all_gathered, swaps_below}

-- a number finds one cell
module _ (v : World) (h : IsCoherent v) where
  pub one_number : (c d : Cell) → In c v.cells → In d v.cells → c.id.0 ≡ d.id.0 → c ≡ d
  one_number c d i j e = some_same c d (sym (In-find v.cells h.ready.cell_order c i) ∙ (ap (cell_of v) e ∙ In-find v.cells h.ready.cell_order d j))

module _ (sources : List Source) (sound : AreSound sources) (v : World) (h : IsCoherent v) (asked : Change) (good : IsSound sources v asked) (g : World) (gathering : gather sources v asked ≡ Ok g) (w : World)
    (placing : place_all g (fresh_cells v.next_cell g) ≡ Ok w) where
  abbrev pub ns : List ℕ
  ns = old_of asked

  abbrev pub base : World
  base = base_world sources sound v h asked good

  abbrev pub moved : Cell → Cell
  moved c = put (suc v.swaps) ns c

  pub set_attached : (c : Cell) → In c v.cells → holds ns c.id.0 ≡ true → is_attached c.standing ≡ true
  set_attached c i e =
      let x = In-map (λ (y : Cell). y.id.0) (replaced asked) c.id.0 (holds-In ns c.id.0 e) in
      subst (λ (y : Cell). is_attached y.standing ≡ true) (sym (one_number v h c x.0 i (All-In (λ (y : Cell). In y v.cells) (replaced asked) good.present x.0 x.1) x.2))
      (All-In (λ (y : Cell). is_attached y.standing ≡ true) (replaced asked) good.attached x.0 x.1)

  b : IsBase base
  b = (at sources sound v h asked good).base

  gathered : ((Ranks g × Extends base g) × (v.next_cell + length asked.wants ≤ g.next_cell)) × (first_lack g (fresh_cells v.next_cell g) ≡ None)
  gathered = all_gathered sources sound v h asked good g gathering

  extends : Extends base g
  extends = gathered.0.0.1

  back : g ≡ grown base (base.cells ++ extends.new) extends.next base.regions
  back = sym extends.is

  same : fresh_cells v.next_cell (grown base (base.cells ++ extends.new) extends.next base.regions) ≡ extends.new
  same = fresh_is base b extends.new extends.next extends.fresh

  ranks : Ranks (grown base (base.cells ++ extends.new) extends.next base.regions)
  ranks = subst Ranks back gathered.0.0.0

  lacks : first_lack (grown base (base.cells ++ extends.new) extends.next base.regions) extends.new ≡ None
  lacks =
      subst (λ (cs : List Cell). first_lack (grown base (base.cells ++ extends.new) extends.next base.regions) cs ≡ None) same
      (subst (λ (u : World). first_lack u (fresh_cells v.next_cell u) ≡ None) back gathered.1)

  places : place_all (grown base (base.cells ++ extends.new) extends.next base.regions) extends.new ≡ Ok w
  places =
      subst (λ (cs : List Cell). place_all (grown base (base.cells ++ extends.new) extends.next base.regions) cs ≡ Ok w) same
      (subst (λ (u : World). place_all u (fresh_cells v.next_cell u) ≡ Ok w) back placing)

  pub grows : Grows base w
  grows = placed_grows base b extends.new extends.next w ranks extends.attached extends.fresh lacks places

  pub behind : HasAttached base w (fresh_cells v.next_cell w)
  behind = placed_attached base b extends.new extends.next w ranks extends.attached extends.fresh places

  base_regrown : IsRegrown base w (fresh_cells v.next_cell w)
  base_regrown = placed_regrown base b extends.new extends.next w ranks extends.attached extends.fresh places

  pub placed : Placed g w
  placed = all_placed g (fresh_cells v.next_cell g) w (subst Spaced extends.is (record { in_space = b.in_space; apart = b.apart })) placing

  -- no task comes or goes
  pub same_tasks : w.tasks ≡ v.tasks
  same_tasks = ap (λ (u : World). u.tasks) placed.rest ∙ sym (ap (λ (u : World). u.tasks) extends.is)

  same_provider : (s : Standing) (m : ℕ) (name : List ℕ) → provider_for w s m name ≡ provider_for g s m name
  same_provider s m name = provider_bare g w (ap (λ (u : World). u.namespaces) placed.rest) placed.cells s m name

  -- where each cell that stays has what it needs
  module _ (covered : first_uncovered v asked g ≡ None) where
    -- an old cell has what it had
    old_supplied : (c : Cell) → In c v.cells → holds ns c.id.0 ≡ true → is_supplied w (moved c) ≡ true
    old_supplied c i e = In-all (λ name. is_some (provider_of w (moved c) name)) (needs_of (moved c).object) (λ name j. one name (subst (λ (xs : List (List ℕ)). In name xs) (put_same (suc v.swaps) ns (λ x. needs_of x.object) c refl) j))
      where
        there : nat_lt (moved c).ns (length v.namespaces) ≡ true
        there = put_same (suc v.swaps) ns (λ x. nat_lt x.ns (length v.namespaces)) c refl ∙ (known_parts v c (all-In (is_known_cell v) v.cells h.ready.cells c i)).ns

        one : (name : List ℕ) → In name (needs_of c.object) → is_some (provider_of w (moved c) name) ≡ true
        one name j =
            let had : Has (provider_of v c name) = some_has (provider_of v c name) (all-In (λ n. is_some (provider_of v c n)) (needs_of c.object) (all-In (is_supplied v) v.cells h.ready.supplied c i) name j) in
            let has : Has (provider_of w (moved c) name) = provider_grown base w grows (moved c).standing (moved c).ns there name (own_needs v (named v h) (suc v.swaps) ns (new_group v h) set_attached c i e name had) in
            ap is_some has.1

    -- and a bystander has what it needs
    bystander_supplied : (c : Cell) → In c v.cells → holds ns c.id.0 ≡ false → is_supplied w (moved c) ≡ true
    bystander_supplied c i e = subst (λ (x : Cell). is_supplied w x ≡ true) (sym (put_out (suc v.swaps) ns c e))
        (In-all (λ name. is_some (provider_of w c name)) (needs_of c.object) (λ name j. ap is_some (same_provider c.standing c.ns name) ∙ all-In (λ n. is_some (provider_of g c n)) (needs_of c.object) whole name j))
      where
        there : In c g.cells
        there = subst (λ (u : World). In c u.cells) extends.is (In-left base.cells extends.new c (subst (λ (x : Cell). In x base.cells) (put_out (suc v.swaps) ns c e) (map-In moved v.cells c i)))

        apart : is_bystander v asked c ≡ true
        apart = and_from (nat_lt c.id.0 v.next_cell) (not (holds ns c.id.0)) (known_parts v c (all-In (is_known_cell v) v.cells h.ready.cells c i)).number (ap not e)

        whole : list_all (λ name. is_some (provider_of g c name)) (needs_of c.object) ≡ true
        whole = none_lacking g (filter (is_bystander v asked) g.cells) covered c (filter-In (is_bystander v asked) g.cells c there apart)

    supplied : (z : Cell) → In z base.cells → is_supplied w z ≡ true
    supplied z m = let c = In-map moved v.cells z m in subst (λ (x : Cell). is_supplied w x ≡ true) (sym c.2) (go c.0 c.1 (holds ns c.0.id.0) refl)
      where
        go : (c : Cell) → In c v.cells → (a : Bool) → holds ns c.id.0 ≡ a → is_supplied w (moved c) ≡ true
        go c i true e = old_supplied c i e
        go c i false e = bystander_supplied c i e

    pub change_linkable : IsLinkable w
    change_linkable = placed_linkable base b extends.new extends.next w ranks extends.attached extends.fresh lacks places supplied

    -- each cell of v is in w with another standing
    pub now_is : (c : Cell) → In c v.cells → now_in w c ≡ moved c
    now_is c i =
        let there : In (moved c) w.cells = subst (In (moved c)) (sym behind.cells) (In-left base.cells (fresh_cells v.next_cell w) (moved c) (map-In moved v.cells c i)) in
        ap (λ (o : Option Cell). unwrap_or o c)
        (ap (cell_of w) (sym (put_same (suc v.swaps) ns (λ x. x.id.0) c refl)) ∙ In-find w.cells change_linkable.cell_order (moved c) there)

    pub change_regrown : IsRegrown v w (fresh_cells v.next_cell w)
    change_regrown = record {
      cells = behind.cells ∙ ap (λ (cs : List Cell). cs ++ fresh_cells v.next_cell w) (map_same moved (now_in w) v.cells (λ c i. sym (now_is c i)));
      same = In-All (λ (c : Cell). (now_in w c).placed ≡ c.placed) v.cells (λ c i. ap (λ (x : Cell). x.placed) (now_is c i) ∙ put_same (suc v.swaps) ns (λ x. x.placed) c refl);
      old = base_regrown.old;
      regions = base_regrown.regions;
      starts = base_regrown.starts;
    }

    -- what changes fits, and so does what doesn't
    module _ (fit : first_changed_misfit v w v.cells ≡ None) where
      fitting : (z : Cell) → In z base.cells → is_fitting w z ≡ true
      fitting z m = let c = In-map moved v.cells z m in subst (λ (x : Cell). is_fitting w x ≡ true) (now_is c.0 c.1 ∙ sym c.2) (cell_fits v w (fresh_cells v.next_cell w) h.ready change_linkable change_regrown fit c.0 c.1)

      pub change_ready : first_misfit w (fresh_cells v.next_cell w) ≡ None → IsReady w
      change_ready new_fit =
          placed_ready base b extends.new extends.next w ranks extends.attached extends.fresh lacks places supplied
          (omega (arith, swaps_below sources sound v h asked good g gathering, ap (λ (u : World). u.next_cell) extends.is)) fitting new_fit
