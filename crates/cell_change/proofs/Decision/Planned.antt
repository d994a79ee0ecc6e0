-- The plan of a change, once all its steps are taken.
use Rattle.std.proofs.Common.{◌≡◌, sym, ◌∙◌, ap, ap₂, subst, arith, ◌+◌, ◌*◌, ◌<◌, ◌^◌, List, [], ◌++◌, map}
use Rattle.std.specs.Prelude.{All, Contains, None, Ok, filter, flat_map}
use Rattle.std.proofs.lemmas.List.{map-append}
use Rattle.std.proofs.lemmas.List.Concat.{flat_map-append}
use Rattle.cell_num.specs.declared.ids.SecKey.{SecKey}
use Rattle.cell_object.specs.declared.object.Entry.{Entry}
use Rattle.cell_world.specs.declared.file.File.{File}
use Rattle.cell_world.specs.declared.layout.Starts.{Starts}
use Rattle.cell_world.specs.declared.state.LinkRow.{LinkRow}
use Rattle.cell_commit.specs.Rewiring.{IsRewiring}
use Rattle.cell_world.specs.declared.state.NewCell.{NewCell}
use Rattle.cell_world.specs.Changed.{changed_fields, is_changed, now_in}
use Rattle.cell_world.specs.Linked.Field.{fields_of}
use Rattle.cell_world.specs.Coherent.{IsReady}
use Rattle.cell_world.specs.Linked.Fit.{first_misfit}
use Rattle.cell_world.specs.Gather.{fresh_cells}
use Rattle.cell_world.specs.Outcome.{Outcome}
use Rattle.cell_world.specs.Placed.Place.{page_table}
use Rattle.cell_world.specs.Linked.Relink.{Patch, relink}
use Rattle.cell_world.specs.Change.{first_uncovered}
use Rattle.cell_world.specs.Linked.Target.{targets_of}
use Rattle.cell_world.specs.World.{Cell, Region, World}
use Rattle.cell_lemmas.specs.Grown.{links_from, patch_at}
use Rattle.cell_num.specs.Lists.{In}
use Rattle.cell_num.proofs.Elements.{In-All, In-filtered, In-flat_map, In-map, In-left}
use Rattle.cell_lemmas.proofs.Fields.FieldsInside.{among-In}
use Rattle.cell_lemmas.specs.Loads.{ManyTaken, all_regions, objects_of, placed_after, placed_cells, take_all}
use Rattle.cell_lemmas.specs.LinkSteps.{LinkStep, afters, link_steps}
use Rattle.cell_lemmas.proofs.Links.LinkSteps.{links_after}
use Rattle.cell_change.proofs.Decision.Came.{came_linkable, came_now}
use Rattle.cell_space.specs.Joined.{placed_of}
use Rattle.cell_commit.specs.Commit.{IsMapped, all_mapped}
use Rattle.cell_link.specs.declared.value.FieldValue.{FieldValue}
use Rattle.cell_link.specs.Linked.{value_at}
use Rattle.cell_gather.specs.declared.gathering.Gathered.{Gathered}
use Rattle.cell_machine.specs.declared.machine.Machine.{Machine}
use Rattle.cell_machine.specs.declared.staged.Staged.{Staged}
use Rattle.cell_machine.specs.Machine.{keys_of, section_keys, world_of}
use Rattle.cell_machine.specs.Staged.{AreNewIn, ComesTo, IsStaged}
use Rattle.cell_machine.proofs.FieldsMapped.{entry_mapped}
use Rattle.cell_machine.proofs.Rooms.{regions_mapped}
use Rattle.cell_load.specs.declared.landing.Landed.{Landed}
use Rattle.cell_load.specs.Adding.{CanChange, IsReadyToAdd}
use Rattle.cell_load.specs.Stages.{CanStage, IsLanded, Names, new_cells}
use Rattle.cell_load.proofs.Stagings.{staged}
use Rattle.cell_plan.specs.declared.changed.Changed.{Changed}
use Rattle.cell_plan.specs.Exchanged.{IsChange, patches_of}
use Rattle.cell_change.specs.declared.request.Change.{Change}
use Rattle.cell_change.specs.Planning.{IsBegun, IsGatheredFor, view_with, wish}
use Rattle.cell_change.proofs.Decision.Began.{are, aside_is, h, like, no_undo, parts, sources, u, v, good}
use Rattle.cell_change.proofs.Decision.UserChanges.{W, W_is, backs_are, binds_are, fits, moves_are, patches_are, placed, ready, regrown, runs, stays_by, taken, unbinds_are}
use Rattle.cell_change.proofs.Decision.Covered.{G, gathering}
use Rattle.cell_change.proofs.Decision.LinksLead.{are_steps, steps_present}
use Rattle.cell_change.proofs.Decision.ChangeLanded.{comes, stands as stands_in}
use Rattle.cell_change.proofs.Decision.Users.{picked, there_aside, users}

-- runs are taken in one way
one_taken : (a b : ManyTaken) → (let x : Outcome ManyTaken = Ok a in x) ≡ Ok b → a.starts ≡ b.starts
one_taken a b e = cc

module _ (files : List File) (asked : Change) (m : Machine) (b : IsBegun files asked m) (g : Gathered) (gathered : IsGatheredFor files asked m b g) where
  low : m.memory.base + 4096 * m.memory.pages < 2 ^ 63
  low =
      let space = (h files asked m b).ready.space in
      let base = (like files asked m b).base in
      let pages = (like files asked m b).pages in
      omega (arith, base, pages)

  -- the new cells can be linked wherever there is room for them
  module _ (covered : first_uncovered (v files asked m b) (wish b) (G files asked m b g gathered) ≡ None) where
    pub can_stage : CanStage m g
    can_stage = record {
      parts = parts files asked m b;
      gathered = gathered.are;
      low = low;
      stand = λ t runs.
          subst (λ (w : World). AreNewIn w (placed_after t.starts w (new_cells g)) (placed_cells t.starts (new_cells g))) (sym (aside_is files asked m b))
          (stands_in (sources files asked m b) (are files asked m b) (v files asked m b) (h files asked m b) (wish b) (good files asked m b) (new_cells g) (gathering files asked m b g gathered) covered t
          (ap (λ (w : World). take_all w.base (page_table w) (objects_of (new_cells g))) (sym (aside_is files asked m b)) ∙ runs));
    }

    module _ (l : Landed) (landed : IsLanded m g l) (changed : Changed) (is : IsChange (view_with m l) (map placed_of (users files asked m b)) changed) where
      abbrev before : World
      before = v files asked m b

      abbrev later : World
      later = W files asked m b g gathered l landed covered

      abbrev new : List Cell
      new = placed_cells landed.starts (new_cells g)

      fit : first_misfit later new ≡ None
      fit = ap (λ (w : World). first_misfit w new) (sym (W_is files asked m b g gathered l landed covered)) ∙ landed.fit

      abbrev patches_later : List Patch
      patches_later = map (patch_at later) (changed_fields before later)

      -- each entry's link before and by now
      abbrev pub steps : List LinkStep
      steps = link_steps before later

      pub comes_to : ComesTo later new patches_later (afters steps) (relink later)
      comes_to =
          comes (sources files asked m b) (are files asked m b) before (h files asked m b) (wish b) (good files asked m b) (new_cells g) (gathering files asked m b g gathered) covered
          (taken files asked m b g gathered l landed covered) (runs files asked m b g gathered l landed covered) fit (fits files asked m b g gathered l landed covered changed is)

      module _ (s : Staged) (named : Names l s) where
        pub st : IsStaged (world_of m) (new_cells g) s
        st = staged m g can_stage l landed s named

        pub starts_same : st.starts ≡ landed.starts
        starts_same = one_taken _ _ (sym st.runs ∙ landed.runs)

        abbrev pub ready_to_add : IsReadyToAdd m patches_later (afters steps) s
        ready_to_add = record {
          before = before;
          coherent = h files asked m b;
          like = like files asked m b;
          parts = parts files asked m b;
          undo = no_undo files asked m b;
          planned = record {
            new = new_cells g;
            staged = st;
            there =
                subst (λ (xs : List Starts). AreNewIn (world_of m) (placed_after xs (world_of m) (new_cells g)) (placed_cells xs (new_cells g))) (sym starts_same)
                (can_stage.stand (taken files asked m b g gathered l landed covered) landed.runs);
            after = relink later;
            comes =
                subst (λ (xs : List Starts). ComesTo (placed_after xs (world_of m) (new_cells g)) (placed_cells xs (new_cells g)) patches_later (afters steps) (relink later)) (sym starts_same)
                (subst (λ (w : World). ComesTo w new patches_later (afters steps) (relink later)) (sym (W_is files asked m b g gathered l landed covered))
                comes_to);
          };
        }

        all_regions_are : (all_mapped m.memory s.regions.items).regions ≡ later.regions
        all_regions_are =
            ap (λ (rs : List Region). (all_mapped m.memory rs).regions) (st.regions ∙ ap (λ (xs : List Starts). all_regions xs (objects_of (new_cells g))) starts_same)
            ∙ (regions_mapped m.memory landed.starts (objects_of (new_cells g))
            ∙ ap (λ (w : World). w.regions) (W_is files asked m b g gathered l landed covered))

        -- a field that changes is one of a cell that is there
        value_mapped : (c : Cell) → In c before.cells → (f : FieldValue) → In f (patches_of (view_with m l) c.placed) → IsMapped (all_mapped m.memory s.regions.items) f
        value_mapped c i f k =
            let now : Cell = now_in later c in
            let fields : List Entry = filter (is_changed before later c) (fields_of c.object) in
            let e = In-map (value_at now.placed (targets_of later now)) fields f (subst (λ (fs : List FieldValue). In f fs) (patches_are files asked m b g gathered l landed covered changed is c i) k) in
            let there : In now later.cells = subst (λ (d : Cell). In d later.cells) (sym (came_now (sources files asked m b) (are files asked m b) before (h files asked m b) (wish b) (good files asked m b) later (placed files asked m b g gathered l landed covered) c i))
            (In-left (u files asked m b).cells new _ (there_aside files asked m b c i)) in
            let among : In e.0 now.object.entries = subst (λ (p : NewCell). In e.0 p.object.entries) (sym (stays_by files asked m b g gathered l landed covered c i).same)
            (among-In c.object.entries [] e.0 (In-filtered (is_changed before later c) (fields_of c.object) e.0 e.1)) in
            subst (IsMapped (all_mapped m.memory s.regions.items)) (sym e.2)
            (entry_mapped (all_mapped m.memory s.regions.items) later all_regions_are
            (came_linkable (sources files asked m b) (are files asked m b) before (h files asked m b) (wish b) (good files asked m b) later (placed files asked m b g gathered l landed covered))
            now there (targets_of later now) e.0 among)

        pub mapped : All (IsMapped (all_mapped m.memory s.regions.items)) changed.patches.items
        mapped =
            subst (All (IsMapped (all_mapped m.memory s.regions.items))) (sym is.patches)
            (In-All (IsMapped (all_mapped m.memory s.regions.items)) (flat_map (patches_of (view_with m l)) (map placed_of (users files asked m b)))
            (λ f k.
            let p = In-flat_map (patches_of (view_with m l)) (map placed_of (users files asked m b)) f k in
            let c = In-map placed_of (users files asked m b) p.0 p.1 in
            value_mapped c.0 (In-filtered (picked files asked m b) before.cells c.0 c.1) f
            (subst (λ (q : NewCell). In f (patches_of (view_with m l) q)) c.2 p.2)))

        cells_later : map placed_of (relink later).cells ≡ m.cells.items ++ s.cells.items
        cells_later =
            ap (λ (w : World). map placed_of w.cells) comes_to.is
            ∙ (map-append placed_of (u files asked m b).cells new
            ∙ ap₂ (λ (cs ds : List NewCell). cs ++ ds) (ap (λ (w : World). map placed_of w.cells) (sym (aside_is files asked m b)) ∙ (parts files asked m b).joined.placed) (ap (λ (xs : List Starts). map placed_of (placed_cells xs (new_cells g))) (sym starts_same) ∙ sym st.cells))

        keys_are : keys_of (m.cells.items ++ s.cells.items) ≡ m.graph.sections ++ keys_of s.cells.items
        keys_are = flat_map-append section_keys m.cells.items s.cells.items ∙ ap (λ (keys : List SecKey). keys ++ keys_of s.cells.items) (sym (parts files asked m b).sections)

        ready_later : IsReady later
        ready_later = ready files asked m b g gathered l landed covered changed is

        pub change_rewires : IsRewiring m.graph.rows changed.links.unbinds.items changed.links.binds.items changed.links.moves.items steps
        change_rewires = record {
          steps_are = are_steps before later (fresh_cells before.next_cell later) (h files asked m b) ready_later (regrown files asked m b g gathered l landed covered) m.graph.rows b.aside.rows;
          gone_are = unbinds_are files asked m b g gathered l landed covered changed is;
          new_are = binds_are files asked m b g gathered l landed covered changed is;
          led_are = moves_are files asked m b g gathered l landed covered changed is;
        }

        pub change_present : All (λ (r : LinkRow). Contains (m.graph.sections ++ keys_of s.cells.items) r.user × Contains (m.graph.sections ++ keys_of s.cells.items) r.target) (afters steps)
        change_present =
            subst (λ (keys : List SecKey). All (λ r. Contains keys r.user × Contains keys r.target) (afters steps)) keys_are
            (steps_present before later (fresh_cells before.next_cell later) (h files asked m b) ready_later (regrown files asked m b g gathered l landed covered) (relink later) comes_to.coherent (links_from later new)
            (ap (λ (w : World). w.links) comes_to.is ∙ ap (λ (ls : List LinkRow). ls ++ links_from later new) (sym (links_after before later (fresh_cells before.next_cell later) (h files asked m b) ready_later (regrown files asked m b g gathered l landed covered))))
            (m.cells.items ++ s.cells.items) cells_later)

        abbrev pub can_change : CanChange m s changed.patches.items changed.links
        can_change = record {
          mapped = mapped;
          steps = steps;
          rewires = change_rewires;
          backs = backs_are files asked m b g gathered l landed covered changed is;
          present = change_present;
        }
