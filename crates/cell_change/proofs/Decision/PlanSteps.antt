-- The steps of a plan, one after another: what each asks, and which refusal of the definition one that fails gives.
use Rattle.std.proofs.Common.{◌≡◌, refl, sym, ◌∙◌, ap, ap₂, subst, arith, ◌⊎◌, inl, inr, ℕ, ◌+◌, ◌*◌, ◌<◌, ◌^◌, Bor, Global, Vec, List, ◌++◌, ◌≤◌, refl, map, length, Ok}
use Rattle.std.specs.Prelude.{All, IsTrue, Option, None, Err, filter, nat_lt, option_and_then, option_map}
use Rattle.std.proofs.lemmas.Bool.{ltb-true}
use Rattle.std.proofs.lemmas.List.{length-map, map-append}
use Rattle.cell_num.specs.Lists.{each_pair, In}
use Rattle.cell_world.specs.declared.fail.Fail.{Fail}
use Rattle.cell_world.specs.declared.fail.Fail.TheVariants.{Refused, OutOfMemory}
use Rattle.cell_world.specs.declared.file.File.{File}
use Rattle.cell_world.specs.declared.layout.Starts.{Starts}
use Rattle.cell_world.specs.declared.refusal.Refusal.{Refusal}
use Rattle.cell_world.specs.declared.state.NewCell.{NewCell}
use Rattle.cell_world.specs.declared.state.Namespace.{Namespace}
use Rattle.cell_world.specs.Changed.{changed_fields, first_changed_misfit}
use Rattle.cell_world.specs.Coherent.{IsLoadable, has_known_origin, is_known_cell}
use Rattle.cell_world.specs.declared.state.SecPlace.{SecPlace}
use Rattle.cell_world.specs.Gather.{missing}
use Rattle.cell_world.specs.Change.{first_uncovered, plan_of, restart_refusal, restarting}
use Rattle.cell_world.specs.Running.Restart.{no_entry_again}
use Rattle.cell_world.specs.Torn.{first_torn}
use Rattle.cell_world.specs.World.{Cell, World, attached, is_ready}
use Rattle.cell_lemmas.specs.Grown.{patch_at}
use Rattle.cell_lemmas.proofs.Naming.Appended.{unmapped}
use Rattle.cell_num.proofs.Elements.{All-In, In-All, In-append, In-filtered, In-map, all-In, map-In, pairs-map}
use Rattle.cell_lemmas.proofs.Naming.Known.{known_parts}
use Rattle.cell_lemmas.proofs.Placement.Inside.{ready_linkable}
use Rattle.cell_machine.proofs.Low.{is_low, place_low}
use Rattle.cell_hold.specs.declared.roots.Root.{Root}
use Rattle.cell_task.specs.State.{TasksState}
use Rattle.cell_lemmas.specs.Loads.{placed_cells}
use Rattle.cell_world.specs.Linked.Fit.{first_misfit}
use Rattle.cell_unload.specs.declared.outlook.Outlook.{Outlook}
use Rattle.cell_space.specs.Ahead.{AheadState}
use Rattle.cell_space.specs.Joined.{placed_of}
use Rattle.cell_space.specs.Spaces.{HasCell}
use Rattle.cell_target.specs.Scene.{AreCells}
use Rattle.cell_gather.specs.declared.gathering.Gathered.{Gathered}
use Rattle.cell_machine.specs.declared.machine.Machine.{Machine}
use Rattle.cell_machine.specs.declared.staged.Staged.{Staged}
use Rattle.cell_machine.specs.Machine.{world_of}
use Rattle.cell_load.specs.declared.landing.Landed.{Landed}
use Rattle.cell_world.specs.Following.{FailsAs}
use Rattle.cell_world.specs.Commands.SwapTransfer.{Begin, begins_of}
use Rattle.cell_routines.specs.declared.entries.Begin.{Begin as Place}
use Rattle.cell_routines.specs.Begins.{begin_as}
use Rattle.cell_routines.specs.Placed.{routines_among}
use Rattle.cell_layout.specs.Placing.{extra_start}
use Rattle.cell_change.specs.Asking.{restart_by}
use Rattle.cell_change.specs.Restarting.{AreAhead, Begins, KnowOrigins, live_named}
use Rattle.cell_change.specs.Transferring.{pages_for}
use Rattle.cell_world.specs.Change.{Plan as PlanSaid}
use Rattle.cell_change.proofs.Decision.BeginsPlain.{aside_older, begins_long, begins_new, begins_plain, placed_of_new, routines_same}
use Rattle.cell_machine.proofs.StagedWorld.{numbers_new}
use Rattle.cell_place.specs.Space.{SpaceState}
use Rattle.cell_load.specs.Stages.{IsLanded, Lands, Names, new_cells, placing}
use Rattle.cell_plan.specs.Coverage.{Covers, first_lost, others_in}
use Rattle.cell_plan.specs.declared.changed.Changed.{Changed}
use Rattle.cell_plan.specs.Exchanged.{Change as Changes, IsChange, MayChange, first_unfit}
use Rattle.cell_plan.specs.Spans.{span_at}
use Rattle.cell_plan.specs.Users.{may_change as may_change_by}
use Rattle.cell_change.specs.declared.affected.Affected.{Affected}
use Rattle.cell_change.specs.declared.request.Change.{Change}
use Rattle.cell_change.specs.Planning.{FindsNew, GathersFor, IsAffected, IsBegun, IsGatheredFor, IsPlan, Looks, Plans, numbers_in, view_with, wish}
use Rattle.cell_change.proofs.Decision.Began.{are, aside_is, good, h, old, parts, sources, u, v}
use Rattle.cell_change.proofs.Decision.UserChanges.{W, W_is, as_many, fits, patches_from_are, runs, spans_are, taken, unfit_is}
use Rattle.cell_change.proofs.Decision.BeginsBy.{begins_by}
use Rattle.cell_change.proofs.Decision.Covered.{G, gathering, is_ahead, lost_is}
use Rattle.cell_change.proofs.Decision.Planned.{can_change, ready_to_add, st, starts_same}
use Rattle.cell_change.proofs.Decision.ChangeLanded.{accepted, changed_refused, fresh_placed, in_order, misplaced, plan as plan_in, torn_refused, unbegun, uncovered, unplaced}
use Rattle.cell_change.proofs.Decision.Users.{has_cell, picked, same_place, softs, there_aside, users, users_are}

-- where the routines begin, and their stack, as code says it
pub begun_as : (words : List (List ℕ)) (g : Gathered) (begins : List Place) (cells : List NewCell) → cells ≡ g.cells.items → begins_of (map attached cells) words ≡ Ok (map begin_as begins) → begins_of (map attached g.cells.items) words ≡ Ok (map begin_as begins)
begun_as words g begins cells same e = subst (λ (cs : List NewCell). begins_of (map attached cs) words ≡ Ok (map begin_as begins)) same e

pub stack_as : (m : Machine) (l : Landed) (words : List (List ℕ)) (pages : ℕ) → pages ≡ pages_for words → extra_start m.memory.base l.space.taken pages ≡ Ok l.extra → extra_start m.memory.base l.space.taken (pages_for words) ≡ Ok l.extra
stack_as m l words pages same e = subst (λ (n : ℕ). extra_start m.memory.base l.space.taken n ≡ Ok l.extra) same e

pub low_before : (files : List File) (asked : Change) (m : Machine) (b : IsBegun files asked m) → (v files asked m b).base + 4096 * (v files asked m b).pages < 2 ^ 63
low_before files asked m b = let space = (h files asked m b).ready.space in omega arith

pub tasks_ordered : (files : List File) (asked : Change) (m : Machine) (b : IsBegun files asked m) → IsTrue (each_pair (λ a b. nat_lt a.number b.number) m.tasks.tasks)
tasks_ordered files asked m b = subst (λ (ts : TasksState). IsTrue (each_pair (λ a b. nat_lt a.number b.number) ts.tasks)) (sym b.aside.tasks) (h files asked m b).ready.task_order

module _ (files : List File) (asked : Change) (m : Machine) (b : IsBegun files asked m) where
  abbrev words : List (List ℕ)
  words = asked.options.routines.now

  abbrev before : World
  before = v files asked m b

  named_live : live_named m.tasks (restart_by asked.options.ending) ≡ restarting before (wish b)
  named_live = ap (λ (ts : TasksState). live_named ts (restart_by asked.options.ending)) b.aside.tasks

  pub gather_failed : (fail : Fail) → GathersFor files asked m b (Err fail) → FindsNew files asked m b (Err fail)
  gather_failed (Refused r) e = e
  gather_failed OutOfMemory e = tt

  pub not_found : (roots : Option (List Root)) (fail : Fail) → FindsNew files asked m b (Err fail) → Plans files asked m b roots (Err fail)
  not_found roots (Refused r) e = e
  not_found roots OutOfMemory e = tt

  module _ (x : Affected) (is : IsAffected m asked x) where
    abbrev olds : List ℕ
    olds = numbers_in x

    abbrev using : List (Bor NewCell)
    using = x.cells.items

    olds_are : olds ≡ map (λ c. c.0) asked.replaced.items
    olds_are = ap (map (λ c. c.0)) is.old

    are_users : map (λ c. c.now) using ≡ map placed_of (users files asked m b)
    are_users = is.cells ∙ (ap (λ (ns : List ℕ). filter (may_change_by ns (softs files asked m b) m.graph.rows) m.cells.items) olds_are ∙ users_are files asked m b)

    -- each is a cell that was there
    one_user : (y : Bor NewCell) → In y using → (d : Cell) × In d before.cells × (y.now ≡ d.placed)
    one_user y i =
        let e = In-map placed_of (users files asked m b) y.now (subst (λ (cs : List NewCell). In y.now cs) are_users (map-In (λ (c : Bor NewCell). c.now) using y i)) in
        (e.0, In-filtered (picked files asked m b) before.cells e.0 e.1, e.2)

    pub users_known : All (λ (c : Bor NewCell). HasCell m.spaces c.now.id.0) using
    users_known =
        In-All (λ (c : Bor NewCell). HasCell m.spaces c.now.id.0) using
        (λ y i. let d = one_user y i in
        subst (λ (p : NewCell). HasCell m.spaces p.id.0) (same_place files asked m b d.0 ∙ sym d.2) (has_cell files asked m b _ (there_aside files asked m b d.0 d.1)))

    pub users_there : All (λ (c : Bor NewCell). In c.now m.cells.items) using
    users_there =
        In-All (λ (c : Bor NewCell). In c.now m.cells.items) using
        (λ y i. let d = one_user y i in
        subst (λ (p : NewCell). In p m.cells.items) (sym d.2) (subst (λ (cs : List NewCell). In d.0.placed cs) (sym (b.aside.cells ∙ sym b.sound.joined.placed)) (map-In placed_of before.cells d.0 d.1)))

    module _ (g : Gathered) (gathered : IsGatheredFor files asked m b g) where
      pub users_spaces : All (λ (c : Bor NewCell). c.now.ns < length g.ahead.namespaces) using
      users_spaces =
          In-All (λ (c : Bor NewCell). c.now.ns < length g.ahead.namespaces) using
          (λ y i. let d = one_user y i in
          subst (λ (p : NewCell). p.ns < length g.ahead.namespaces) (sym d.2)
          (subst (λ (ns : List Namespace). d.0.ns < length ns) (sym (gathered.are.namespaces ∙ b.aside.namespaces))
          (ltb-true d.0.ns (length before.namespaces) (known_parts before d.0 (all-In (is_known_cell before) before.cells (h files asked m b).ready.cells d.0 d.1)).ns)))

      abbrev lost : Option Refusal
      lost = first_lost (G files asked m b g gathered) (others_in m.spaces olds (map (λ c. c.now) using))

      lost_so : lost ≡ option_map missing (first_uncovered before (wish b) (G files asked m b g gathered))
      lost_so =
          ap₂ (λ (ns : List ℕ) (cs : List NewCell). first_lost (G files asked m b g gathered) (others_in m.spaces ns cs)) olds_are are_users
          ∙ lost_is files asked m b g gathered

      pub coverage_failed : (fail : Fail) → Covers lost (Err fail) → FindsNew files asked m b (Err fail)
      coverage_failed (Refused r) e =
          uncovered (sources files asked m b) (are files asked m b) before (h files asked m b) (wish b) (good files asked m b) (new_cells g) (gathering files asked m b g gathered) r (sym lost_so ∙ e)
      coverage_failed OutOfMemory e = tt

      pub all_covered : lost ≡ None → first_uncovered before (wish b) (G files asked m b g gathered) ≡ None
      all_covered e = unmapped missing _ (sym lost_so ∙ e)

      -- the task that is to begin again has a place to begin
      abbrev HasPlace : Type 0
      HasPlace = restart_refusal before (wish b) (G files asked m b g gathered) ≡ None

      pub has_place : (again : Option ℕ) → Begins (G files asked m b g gathered) m.tasks (restart_by asked.options.ending) (Ok again) → HasPlace
      has_place again x = ap (option_and_then (no_entry_again (G files asked m b g gathered))) (sym named_live) ∙ x.0

      pub are_ahead : AreAhead (G files asked m b g gathered) m g
      are_ahead = record {
        named = is_ahead files asked m b g gathered;
        placed =
            map-append placed_of (u files asked m b).cells (new_cells g)
            ∙ ap₂ (λ (xs ys : List NewCell). xs ++ ys) (ap (λ (w : World). map placed_of w.cells) (sym (aside_is files asked m b)) ∙ (parts files asked m b).joined.placed) gathered.are.placed;
      }

      -- what live tasks keep of their spawns is known there
      pub know_origins : KnowOrigins m g
      know_origins t i = record {
        known =
            subst (λ (ns : List Namespace). t.origin.ns < length ns) (sym (gathered.are.namespaces ∙ b.aside.namespaces))
            (ltb-true t.origin.ns (length before.namespaces) (all-In (has_known_origin before) before.tasks (h files asked m b).ready.origins t (subst (λ (ts : TasksState). In t ts.tasks) b.aside.tasks i)));
        rise =
            subst (λ (cs : List NewCell). IsTrue (each_pair (λ (x y : NewCell). nat_lt x.id.0 y.id.0) cs)) are_ahead.placed
            (pairs-map (λ (x y : NewCell). nat_lt x.id.0 y.id.0) placed_of (G files asked m b g gathered).cells
            ∙ in_order (sources files asked m b) (are files asked m b) before (h files asked m b) (wish b) (good files asked m b) (new_cells g) (gathering files asked m b g gathered));
        loadable = λ c k. loadable c (In-append m.cells.items g.cells.items c k);
      }
        where
          loadable : (c : NewCell) → In c m.cells.items ⊎ In c g.cells.items → IsLoadable c.object
          loadable c (inl k) =
              let d = In-map placed_of before.cells c (subst (λ (cs : List NewCell). In c cs) (b.aside.cells ∙ sym b.sound.joined.placed) k) in
              subst (λ (p : NewCell). IsLoadable p.object) (sym d.2) (All-In (λ (x : Cell). IsLoadable x.object) before.cells (h files asked m b).ready.objects d.0 d.1)
          loadable c (inr k) = All-In (λ (x : NewCell). IsLoadable x.object) g.cells.items gathered.are.objects c k

      module _ (covered : first_uncovered before (wish b) (G files asked m b g gathered) ≡ None) where
        -- the places of routines are a matter of the placed cells
        begins_are : begins_of (map attached g.cells.items) words ≡ begins_of (new_cells g) words
        begins_are = ap (λ (cs : List NewCell). begins_of (map attached cs) words) (sym gathered.are.placed) ∙ begins_plain (new_cells g) words

        pub begins_failed : (roots : Option (List Root)) (fail : Fail) → FailsAs fail (begins_of (map attached g.cells.items) words) → Plans files asked m b roots (Err fail)
        begins_failed roots (Refused r) e =
            unbegun (sources files asked m b) (are files asked m b) before (h files asked m b) (wish b) (good files asked m b) (new_cells g) (gathering files asked m b g gathered) covered r
            (sym begins_are ∙ e)
        begins_failed roots OutOfMemory e = tt

        module _ (begins : List Begin) (begun : begins_of (map attached g.cells.items) words ≡ Ok begins) where
          begun_so : begins_of (new_cells g) words ≡ Ok begins
          begun_so = sym begins_are ∙ begun

          pub again_failed : (roots : Option (List Root)) (fail : Fail) → Begins (G files asked m b g gathered) m.tasks (restart_by asked.options.ending) (Err fail) → Plans files asked m b roots (Err fail)
          again_failed roots (Refused r) e =
              misplaced (sources files asked m b) (are files asked m b) before (h files asked m b) (wish b) (good files asked m b) (new_cells g) (gathering files asked m b g gathered) covered begins begun_so r
              (ap (option_and_then (no_entry_again (G files asked m b g gathered))) (sym named_live) ∙ e)
          again_failed roots OutOfMemory e = tt

          pub landing_failed : HasPlace → (roots : Option (List Root)) (fail : Fail) → Lands m g (pages_for words) (Err fail) → Plans files asked m b roots (Err fail)
          landing_failed again roots (Refused r) e =
              unplaced (sources files asked m b) (are files asked m b) before (h files asked m b) (wish b) (good files asked m b) (new_cells g) (gathering files asked m b g gathered) covered begins begun_so again r
              (ap (λ (w : World). placing w (new_cells g) (pages_for words)) (sym (aside_is files asked m b)) ∙ e)
          landing_failed again roots OutOfMemory e = tt

        module _ (l : Landed) (landed : IsLanded m g l) where
          pub cells_are : AreCells l.ahead.cells (m.cells.items ++ l.cells.items)
          cells_are = subst (λ (a : AheadState). AreCells a.cells (m.cells.items ++ l.cells.items)) (sym landed.same) landed.are

          -- what is asked of a user whose links and fields change
          one_may : (d : Cell) → In d before.cells → MayChange (view_with m l) d.placed
          one_may d i = record {
            known = subst (λ (p : NewCell). HasCell m.spaces p.id.0) (same_place files asked m b d) (has_cell files asked m b _ (there_aside files asked m b d i));
            ns =
                subst (λ (a : AheadState). d.ns < length a.namespaces) (sym landed.same)
                (subst (λ (ns : List Namespace). d.ns < length ns) (sym (gathered.are.namespaces ∙ b.aside.namespaces))
                (ltb-true d.ns (length before.namespaces) (known_parts before d (all-In (is_known_cell before) before.cells (h files asked m b).ready.cells d i)).ns));
            few = (All-In (λ (x : Cell). IsLoadable x.object) before.cells (h files asked m b).ready.objects d i).entries;
            places = In-All (λ (p : SecPlace). p.start < 2 ^ 63) d.places (place_low before (ready_linkable before (h files asked m b).ready) (low_before files asked m b) d i);
            low = is_low before (ready_linkable before (h files asked m b).ready) (low_before files asked m b) d i;
          }

          pub may_change : All (λ (c : Bor NewCell). MayChange (view_with m l) c.now) using
          may_change =
              In-All (λ (c : Bor NewCell). MayChange (view_with m l) c.now) using
              (λ y i. let d = one_user y i in subst (MayChange (view_with m l)) (sym d.2) (one_may d.0 d.1))

          abbrev unfit : Option Refusal
          unfit = first_unfit (view_with m l) (map (λ c. c.now) using)

          unfit_so : unfit ≡ first_changed_misfit before (W files asked m b g gathered l landed covered) before.cells
          unfit_so =
              ap (first_unfit (view_with m l)) are_users
              ∙ unfit_is files asked m b g gathered l landed covered

          -- the new cells fit where they stand
          new_fit : first_misfit (W files asked m b g gathered l landed covered) (placed_cells landed.starts (new_cells g)) ≡ None
          new_fit = ap (λ (w : World). first_misfit w (placed_cells landed.starts (new_cells g))) (sym (W_is files asked m b g gathered l landed covered)) ∙ landed.fit

          -- where the stack starts
          abbrev HasStack : Type 0
          HasStack = extra_start m.memory.base l.space.taken (pages_for words) ≡ Ok l.extra

          stack_so : HasStack → extra_start (u files asked m b).base l.space.taken (pages_for words) ≡ Ok l.extra
          stack_so e = ap (λ (w : World). extra_start w.base l.space.taken (pages_for words)) (sym (aside_is files asked m b)) ∙ e

          pub changing_failed : (begins : List Begin) → begins_of (map attached g.cells.items) words ≡ Ok begins → HasPlace → HasStack
              → (roots : Option (List Root)) (fail : Fail) → Changes (view_with m l) (map (λ c. c.now) using) (Err fail) → Plans files asked m b roots (Err fail)
          changing_failed begins begun again at roots (Refused r) e =
              changed_refused (sources files asked m b) (are files asked m b) before (h files asked m b) (wish b) (good files asked m b) (new_cells g) (gathering files asked m b g gathered) covered
              begins (begun_so begins begun) again (taken files asked m b g gathered l landed covered) (runs files asked m b g gathered l landed covered) l.extra (stack_so at) new_fit r (sym unfit_so ∙ e)
          changing_failed begins begun again at roots OutOfMemory e = tt

          pub sections_ordered : (c : NewCell) → In c (m.cells.items ++ l.cells.items) → IsTrue (each_pair (λ a b. nat_lt a.section b.section) c.places)
          sections_ordered c i = (landed.are.low c i).ordered

          module _ (changed : Changed) (change : IsChange (view_with m l) (map (λ c. c.now) using) changed) where
            changes : IsChange (view_with m l) (map placed_of (users files asked m b)) changed
            changes = subst (λ (cs : List NewCell). IsChange (view_with m l) cs changed) are_users change

            pub spans_so : changed.spans.items ≡ map span_at (changed_fields before (W files asked m b g gathered l landed covered))
            spans_so = spans_are files asked m b g gathered l landed covered changed changes

            abbrev torn : Option Refusal
            torn = first_torn (changed_fields before (W files asked m b g gathered l landed covered)) (filter is_ready m.tasks.tasks)

            torn_so : torn ≡ first_torn (changed_fields before (W files asked m b g gathered l landed covered)) (filter is_ready before.tasks)
            torn_so = ap (λ (ts : TasksState). first_torn (changed_fields before (W files asked m b g gathered l landed covered)) (filter is_ready ts.tasks)) b.aside.tasks

            pub standing_failed : (begins : List Begin) → begins_of (map attached g.cells.items) words ≡ Ok begins → HasPlace → HasStack
                → (roots : Option (List Root)) (fail : Fail) → Covers torn (Err fail) → Plans files asked m b roots (Err fail)
            standing_failed begins begun again at roots (Refused r) e =
                torn_refused (sources files asked m b) (are files asked m b) before (h files asked m b) (wish b) (good files asked m b) (new_cells g) (gathering files asked m b g gathered) covered
                begins (begun_so begins begun) again (taken files asked m b g gathered l landed covered) (runs files asked m b g gathered l landed covered) l.extra (stack_so at) new_fit
                (fits files asked m b g gathered l landed covered changed changes) r (sym torn_so ∙ e)
            standing_failed begins begun again at roots OutOfMemory e = tt

            module _ (begins : Vec Place Global) (begun : begins_of (map attached g.cells.items) words ≡ Ok (map begin_as begins.items)) (again : Option ℕ) (begins_so : Begins (G files asked m b g gathered) m.tasks (restart_by asked.options.ending) (Ok again)) (at : HasStack) (low : All (λ x. x.offset < 2 ^ 32) begins.items)
                (roots : Option (List Root)) (untorn : torn ≡ None) (outlook : Option Outlook) (looks : Looks m l.cells.items roots outlook)
                (s : Staged) (named : Names l s) where
              abbrev later : World
              later = W files asked m b g gathered l landed covered

              abbrev new : List Cell
              new = placed_cells landed.starts (new_cells g)

              -- the plan of the definition
              abbrev said : PlanSaid
              said =
                  plan_in (sources files asked m b) (are files asked m b) before (h files asked m b) (wish b) (good files asked m b) (new_cells g) (gathering files asked m b g gathered) covered
                  (map begin_as begins.items) (begun_so (map begin_as begins.items) begun) (has_place again begins_so) (taken files asked m b g gathered l landed covered) (runs files asked m b g gathered l landed covered) l.extra (stack_so at)

              -- the new cells have the highest numbers
              is_older : (c : Cell) → In c (u files asked m b).cells → c.id.0 < before.next_cell
              is_older c i = aside_older files asked m b c i

              is_newer : (c : Cell) → In c new → before.next_cell ≤ c.id.0
              is_newer c i =
                  subst (λ (n : ℕ). n ≤ c.id.0) b.aside.next
                  (numbers_new (world_of m) (new_cells g) s (st files asked m b g gathered covered l landed changed changes s named)
                  (ready_to_add files asked m b g gathered covered l landed changed changes s named).there c
                  (subst (λ (xs : List Starts). In c (placed_cells xs (new_cells g))) (sym (starts_same files asked m b g gathered covered l landed changed changes s named)) i))

              entries_are : said.routines ≡ routines_among s.cells.items (map begin_as begins.items)
              entries_are =
                  routines_same later (u files asked m b).cells new refl before.next_cell is_older is_newer (map begin_as begins.items)
                  (placed_of_new landed.starts (new_cells g) (map begin_as begins.items) landed.each (begins_new (new_cells g) words (map begin_as begins.items) (begun_so (map begin_as begins.items) begun)))
                  ∙ ap (λ (cs : List NewCell). routines_among cs (map begin_as begins.items)) (sym (named.cells ∙ landed.cells))

              begins_count : length begins.items ≡ length words
              begins_count =
                  let long = begins_long (new_cells g) words (map begin_as begins.items) (begun_so (map begin_as begins.items) begun) in
                  let mapped = length-map begins.items begin_as in
                  omega (arith, long, mapped)

              is_said : plan_of (sources files asked m b) before (wish b) ≡ Ok said
              is_said =
                  accepted (sources files asked m b) (are files asked m b) before (h files asked m b) (wish b) (good files asked m b) (new_cells g) (gathering files asked m b g gathered) covered
                  (map begin_as begins.items) (begun_so (map begin_as begins.items) begun) (has_place again begins_so)
                  (taken files asked m b g gathered l landed covered) (runs files asked m b g gathered l landed covered) l.extra (stack_so at) new_fit
                  (fits files asked m b g gathered l landed covered changed changes) (sym torn_so ∙ untorn)

              pub is_plan : IsPlan files asked m b roots (record { staged = s; patches = changed.patches; links = changed.links; outlook = outlook; begins = begins; stack = l.extra; again = again })
              is_plan = record {
                plan = said;
                is = is_said;
                changed = map (patch_at later) (changed_fields before later);
                ready = ready_to_add files asked m b g gathered covered l landed changed changes s named;
                linked = refl;
                fresh = fresh_placed (sources files asked m b) (are files asked m b) before (h files asked m b) (wish b) (good files asked m b) (new_cells g) (gathering files asked m b g gathered) covered
                    (taken files asked m b g gathered l landed covered) (runs files asked m b g gathered l landed covered)
                    ∙ ap (λ (xs : List Starts). placed_cells xs (new_cells g)) (sym (starts_same files asked m b g gathered covered l landed changed changes s named));
                patches = patches_from_are files asked m b g gathered l landed covered changed changes;
                count = as_many files asked m b g gathered l landed covered changed changes;
                change = can_change files asked m b g gathered covered l landed changed changes s named;
                looks = subst (λ (cs : List NewCell). Looks m cs roots outlook) (sym named.cells) looks;
                named = begins_count;
                stack = ap (λ (x : SpaceState). extra_start m.memory.base x.taken (pages_for words)) named.space ∙ at;
                stack_is = refl;
                begins = low;
                routines = entries_are;
                again = begins_by files asked m b said is_said again begins_so.1;
              }
